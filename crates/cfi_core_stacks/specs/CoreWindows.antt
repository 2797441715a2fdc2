-- What the files of a core have of the memory of its process.
--     AreWindows opened mapped windows      what they have, by its addresses
--     AreKnownWindows is_whole opened mapped found      the same, where all of it was read
use Rattle.std.specs.Prelude.{◌≡◌, ℕ, ◌-◌, Bool, true, false, List, Option, drop, find, take}
use Rattle.std.specs.List.{filter_map}
use Rattle.std.specs.Option.{option_and_then, option_map}
use Rattle.std.specs.Str.{bytes_eq}
use Rattle.cfi_mapped.specs.OpenedFiles.{Opened}
use Rattle.cfi_cores.specs.CoreSegments.{AreSortedByAddress, CoreSegment}
use Rattle.cfi_cores.specs.MappedFiles.{CoreMapping}

abbrev pub mapped_part : CoreMapping → List ℕ → CoreSegment
mapped_part m bytes = record {
  start = m.start;
  bytes = take (m.end - m.start) (drop m.offset bytes);
  is_executable = false;
}

abbrev pub bytes_named : List Opened → List ℕ → Option (List ℕ)
bytes_named opened name =
    option_and_then (λ one. one.bytes) (find (λ one. bytes_eq one.name name) opened)

abbrev pub file_window : List Opened → CoreMapping → Option CoreSegment
file_window opened m = option_map (mapped_part m) (bytes_named opened m.name)

-- by rising addresses
abbrev pub AreWindows : List Opened → List CoreMapping → List CoreSegment → Type 0
AreWindows opened mapped windows =
    AreSortedByAddress (filter_map (file_window opened) mapped) windows

abbrev pub AreKnownWindows :
    Bool → List Opened → List CoreMapping → List CoreSegment → Type 0
AreKnownWindows is_whole opened mapped found =
    (windows : List CoreSegment) × AreWindows opened mapped windows
    × (is_whole ≡ true → found ≡ windows)
