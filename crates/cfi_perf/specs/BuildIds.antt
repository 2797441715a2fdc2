-- The builds of the files that a profile names: entries that are framed as records
-- (perf.data-file-format.txt, HEADER_BUILD_ID, struct build_id_event).
--     with_build_id big table mapping      a mapping with its build, by this table
use Rattle.std.specs.Prelude.{ℕ, zero, suc, Bool, false, ◌&&◌, ◌||◌, List, length, drop, Option}
use Rattle.std.specs.Prelude.{Some, None, Result, Ok, Err, ◌==◌, if◌then◌else◌}
use Rattle.std.specs.Option.{option_map_or, option_or}
use Rattle.std.specs.Str.{bytes_eq}
use Rattle.cfi_perf.specs.declared.error.PerfError.{PerfError}
use Rattle.cfi_perf.specs.ByteReads.{before_zero}
use Rattle.cfi_perf.specs.Layouts.{has_any}
use Rattle.cfi_perf.specs.CountedIds.{count_at, counted_id}
use Rattle.cfi_perf.specs.Events.{Mapping}
use Rattle.cfi_perf.specs.RecordFrames.{FramedRecord, split_record}

-- after pid, of four bytes, are 20 for the id; if PERF_RECORD_MISC_BUILD_ID_SIZE (1 << 15) is set,
-- the byte after them counts those that it has
abbrev pub entry_id : FramedRecord → Option (List ℕ)
entry_id entry =
    counted_id (if has_any 0x8000 entry.header.misc then count_at 24 entry.body else 20)
    (drop 4 entry.body)

-- perf gives those of a file no type; in a pipe they are PERF_RECORD_HEADER_BUILD_ID (67), among
-- other records
abbrev pub has_build_id : FramedRecord → Bool
has_build_id entry = (entry.header.kind == 0) || (entry.header.kind == 67)

-- the file's name comes last
abbrev pub is_entry_named : List ℕ → FramedRecord → Bool
is_entry_named name entry =
    option_map_or (λ found. has_build_id entry && bytes_eq found name)
    (before_zero (drop 28 entry.body)) false

abbrev pub id_with :
    List ℕ → Result FramedRecord PerfError → (List ℕ → Option (List ℕ)) → Option (List ℕ)
id_with name (Err e) others = None
id_with name (Ok entry) others =
    if is_entry_named name entry then entry_id entry else others entry.others

-- of the first n entries at most
unfoldable pub id_up_to : ℕ → Bool → List ℕ → List ℕ → Option (List ℕ)
id_up_to zero big name table = None
id_up_to (suc n) big name table =
    id_with name (split_record big table) (id_up_to n big name)

-- that of the first entry with the name; each takes a byte at least
abbrev pub listed_build_id : Bool → List ℕ → List ℕ → Option (List ℕ)
listed_build_id big name table = id_up_to (length table) big name table

-- the record's own, or else the table's
abbrev pub with_build_id : Bool → List ℕ → Mapping → Mapping
with_build_id big table m =
    record m { build_id = option_or m.build_id (listed_build_id big m.name table) }
