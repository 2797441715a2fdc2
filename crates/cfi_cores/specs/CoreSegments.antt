-- The segments of a core file that were loaded (System V ABI chapter 5, "Program Header").
--     segment_bytes bytes header      the bytes of a segment, as far as the file has them
--     loaded_in bytes header      the segment of a header of type PT_LOAD
--     bytes_at segments a      the bytes of the first segment that begins at an address
--     AreByAddress segments      none begins at a lower address than the one before it
--     number_among segments a size      the number of so many bytes at an address, by the last
--         segment that begins at or below it
use Rattle.std.specs.Prelude.{◌≡◌, ℕ, Bool, false, not, List, drop, take, map, bit_and, Option}
use Rattle.std.specs.Prelude.{Some, None, find, nat_le, option_map, ◌==◌, if◌then◌else◌}
use Rattle.std.specs.List.{filter, last_or}
use Rattle.std.specs.List.Sorted.{IsNonDecreasingBy, IsSortedByKey, IsStableByKey}
use Rattle.std.specs.Option.{option_and_then}
use Rattle.std.specs.Ordering.{nat_cmp}
use Rattle.cfi_read_core.specs.SliceReaders.{slice_over}
use Rattle.cfi_elf.specs.declared.program_header.ProgramHeader.{ProgramHeader}
use Rattle.cfi_expression.specs.Windows.{number_in}
use Rattle.cfi_cores.specs.declared.segments.CoreSegment.{CoreSegment as SegmentOfCode}

-- Bytes of memory from an address on.
pub record CoreSegment : Type 0 where
  pub start : ℕ
  pub bytes : List ℕ
  pub is_executable : Bool

-- what a segment of the code is
abbrev pub segment_view : SegmentOfCode → CoreSegment
segment_view s =
    record { start = s.start; bytes = s.bytes.now; is_executable = s.is_executable }

-- ---- the segments of a file

abbrev pub segment_bytes : List ℕ → ProgramHeader → List ℕ
segment_bytes bytes header = take header.p_filesz (drop header.p_offset bytes)

-- PT_LOAD is 1, PF_X is 1
abbrev pub loaded_in : List ℕ → ProgramHeader → Option CoreSegment
loaded_in bytes header =
    if header.p_type == 1
    then Some (record {
      start = header.p_vaddr;
      bytes = segment_bytes bytes header;
      is_executable = not (bit_and header.p_flags 1 == 0);
    })
    else None

abbrev pub bytes_at : List CoreSegment → ℕ → Option (List ℕ)
bytes_at segments a = option_map (λ s. s.bytes) (find (λ s. s.start == a) segments)

-- ---- in the order of their addresses

abbrev pub AreByAddress : List SegmentOfCode → Type 0
AreByAddress segments = IsNonDecreasingBy (λ s. s.start) segments

-- those of `found` by rising addresses; those of one address stay in their order
pub record AreSortedByAddress (found sorted : List CoreSegment) : Type 0 where
  pub read : List SegmentOfCode
  pub ordered : List SegmentOfCode
  pub are : map segment_view read ≡ found
  pub by_start : IsSortedByKey (λ s. s.start) nat_cmp ordered
  pub stable : IsStableByKey (λ s. s.start) nat_cmp read ordered
  pub view : map segment_view ordered ≡ sorted

-- ---- numbers in them

-- the number of so many bytes at an address, if the segment has all of them
abbrev pub segment_number : ℕ → ℕ → CoreSegment → Option ℕ
segment_number a size s = number_in (slice_over s.bytes false) s.start a size

-- the last segment that begins at or below an address
abbrev pub last_up_to : ℕ → List CoreSegment → Option CoreSegment
last_up_to a segments = last_or None (filter (λ s. nat_le s.start a) segments)

abbrev pub number_among : List CoreSegment → ℕ → ℕ → Option ℕ
number_among segments a size = option_and_then (segment_number a size) (last_up_to a segments)
