-- What the parts have that were read of a core file, all but the bytes of its memory.
--     segment_at bytes place      the segment of a header, with all its bytes
--     head_in bytes mapped place      the same, with its bytes only where the first byte of a file
--         is mapped
--     with_all bytes core places      a core whose segments are at these places, with all bytes
--     IsPartial bytes partial      what the parts have, by the bytes of the whole file
use Rattle.std.specs.Prelude.{◌≡◌, ℕ, Bool, not, ◌&&◌, List, [], map, bit_and, Ok, ◌==◌}
use Rattle.std.specs.Prelude.{if◌then◌else◌}
use Rattle.std.specs.List.{list_any}
use Rattle.std.specs.List.Sorted.{IsNonDecreasingBy}
use Rattle.cfi_elf.specs.declared.program_header.ProgramHeader.{ProgramHeader}
use Rattle.cfi_cores.specs.declared.partial_cores.PartialCore.{PartialCore}
use Rattle.cfi_cores.specs.CoreFiles.{Core, IsSortedCore, core_of, core_view}
use Rattle.cfi_cores.specs.CoreSegments.{CoreSegment, segment_bytes}
use Rattle.cfi_cores.specs.MappedFiles.{CoreMapping}

abbrev pub segment_at : List ℕ → ProgramHeader → CoreSegment
segment_at bytes place = record {
  start = place.p_vaddr;
  bytes = segment_bytes bytes place;
  is_executable = not (bit_and place.p_flags 1 == 0);
}

-- whether the first byte of a file is mapped at an address
abbrev pub is_head : List CoreMapping → ℕ → Bool
is_head mapped a = list_any (λ m. (m.offset == 0) && (m.start == a)) mapped

abbrev pub bytes_if : List ℕ → Bool → ProgramHeader → List ℕ
bytes_if bytes is_head place = if is_head then segment_bytes bytes place else []

abbrev pub head_in : List ℕ → List CoreMapping → ProgramHeader → CoreSegment
head_in bytes mapped place =
    record (segment_at bytes place) { bytes = bytes_if bytes (is_head mapped place.p_vaddr) place }

abbrev pub with_all : List ℕ → Core → List ProgramHeader → Core
with_all bytes core places = record core { segments = map (segment_at bytes) places }

pub record IsPartial (bytes : List ℕ) (partial : PartialCore) : Type 0 where
  pub found : Core
  pub reads : core_of bytes ≡ Ok found
  pub sorted :
      IsSortedCore found (with_all bytes (core_view partial.core) partial.places.items)
  pub heads :
      (core_view partial.core).segments
      ≡ map (head_in bytes (core_view partial.core).mapped) partial.places.items
  pub in_order : IsNonDecreasingBy (λ (h : ProgramHeader). h.p_vaddr) partial.places.items
