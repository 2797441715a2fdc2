-- The part of a thread's stack that was read of a core file.
--     IsSegmentWindow segment next window      bytes of a segment, all below the address at which
--         the next one begins
--     IsStackOf segments window      each number in the part is the one in the segments
use Rattle.std.specs.Prelude.{◌≡◌, ℕ, zero, suc, ◌+◌, ◌-◌, ◌^◌, ◌≤◌, List, [], ◌∷◌, length, take}
use Rattle.std.specs.Prelude.{drop, Some}
use Rattle.cfi_elf.specs.declared.program_header.ProgramHeader.{ProgramHeader}
use Rattle.cfi_cores.specs.CoreSegments.{CoreSegment, number_among, segment_number}

-- these are bytes of the file from an offset on
abbrev pub AreFrom : List ℕ → ℕ → List ℕ → Type 0
AreFrom bytes offset found = take (length found) (drop offset bytes) ≡ found

-- where a segment begins, or the greatest address
abbrev pub start_from : List ProgramHeader → ℕ → ℕ
start_from [] number = 2 ^ 64 - 1
start_from (place ∷ places) zero = place.p_vaddr
start_from (place ∷ places) (suc number) = start_from places number

pub record IsSegmentWindow (segment : CoreSegment) (next : ℕ) (window : CoreSegment) : Type 0 where
  pub distance : ℕ
  pub start : window.start ≡ segment.start + distance
  pub part : window.bytes ≡ take (length window.bytes) (drop distance segment.bytes)
  pub below : window.start + length window.bytes ≤ next

abbrev pub IsStackOf : List CoreSegment → CoreSegment → Type 0
IsStackOf segments window =
    (a size n : ℕ) → segment_number a size window ≡ Some n → number_among segments a size ≡ Some n
