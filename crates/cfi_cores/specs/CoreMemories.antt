-- The memory of a core file.
--     memory_number memory a size      the number of so many bytes at an address
use Rattle.std.specs.Prelude.{ℕ, List, Option, map}
use Rattle.cfi_elf.specs.Options.{or_else}
use Rattle.cfi_cores.specs.declared.memory.CoreMemory.{CoreMemory as MemoryOfCode}
use Rattle.cfi_cores.specs.CoreSegments.{CoreSegment, number_among, segment_view}

-- Segments of a core, and what was mapped where it has no bytes.
pub record CoreMemory : Type 0 where
  pub dumped : List CoreSegment
  pub mapped : List CoreSegment

abbrev pub memory_view : MemoryOfCode → CoreMemory
memory_view m =
    record { dumped = map segment_view m.dumped.now; mapped = map segment_view m.mapped.now }

-- where the core doesn't have all bytes, what was mapped there
abbrev pub memory_number : CoreMemory → ℕ → ℕ → Option ℕ
memory_number memory a size =
    or_else (number_among memory.dumped a size) (number_among memory.mapped a size)
