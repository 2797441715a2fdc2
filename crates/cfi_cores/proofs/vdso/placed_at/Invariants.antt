use Rattle.std.proofs.Common.{◌≡◌, ℕ, List, length}
use Rattle.std.specs.List.{filter_map}
use Rattle.cfi_elf.specs.SegmentLists.{segments_left}
use Rattle.cfi_cores.specs.CoreSegments.{loaded_in}
use Rattle.cfi_cores.specs.Vdso.{vdso_at}
use Rattle.cfi_cores.proofs.vdso.placed_at.Given as goal

-- the headers that are left give what all give
abbrev pub invariant-loop-header : goal.invariant-loop-header
invariant-loop-header l =
    (bytes : List ℕ) → length bytes ≡ l.size → vdso_at (filter_map (loaded_in bytes) (segments_left l.header-iterator)) l.address ≡ vdso_at (filter_map (loaded_in bytes) (segments_left l.fn.headers)) l.address
