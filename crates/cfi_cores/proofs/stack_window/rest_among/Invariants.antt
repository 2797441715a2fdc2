use Rattle.std.proofs.Common.{ℕ, List, drop}
use Rattle.cfi_elf.specs.Images.{ArePartsOf, parts_view}
use Rattle.cfi_cores.proofs.stack_window.rest_among.Given as goal

-- the parts that are left are of the bytes too
abbrev pub invariant-loop-read : goal.invariant-loop-read
invariant-loop-read l = (bytes : List ℕ) → ArePartsOf bytes (parts_view l.parts) → ArePartsOf bytes (parts_view (drop l.read-index l.parts))
