use Rattle.std.proofs.Common.{drop}
use Rattle.cfi_compiled.specs.Pieces.{Ascend}
use Rattle.cfi_compiled.proofs.pieces.is_ascending.Given as goal

-- what is left decides
abbrev pub invariant-loop-span : goal.invariant-loop-span
invariant-loop-span l = Ascend l.end (drop l.span-index l.spans) → Ascend 0 l.spans
