use Rattle.cfi_text.proofs.WrittenLemmas.{IsGiven}
use Rattle.cfi_text.proofs.lines.write_text.Given as goal

abbrev pub invariant-loop : goal.invariant-loop
invariant-loop g l = IsGiven (g.W.Write.contents l.initial.output) (g.W.Write.contents l.output) l.rest l.text
