use Rattle.cfi_stacks.proofs.CountedLemmas.{other_line}
use Rattle.cfi_stacks.proofs.folding.write_uncounted.Goals as goal

pub returns-in-TooManySamples : goal.returns-in-TooManySamples
returns-in-TooManySamples g c = rw c.in-TooManySamples.is c.write_too_many.ensures

pub returns-in_default : goal.returns-in_default
returns-in_default g c = rw (other_line c.args.error c.in_default.not-TooManySamples) c.write_input_refusal.ensures
