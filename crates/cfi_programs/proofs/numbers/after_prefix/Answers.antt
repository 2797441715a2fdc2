use Rattle.cfi_programs.proofs.NumberLemmas.{after_is}
use Rattle.cfi_programs.proofs.numbers.after_prefix.Goals as goal

pub returns : goal.returns
returns c = after_is _ _ _ c.strip_prefix.ensures.cases
