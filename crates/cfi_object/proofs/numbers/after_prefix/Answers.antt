use Rattle.cfi_object.proofs.NumberLemmas.{after_is}
use Rattle.cfi_object.proofs.numbers.after_prefix.Goals as goal

pub returns : goal.returns
returns c = after_is _ _ _ c.strip_prefix.ensures.cases
