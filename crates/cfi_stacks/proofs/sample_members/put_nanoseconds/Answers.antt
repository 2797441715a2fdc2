use Rattle.cfi_text.proofs.TextLemmas.{both}
use Rattle.cfi_stacks.proofs.sample_members.put_nanoseconds.Goals as goal

pub returns : goal.returns
returns c = both _ _ _ _ _ c.put_decimal.ensures (both _ _ _ _ _ c.put.ensures c.put_nine.ensures)
