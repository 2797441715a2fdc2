use Rattle.std.proofs.Common.{◌∙◌, List, ℕ, ap, codes}
use Rattle.cfi_text.proofs.TextLemmas.{same}
use Rattle.cfi_stacks.specs.SampleMembers.{filled}
use Rattle.cfi_stacks.proofs.sample_members.put_nine.Goals as goal

pub returns : goal.returns
returns c = same _ _ _ _ (ap (λ (digits : List ℕ). filled (codes "000000000") digits) (c.as_bytes.ensures.value ∙ c.format.ensures.text)) c.put_filled.ensures
