use Rattle.std.proofs.Common.{◌∙◌}
use Rattle.cfi_text.proofs.TextLemmas.{both, same}
use Rattle.cfi_files.proofs.check.put_reason_members.Goals as goal

pub returns : goal.returns
returns c =
    let name = same _ _ _ _ (c.as_bytes.ensures.value ∙ c.name.ensures) c.put-2.ensures in
    both _ _ _ _ _ c.put.ensures (both _ _ _ _ _ name (both _ _ _ _ _ c.put-3.ensures (both _ _ _ _ _ c.put_why.ensures c.put-4.ensures)))
