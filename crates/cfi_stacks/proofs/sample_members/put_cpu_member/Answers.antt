use Rattle.cfi_text.proofs.TextLemmas.{both}
use Rattle.cfi_stacks.proofs.sample_members.put_cpu_member.Goals as goal

pub returns-in-Some : goal.returns-in-Some
returns-in-Some c =
    let number = rw c.from.ensures at c.json_number.ensures in
    rw c.in-Some.is (both _ _ _ _ _ c.put.ensures number)
