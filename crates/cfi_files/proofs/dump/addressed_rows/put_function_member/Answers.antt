use Rattle.cfi_text.proofs.TextLemmas.{both}
use Rattle.cfi_files.proofs.dump.addressed_rows.put_function_member.Goals as goal

pub returns-in-Some : goal.returns-in-Some
returns-in-Some c = rw c.in-Some.is (both _ _ _ _ _ c.put.ensures (both _ _ _ _ _ c.escaped.ensures c.put-in-Some.ensures))
