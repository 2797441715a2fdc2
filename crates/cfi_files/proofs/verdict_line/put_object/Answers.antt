use Rattle.cfi_text.proofs.TextLemmas.{both}
use Rattle.cfi_files.proofs.verdict_line.put_object.Goals as goal

pub returns-in-Faithful : goal.returns-in-Faithful
returns-in-Faithful c = rw c.in-Faithful.is (both _ _ _ _ _ c.put.ensures (both _ _ _ _ _ c.json_number.ensures c.put-in-Faithful.ensures))

pub returns-in-NoTable : goal.returns-in-NoTable
returns-in-NoTable c = rw c.in-NoTable.is c.put-in-NoTable.ensures
