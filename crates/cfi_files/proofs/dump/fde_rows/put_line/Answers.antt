use Rattle.cfi_files.proofs.dump.fde_rows.put_line.Goals as goal

pub returns-in-Text : goal.returns-in-Text
returns-in-Text g c = rw c.in-Text.is c.put_text_line.ensures

pub returns-in-Json : goal.returns-in-Json
returns-in-Json g c = c.put_answer.ensures.text
