use Rattle.cfi_row_text.proofs.RowWordsLemmas.{put_in_words}
use Rattle.cfi_files.proofs.dump.fde_rows.put_text_line.Goals as goal

pub returns-then-put_next : goal.returns-then-put_next
returns-then-put_next g c = put_in_words c.args.names _ _ _ _ _ (c.put_next.ensures.plain c.if-put_next.true) (c.put_next.ensures.put c.if-put_next.true)

pub returns : goal.returns
returns g c = rw (← c.put_next.ensures.left c.if-put_next.false) c.put_answer.ensures.text
