use Rattle.cfi_row_text.proofs.RowLineLemmas.{stack_frame}
use Rattle.cfi_row_text.proofs.row_text.put_frame_saying.Goals as goal

pub returns-in-Some : goal.returns-in-Some
returns-in-Some g c =
    let found = c.in-Some.ensures in
    stack_frame _ _ _ _ _ (found.2 _) found.1 c.put_stack_frame.ensures
