use Rattle.cfi_core_stacks.proofs.KnownLemmas.{unread}
use Rattle.cfi_frames.proofs.InputLemmas.{for_input}
use Rattle.cfi_core_stacks.proofs.core_run.print_whole.Goals as goal

pub returns-in-Err : goal.returns-in-Err
returns-in-Err g c =
    for_input (g.I.FileInput.bytes c.args.input.now) _ (λ bytes. unread c.args.listing (g.O.Opener.may_open c.args.opener.now) g.O.File.Read.remaining bytes _ _ _ c.write_input_refusal.result c.write_input_refusal.ensures)
