use Rattle.std.proofs.Common.{refl}
use Rattle.cfi_text.proofs.TextLemmas.{both, not_this, otherwise, same}
use Rattle.cfi_core_stacks.proofs.thread_object.put_signal.Goals as goal

pub returns-then-signal-ne0 : goal.returns-then-signal-ne0
returns-then-signal-ne0 c =
    let number = rw c.from.ensures at c.json_number.ensures in
    let name = rw c.signal_name.ensures at c.put_signal_name.ensures in
    same _ _ _ _ (otherwise _ _ _ (not_this c.args.signal c.args.signal 0 refl c.if-signal-ne0.true)) (both _ _ _ _ _ c.put.ensures (both _ _ _ _ _ number (both _ _ _ _ _ name c.put_fault.ensures)))
