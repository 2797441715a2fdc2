use Rattle.cfi_expression.specs.Frames.{frame_view}
use Rattle.cfi_step.proofs.KeptRows.{is_in_cache, same_caller, step_by_slot}
use Rattle.cfi_step.proofs.module_steps.step_by_held.Goals as goal

pub returns-in-Some-clause-step : goal.returns-in-Some-clause-step
returns-in-Some-clause-step g c =
    let slot = g.K.RowSlot.slot c.in-Some.row.now in
    let frame = frame_view g.M.Memory.number_at c.args.frame.now in
    let parts = g.K.RowRules.parts c.in-Some.row.now in
    let caller = same_caller g.R.Offset.ReaderOffset.number frame (g.R.Reader.position c.args.loaded.now.frame.section) c.args.abi.now parts c.step_by_row.result
    c.return_address.result slot.return_address c.is_signal_trampoline.result slot.is_signal_trampoline
    c.step_by_row.ensures.caller c.return_address.ensures c.is_signal_trampoline.ensures in
    step_by_slot g.R.Reader.position g.R.Offset.ReaderOffset.number g.K.RowSlot.slot frame c.args.abi.now g.S.Rules.ArrayLike.limit g.S-Stack-ArrayLike.limit g.S.Rules.CopyList.copies_free
    c.args.loaded.now c.args.address c.step_by_row.result c.step_by_row.new.caller slot parts (g.met.K.RowSlot.same_parts c.in-Some.row.now)
    (is_in_cache g.R.Reader.position g.R.Offset.ReaderOffset.number g.K.RowSlot.slot frame.size g.S.Rules.ArrayLike.limit g.S-Stack-ArrayLike.limit g.S.Rules.CopyList.copies_free
    c.args.loaded.now c.args.address c.args.cache.now c.in-Some.row.now c.in-Some.ensures.1 c.in-Some.ensures.0 c.requires.right)
    caller c.step_by_row.ensures.registers
