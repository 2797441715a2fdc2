use Rattle.std.proofs.Common.{◌∙◌, Ok, Err, ap, refl}
use Rattle.cfi_entry.specs.Augmentations.{is_trampoline}
use Rattle.cfi_unwind.specs.FdeViews.{fde_view}
use Rattle.cfi_expression.specs.Frames.{frame_view}
use Rattle.cfi_step.proofs.KeptRows.{same_caller}
use Rattle.cfi_step.proofs.step.step_by_fde.Goals as goal

pub returns-in-Ok-clause-step : goal.returns-in-Ok-clause-step
returns-in-Ok-clause-step g c =
    let fde = fde_view g.R.Reader.position g.R.Offset.ReaderOffset.number c.args.fde.now in
    let same_ra = c.return_address_register-return_address.ensures ∙ ap (λ cie. cie.return_address_register) c.cie.ensures in
    let caller = same_caller g.R.Offset.ReaderOffset.number (frame_view g.M.Memory.number_at c.args.frame.now) (g.Section._UnwindSectionPrivate.view c.args.placed.now.section.now).position c.args.abi.now c.in-Ok.row.now.parts c.step_by_row.result
    c.return_address_register-return_address.result fde.cie.return_address_register c.is_signal_trampoline-is_trampoline.result (is_trampoline fde.cie.augmentation)
    c.step_by_row.ensures.caller same_ra c.is_signal_trampoline-is_trampoline.ensures in
    (Ok c.in-Ok.row.now, c.in-Ok.ensures.row, (caller, c.step_by_row.ensures.registers))

pub returns-in-Err-clause-step : goal.returns-in-Err-clause-step
returns-in-Err-clause-step g c = (Err c.in-Err.error, c.in-Err.ensures.row, refl)
