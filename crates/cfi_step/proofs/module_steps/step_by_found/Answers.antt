use Rattle.std.proofs.Common.{◌∙◌, ℕ, Ok, Err, ap, refl, subst}
use Rattle.cfi_read_core.specs.AddressSizes.{size_in_bytes}
use Rattle.cfi_entry.specs.Augmentations.{is_trampoline}
use Rattle.cfi_entry.specs.SectionViews.{eh_frame_view}
use Rattle.cfi_unwind.specs.FdeViews.{fde_view}
use Rattle.cfi_expression.specs.Frames.{frame_view}
use Rattle.cfi_step.specs.Modules.{IsFoundIn, module_section}
use Rattle.cfi_step.proofs.KeptRows.{keeps_in, keeps_row, same_caller}
use Rattle.cfi_step.proofs.module_steps.step_by_found.Goals as goal

pub returns-in-Ok-unwind_info_for_address-clause-step : goal.returns-in-Ok-unwind_info_for_address-clause-step
returns-in-Ok-unwind_info_for_address-clause-step g c =
    let fde = fde_view g.R.Reader.position g.R.Offset.ReaderOffset.number c.in-Ok.fde in
    let row = c.in-Ok-unwind_info_for_address in
    let same_ra = c.return_address_register-return_address.ensures ∙ ap (λ cie. cie.return_address_register) c.cie.ensures in
    let caller = same_caller g.R.Offset.ReaderOffset.number (frame_view g.M.Memory.number_at c.args.frame.now) (eh_frame_view g.R.Reader.position c.args.loaded.now.frame).position c.args.abi.now row.row.now.parts c.step_by_row.result
    c.return_address_register-return_address.result fde.cie.return_address_register c.is_signal_trampoline-is_trampoline.result (is_trampoline fde.cie.augmentation)
    c.step_by_row.ensures.caller same_ra c.is_signal_trampoline-is_trampoline.ensures in (
      Ok fde,
      (
        subst (λ (n : ℕ). IsFoundIn g.R.Reader.position n c.args.loaded.now c.args.address (Ok fde)) c.bytes.ensures c.in-Ok.ensures.found,
        c.in-Ok.ensures.contains,
        (Ok row.row.now, row.ensures.row, (caller, c.step_by_row.ensures.registers)),
      ),
    )

pub returns-in-Err-unwind_info_for_address-clause-step : goal.returns-in-Err-unwind_info_for_address-clause-step
returns-in-Err-unwind_info_for_address-clause-step g c =
    let fde = fde_view g.R.Reader.position g.R.Offset.ReaderOffset.number c.in-Ok.fde in
    let row = c.in-Err-unwind_info_for_address in (
      Ok fde,
      (
        subst (λ (n : ℕ). IsFoundIn g.R.Reader.position n c.args.loaded.now c.args.address (Ok fde)) c.bytes.ensures c.in-Ok.ensures.found,
        c.in-Ok.ensures.contains,
        (Err row.error, row.ensures.row, refl),
      ),
    )

pub returns-in-Err-clause-step : goal.returns-in-Err-clause-step
returns-in-Err-clause-step g c =
    (Err c.in-Err.error, (subst (λ (n : ℕ). IsFoundIn g.R.Reader.position n c.args.loaded.now c.args.address (Err c.in-Err.error)) c.bytes.ensures c.in-Err.ensures.found, tt, refl))

pub returns-in-Ok-unwind_info_for_address-clause-kept : goal.returns-in-Ok-unwind_info_for_address-clause-kept
returns-in-Ok-unwind_info_for_address-clause-kept g c =
    let fde = fde_view g.R.Reader.position g.R.Offset.ReaderOffset.number c.in-Ok.fde in
    let row = c.in-Ok-unwind_info_for_address in
    let size = size_in_bytes c.args.frame.now.address_size in
    keeps_in g.R.Reader.position g.R.Offset.ReaderOffset.number g.K.RowSlot.slot size g.S.Rules.ArrayLike.limit g.S-Stack-ArrayLike.limit g.S.Rules.CopyList.copies_free
    c.args.loaded.now c.args.address fde c.args.cache.now c.keep_row.new.cache
    (subst (λ (n : ℕ). IsFoundIn g.R.Reader.position n c.args.loaded.now c.args.address (Ok fde)) c.bytes.ensures c.in-Ok.ensures.found)
    c.in-Ok.ensures.contains
    (keeps_row g.K.RowSlot.slot g.R.Offset.ReaderOffset.number g.S.Rules.ArrayLike.limit g.S-Stack-ArrayLike.limit g.S.Rules.CopyList.copies_free (module_section g.R.Reader.position size c.args.loaded.now)
    c.args.address fde c.args.loaded.now.file row.row.now c.return_address_register-return_address.result c.is_signal_trampoline-is_trampoline.result c.args.cache.now c.keep_row.new.cache row.ensures.row
    (c.return_address_register-return_address.ensures ∙ ap (λ cie. cie.return_address_register) c.cie.ensures)
    c.is_signal_trampoline-is_trampoline.ensures c.keep_row.ensures)
