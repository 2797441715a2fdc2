use Rattle.std.proofs.Common.{◌∙◌, ℕ, ap, subst, rules}
use Rattle.cfi_step.specs.CachedRows.{AreRightIn}
use Rattle.cfi_step.specs.ModuleLists.{module_list}
use Rattle.cfi_step.specs.Modules.{IsStepIn, first_module}
use Rattle.cfi_step.specs.Walks.{State, IsStepOver, address_of}
use Rattle.cfi_read_core.specs.AddressSizes.{size_in_bytes}
use Rattle.cfi_step.proofs.KeptRows.{kept_in_all, module_has}
use Rattle.cfi_step.proofs.Walking.{in_module, in_no_module}
use Rattle.cfi_step.proofs.process.step_from.Goals as goal

pub returns-in-None-clause-step : goal.returns-in-None-clause-step
returns-in-None-clause-step g c =
    let s : State = record { at = c.args.at.now; registers = c.args.registers.now; caller = c.args.caller.now } in
    in_no_module (IsStepOver g.R.Reader.position g.R.Offset.ReaderOffset.number (g.M.Memory.number_at c.args.process.now.memory.now) (size_in_bytes c.args.process.now.address_size) c.args.process.now.abi g.S.Rules.ArrayLike.limit g.S-Stack-ArrayLike.limit g.S.Rules.CopyList.copies_free) s (first_module (module_list c.args.process.now.modules) (address_of s))
    (c.in-None.ensures.module ∙ ap (first_module (module_list c.args.process.now.modules)) c.row_address-address.ensures)

pub returns-in-Some-clause-step : goal.returns-in-Some-clause-step
returns-in-Some-clause-step g c =
    let s : State = record { at = c.args.at.now; registers = c.args.registers.now; caller = c.args.caller.now } in
    let p = c.args.process.now in
    in_module (IsStepOver g.R.Reader.position g.R.Offset.ReaderOffset.number (g.M.Memory.number_at p.memory.now) (size_in_bytes p.address_size) p.abi g.S.Rules.ArrayLike.limit g.S-Stack-ArrayLike.limit g.S.Rules.CopyList.copies_free) s (first_module (module_list p.modules) (address_of s))
    c.in-Some.loaded.now c.step_in_kept-step.result c.checked.result c.step_in_kept-step.new.caller
    (c.in-Some.ensures.module ∙ ap (first_module (module_list p.modules)) c.row_address-address.ensures)
    (subst (λ (n : ℕ). IsStepIn g.R.Reader.position g.R.Offset.ReaderOffset.number (record { registers = s.registers; memory = g.M.Memory.number_at p.memory.now; size = size_in_bytes p.address_size }) p.abi g.S.Rules.ArrayLike.limit g.S-Stack-ArrayLike.limit g.S.Rules.CopyList.copies_free c.in-Some.loaded.now n c.step_in_kept-step.result c.step_in_kept-step.new.caller)
    c.row_address-address.ensures c.step_in_kept-step.ensures.step)
    (search rules) c.step_in_kept-step.ensures.unwritten c.checked.ensures.checked

pub returns-in-Some-clause-kept : goal.returns-in-Some-clause-kept
returns-in-Some-clause-kept g c =
    kept_in_all g.R.Reader.position g.R.Offset.ReaderOffset.number g.K.RowSlot.slot (size_in_bytes c.args.process.now.address_size) g.S.Rules.ArrayLike.limit g.S-Stack-ArrayLike.limit g.S.Rules.CopyList.copies_free
    (module_list c.args.process.now.modules) c.in-Some.loaded.now c.row_address-address.result c.args.cache.now c.step_in_kept-step.new.cache
    c.in-Some.ensures.module c.step_in_kept-step.ensures.kept

pub step_in_kept-step-requires-clause-right : goal.step_in_kept-step-requires-clause-right
step_in_kept-step-requires-clause-right g c =
    module_has (λ m. AreRightIn g.R.Reader.position g.R.Offset.ReaderOffset.number g.K.RowSlot.slot (size_in_bytes c.args.process.now.address_size) g.S.Rules.ArrayLike.limit g.S-Stack-ArrayLike.limit g.S.Rules.CopyList.copies_free m c.args.cache.now)
    (module_list c.args.process.now.modules) c.in-Some.loaded.now c.row_address-address.result c.in-Some.ensures.module c.requires.right
