use Rattle.std.proofs.Common.{◌≡◌, ◌∙◌, false, rules, arith}
use Rattle.cfi_read_core.specs.AddressSizes.{size_in_bytes}
use Rattle.cfi_read_core.specs.ByteOrder.{is_big}
use Rattle.cfi_read_core.specs.SliceReaders.{slice_position}
use Rattle.cfi_expression.specs.Windows.{number_in}
use Rattle.cfi_c.specs.PassedSections.{header_in}
use Rattle.cfi_c.specs.PassedModules.{sized}
use Rattle.cfi_c.specs.PassedModules.{is_debug_frame}
use Rattle.cfi_c.proofs.StepsInModules.{as_passed, as_scanned, of_eh_frame}
use Rattle.cfi_c.proofs.passed_steps.step_in.Goals as goal

pub returns-then-is_debug_frame-clause-step : goal.returns-then-is_debug_frame-clause-step
returns-then-is_debug_frame-clause-step c =
    let memory = c.args.steps.now.memory in
    as_scanned c.args.steps.now.stack.now c.args.module.now
    (record { at = c.args.at.now; registers = c.args.registers.now; caller = c.args.caller.now })
    (record {
      registers = c.args.registers.now;
      memory = number_in (slice_position is_big memory.bytes) memory.base;
      size = size_in_bytes c.new.result;
    })
    c.args.steps.now.abi c.row_address-address.result c.step_in_debug_frame.result c.step_in_debug_frame.new.caller
    (λ i. record { registers = c.args.registers.now; memory = c.requires.of_stack.1 i; size = c.new.ensures i })
    c.requires.of_stack.2 c.row_address-address.ensures c.step_in_debug_frame.ensures.step

pub returns-clause-step : goal.returns-clause-step
returns-clause-step c =
    let memory = c.args.steps.now.memory in
    let module_now = c.args.module.now in
    let no : is_debug_frame module_now ≡ false = search rules in
    as_passed (slice_position is_big) c.args.steps.now.stack.now c.args.module.now c.loaded_of-loaded.result
    (record { at = c.args.at.now; registers = c.args.registers.now; caller = c.args.caller.now })
    (record {
      registers = c.args.registers.now;
      memory = number_in (slice_position is_big memory.bytes) memory.base;
      size = size_in_bytes c.new.result;
    })
    c.args.steps.now.abi c.row_address-address.result c.step_in_module.result c.step_in_module.new.caller
    (λ i. record { registers = c.args.registers.now; memory = c.requires.of_stack.1 i; size = c.new.ensures i })
    c.requires.of_stack.2 c.row_address-address.ensures c.loaded_of-loaded.ensures.bytes
    (c.loaded_of-loaded.ensures.section ∙ of_eh_frame (sized c.args.steps.now.stack.now.address_size module_now.bases) (header_in module_now.header.now) module_now.section.now no)
    c.loaded_of-loaded.ensures.header c.loaded_of-loaded.ensures.compiled c.loaded_of-loaded.ensures.debug
    c.loaded_of-loaded.ensures.bias (omega arith) c.step_in_module.ensures.step
