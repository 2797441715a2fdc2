use Rattle.std.proofs.Common.{◌≡◌, ◌∙◌, ℕ, true, false, Some, rules, arith, subst}
use Rattle.cfi_read_core.specs.AddressSizes.{size_in_bytes}
use Rattle.cfi_read_core.specs.ByteOrder.{is_big}
use Rattle.cfi_read_core.specs.SliceReaders.{slice_position}
use Rattle.cfi_expression.specs.Frames.{Frame}
use Rattle.cfi_step.specs.declared.abi.Abi.{Abi}
use Rattle.cfi_step.specs.Modules.{address_in_file}
use Rattle.cfi_step.specs.Functions.{IsStepInFunction}
use Rattle.cfi_c.specs.PassedSections.{header_in}
use Rattle.cfi_c.specs.PassedModules.{sized}
use Rattle.cfi_c.specs.PassedModules.{is_debug_frame}
use Rattle.cfi_c.specs.ModuleSteps.{IsFunctionStep}
use Rattle.cfi_c.specs.SteppedFrames.{frame_in}
use Rattle.cfi_c.specs.PassedMemories.{abi_in, number_in_memory}
use Rattle.cfi_c.proofs.StepsInModules.{in_function, of_eh_frame}
use Rattle.cfi_c.proofs.step.step_from.Goals as goal

pub returns-then-is_debug_frame : goal.returns-then-is_debug_frame
returns-then-is_debug_frame c =
    let memory = c.args.memory.now in
    let step = c.step_in_debug_frame in
    let frame : Frame = record { registers = c.args.registers.now; memory = number_in_memory memory; size = size_in_bytes c.new.result } in
    let same_frame : frame ≡ frame_in memory c.args.registers.now = λ i. record { registers = c.args.registers.now; memory = number_in_memory memory; size = c.new.ensures i } in
    let framed : IsFunctionStep (frame_in memory c.args.registers.now) c.abi_in-abi.result c.args.module.now c.args.address step.result step.new.caller =
    subst (λ (f : Frame). IsFunctionStep f c.abi_in-abi.result c.args.module.now c.args.address step.result step.new.caller) same_frame step.ensures.step in
    subst (λ (b : Abi). IsFunctionStep (frame_in memory c.args.registers.now) b c.args.module.now c.args.address step.result step.new.caller) c.abi_in-abi.ensures framed

pub returns : goal.returns
returns c =
    let memory = c.args.memory.now in
    let module_now = c.args.module.now in
    let no : is_debug_frame module_now ≡ false = search rules in
    let loaded = c.loaded_of-loaded in
    let step = c.step_in_function in
    let at = address_in_file loaded.result.bias c.args.address in
    let frame : Frame = record { registers = c.args.registers.now; memory = number_in_memory memory; size = size_in_bytes c.new.result } in
    let same_frame : frame ≡ frame_in memory c.args.registers.now = λ i. record { registers = c.args.registers.now; memory = number_in_memory memory; size = c.new.ensures i } in
    let framed : IsStepInFunction (slice_position is_big) (λ (n : ℕ). n) (frame_in memory c.args.registers.now) c.abi_in-abi.result (Some 192) (Some 4) true loaded.result at step.result.function step.result.caller step.new.caller =
    subst (λ (f : Frame). IsStepInFunction (slice_position is_big) (λ (n : ℕ). n) f c.abi_in-abi.result (Some 192) (Some 4) true loaded.result at step.result.function step.result.caller step.new.caller) same_frame step.ensures.step in
    let ruled : IsStepInFunction (slice_position is_big) (λ (n : ℕ). n) (frame_in memory c.args.registers.now) (abi_in memory) (Some 192) (Some 4) true loaded.result at step.result.function step.result.caller step.new.caller =
    subst (λ (b : Abi). IsStepInFunction (slice_position is_big) (λ (n : ℕ). n) (frame_in memory c.args.registers.now) b (Some 192) (Some 4) true loaded.result at step.result.function step.result.caller step.new.caller) c.abi_in-abi.ensures framed in
    in_function (slice_position is_big) (frame_in memory c.args.registers.now) (abi_in memory) c.args.module.now loaded.result loaded.ensures.bytes
    (loaded.ensures.section ∙ of_eh_frame (sized memory.address_size module_now.bases) (header_in module_now.header.now) module_now.section.now no) loaded.ensures.header
    c.args.address step.result.function step.result.caller step.new.caller loaded.ensures.bias (omega arith) ruled
