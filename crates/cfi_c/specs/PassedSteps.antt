-- The steps of a walk over what C passes.
--     AreOfStack steps      their memory and ABI are those of the stack, whose size of an address
--         is one, and the modules are in order if they say so
use Rattle.std.specs.Prelude.{◌≡◌, true}
use Rattle.cfi_read_core.specs.Addresses.{IsAddressSize}
use Rattle.cfi_read_core.specs.ByteOrder.{is_big}
use Rattle.cfi_read_core.specs.SliceReaders.{slice_position}
use Rattle.cfi_expression.specs.Windows.{number_in}
use Rattle.cfi_step.specs.CodeRanges.{are_sorted}
use Rattle.cfi_c.specs.declared.passed_steps.PassedSteps.{PassedSteps}
use Rattle.cfi_c.specs.PassedStacks.{stack_abi, passed_stack_memory}
use Rattle.cfi_c.specs.PassedModules.{code_end, code_start}

abbrev pub AreOfStack : PassedSteps → Type 0
AreOfStack steps =
    IsAddressSize steps.stack.now.address_size
    × (number_in (slice_position is_big steps.memory.bytes) steps.memory.base
    ≡ passed_stack_memory steps.stack.now)
    × (steps.abi ≡ stack_abi steps.stack.now)
    × (steps.are_in_order ≡ true → are_sorted code_start code_end 0 steps.modules.now ≡ true)
