-- The stack that C passes.
--     passed_stack_memory, stack_abi stack      its bytes as memory, and what the ABI says
use Rattle.std.specs.Prelude.{ℕ, Option}
use Rattle.cfi_read_core.specs.SliceReaders.{slice_over}
use Rattle.cfi_expression.specs.Windows.{number_in}
use Rattle.cfi_step.specs.declared.abi.Abi.{Abi}
use Rattle.cfi_c.specs.declared.stack.CfiStack.{CfiStack}

abbrev pub passed_stack_memory : CfiStack → ℕ → ℕ → Option ℕ
passed_stack_memory stack = number_in (slice_over stack.bytes.now stack.big_endian) stack.base

abbrev pub stack_abi : CfiStack → Abi
stack_abi stack = record {
  stack_pointer = record { 0 = stack.stack_pointer };
  signature_mask = stack.signature_mask;
  max_iterations = stack.max_iterations;
}
