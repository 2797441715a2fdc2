-- The steps of a compiled table one by one.
--     step_view      a step that an iterator returned
--     steps_left      the steps that are left in an iterator
use Rattle.std.specs.Prelude.{List, drop}
use Rattle.cfi_compiled.specs.declared.compiled_steps.CompiledStep.{CompiledStep}
use Rattle.cfi_compiled.specs.declared.compiled_steps.CompiledSteps.{CompiledSteps}
use Rattle.cfi_compiled.specs.CompiledRows.{frame_lent}
use Rattle.cfi_compiled.specs.CompiledTables.{steps_of}
use Rattle.cfi_compiled.specs.Steps.{Step}

abbrev pub step_view : CompiledStep → Step
step_view step = record { start = step.start; frame = frame_lent step.row }

abbrev pub steps_left : CompiledSteps → List Step
steps_left iterator = drop iterator.next (steps_of iterator.table.now)
