-- The steps of a table, in whatever form they are kept.
use Rattle.std.specs.Prelude.{List}
use Rattle.cfi_compiled.specs.declared.step_list.NumberedStep.{NumberedStep}
use Rattle.cfi_compiled.specs.declared.step_list.StepList.{StepList}
use Rattle.cfi_compiled.specs.declared.step_list.StepList.TheVariants.{Wide, Paged}

abbrev pub numbered_steps : StepList → List NumberedStep
numbered_steps (Wide steps) = steps.items
numbered_steps (Paged paged) = paged.steps
