use Rattle.cfi_tests_step.proofs.Numbered.{numbered_one}
use Rattle.cfi_tests_step.proofs.frames.walked.Goals as goal

pub walked_in-requires : goal.walked_in-requires
walked_in-requires c = numbered_one _
