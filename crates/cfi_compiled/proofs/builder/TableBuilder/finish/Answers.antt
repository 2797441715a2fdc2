use Rattle.cfi_compiled.proofs.Searched.{ascends}
use Rattle.cfi_compiled.specs.KeptRows.{results_in}
use Rattle.cfi_compiled.specs.StepLists.{numbered_steps}
use Rattle.cfi_compiled.proofs.builder.TableBuilder.finish.Goals as goal

pub finish-requires : goal.finish-requires
finish-requires c = ascends (results_in c.self.inside.rests c.self.inside.rows) (numbered_steps c.self.inside.steps) 0 c.self.invariant.rise
