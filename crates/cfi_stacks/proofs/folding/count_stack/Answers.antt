use Rattle.std.proofs.Common.{◌∙◌}
use Rattle.cfi_flame.specs.FoldedCounts.{counted_in}
use Rattle.cfi_stacks.specs.SampleOutputs.{stack_view}
use Rattle.cfi_stacks.proofs.CountedLemmas.{stack_counted, stack_refused}
use Rattle.cfi_stacks.proofs.folding.count_stack.Goals as goal

pub returns-in-Ok-clause-counted : goal.returns-in-Ok-clause-counted
returns-in-Ok-clause-counted c =
    stack_counted c.args.by_period (stack_view c.args.stack.now) c.as_slice.result.now c.weight.result (c.as_slice.ensures.value ∙ c.in-Ok.ensures) c.weight.ensures (counted_in c.args.counts.now) (counted_in c.add.new.self) c.add.result c.add.ensures.counted

pub returns-in-Ok-clause-refused : goal.returns-in-Ok-clause-refused
returns-in-Ok-clause-refused c =
    stack_refused c.args.by_period (stack_view c.args.stack.now) c.as_slice.result.now c.weight.result (c.as_slice.ensures.value ∙ c.in-Ok.ensures) c.weight.ensures (counted_in c.args.counts.now) c.add.result c.add.ensures.refused
