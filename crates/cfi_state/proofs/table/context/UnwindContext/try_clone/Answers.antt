use Rattle.cfi_state.proofs.Contexts.{shows-copy, context-copy}
use Rattle.cfi_state.proofs.table.context.UnwindContext.try_clone.Goals as goal

pub invariant_of-result : goal.invariant_of-result
invariant_of-result g c =
    context-copy c.self.inside.row _ c.self.inside.depth c.self.inside.initial_rules c.self.inside.has_ended_cie c.args.self.now c.self.view_is
    c.remembered.result.now _ c.as_slice.result.now c.remembered.ensures c.in_ok-stack.ensures.ok c.as_slice.ensures.value c.in_ok-copy.field-0 c.in_ok-copy.ensures.ok
    g.S-Stack-ArrayLike.limit c.self.invariant

pub returns-clause-ok : goal.returns-clause-ok
returns-clause-ok g c =
    shows-copy c.self.inside.row _ c.self.inside.depth c.self.inside.initial_rules c.self.inside.has_ended_cie c.args.self.now c.self.view_is
    c.remembered.result.now _ c.as_slice.result.now c.remembered.ensures c.in_ok-stack.ensures.ok c.as_slice.ensures.value c.in_ok-copy.field-0 c.in_ok-copy.ensures.ok
    c.in_ok-try_clone.field-0 c.in_ok-try_clone.ensures.ok
