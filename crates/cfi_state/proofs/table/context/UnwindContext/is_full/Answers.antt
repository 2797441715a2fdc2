use Rattle.std.proofs.Common.{sym, ◌∙◌}
use Rattle.cfi_state.proofs.Contexts.{is_at_limit-state}
use Rattle.cfi_state.proofs.table.context.UnwindContext.is_full.Goals as goal

pub returns-in-Some : goal.returns-in-Some
returns-in-Some g c =
    is_at_limit-state _ c.self.inside.row _ c.self.inside.depth c.self.inside.initial_rules c.self.inside.has_ended_cie c.self.invariant
    c.in-Some.limit (sym c.limit.ensures ∙ c.in-Some.is) c.args.self.now c.self.view_is c.copies_held.result c.copies_held.ensures
