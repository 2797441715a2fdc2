use Rattle.std.proofs.Common.{◌≡◌, not, ap, sym, ◌∙◌, rules}
use Rattle.std.specs.Cmp.Lexicographic.{pointwise}
use Rattle.cfi_state.specs.Equality.{row_eq}
use Rattle.cfi_state.proofs.ContextEquality.{not_true, not_false, remembered_apart, by_initial_rules}
use Rattle.cfi_state.proofs.table.context.UnwindContextPartialEq.eq.Goals as goal

pub returns-then-ne-2 : goal.returns-then-ne-2
returns-then-ne-2 g c =
    let unlike : c.ne.result ≡ not (row_eq g.T.PartialEq.eq c.self.inside.row c.other.inside.row) = search rules in
    let unequal : c.ne-2.result ≡ not (pointwise (row_eq g.T.PartialEq.eq) c.remembered.result.now c.remembered-2.result.now) = search rules in
    remembered_apart g.T.PartialEq.eq c.args.self.now c.args.other.now c.self.inside.row c.other.inside.row (ap (λ x. x.row) c.self.view_is) (ap (λ x. x.row) c.other.view_is)
    (not_false _ (sym unlike ∙ c.if-ne.false)) c.remembered.result.now c.remembered-2.result.now c.remembered.ensures c.remembered-2.ensures
    (not_true _ (sym unequal ∙ c.if-ne-2.true))

pub returns : goal.returns
returns g c =
    let unlike : c.ne.result ≡ not (row_eq g.T.PartialEq.eq c.self.inside.row c.other.inside.row) = search rules in
    let unequal : c.ne-2.result ≡ not (pointwise (row_eq g.T.PartialEq.eq) c.remembered.result.now c.remembered-2.result.now) = search rules in
    c.has_initial_rules_of.ensures
    ∙ by_initial_rules g.T.PartialEq.eq c.args.self.now c.args.other.now c.self.inside.row c.other.inside.row (ap (λ x. x.row) c.self.view_is) (ap (λ x. x.row) c.other.view_is)
    (not_false _ (sym unlike ∙ c.if-ne.false)) c.remembered.result.now c.remembered-2.result.now c.remembered.ensures c.remembered-2.ensures
    (not_false _ (sym unequal ∙ c.if-ne-2.false))
