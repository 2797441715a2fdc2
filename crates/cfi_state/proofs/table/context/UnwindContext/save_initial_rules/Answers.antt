use Rattle.std.proofs.Common.{◌≡◌, false, sym, ap, subst, ◌∙◌}
use Rattle.std.proofs.lemmas.Result.{err_from_is_err_and}
use Rattle.std.specs.FinMap.{len}
use Rattle.cfi_state.specs.RulePairs.{AddsRules}
use Rattle.cfi_state.proofs.Registers.{len-rules_of}
use Rattle.cfi_state.proofs.Contexts.{has_no_room, no_room, room-for_few, room-left, saves-full, saves, saves-refused, context-saved}
use Rattle.cfi_state.proofs.table.context.UnwindContext.save_initial_rules.Goals.{else-pairs-ge2-via-then-pairs-ge2+else-is_full, else-pairs-ge2-via-else-pairs-ge2}
use Rattle.cfi_state.proofs.table.context.UnwindContext.save_initial_rules.Goals as goal

pub returns-then-is_full : goal.returns-then-is_full
returns-then-is_full g c =
    let count = sym (ap len (c.pairs.ensures.rules ∙ c.rules.ensures ∙ ap (λ x. x.row.parts.rules) c.self.view_is)) ∙ len-rules_of c.pairs.result.now c.pairs.ensures.distinct in
    saves-full g.S-Stack-ArrayLike.limit c.args.self.now _ (no_room g.S-Stack-ArrayLike.limit c.args.self.now _ count c.if-pairs-ge2.true (sym c.is_full.ensures ∙ c.if-is_full.true))

pub returns-in_err-copy_from : goal.returns-in_err-copy_from
returns-in_err-copy_from g c =
    let count = sym (ap len (c.pairs.ensures.rules ∙ c.rules.ensures ∙ ap (λ x. x.row.parts.rules) c.self.view_is)) ∙ len-rules_of c.pairs.result.now c.pairs.ensures.distinct in
    let room : has_no_room g.S-Stack-ArrayLike.limit c.args.self.now ≡ false = elim c.else-pairs-ge2.branch [
      | else-pairs-ge2-via-then-pairs-ge2+else-is_full w ↦ room-left g.S-Stack-ArrayLike.limit c.args.self.now (sym w.is_full.ensures ∙ w.if-is_full.false)
      | else-pairs-ge2-via-else-pairs-ge2 w ↦ room-for_few g.S-Stack-ArrayLike.limit c.args.self.now _ count w.if-pairs-ge2.false
    ] in
    let p = err_from_is_err_and c.from_residual.result c.from_residual.ensures.1 in
    let refused = c.in_err-copy_from.ensures.err in
    rw (p.1, p.2)
    (saves-refused g.S-Stack-ArrayLike.limit c.self.inside.row _ c.self.inside.depth c.self.inside.initial_rules c.copy_from.new.self c.self.inside.has_ended_cie c.args.self.now
    c.self.view_is c.requires _ room c.in_err-copy_from.field-0.0 refused.0
    (subst (AddsRules g.S.Rules.ArrayLike.limit g.S.Rules.CopyList.copies_free) (c.rules-2.ensures ∙ ap (λ x. x.row.parts.rules) c.self.view_is) refused.1))

pub invariant_of-self-2 : goal.invariant_of-self-2
invariant_of-self-2 g c =
    let count = sym (ap len (c.pairs.ensures.rules ∙ c.rules.ensures ∙ ap (λ x. x.row.parts.rules) c.self.view_is)) ∙ len-rules_of c.pairs.result.now c.pairs.ensures.distinct in
    let room : has_no_room g.S-Stack-ArrayLike.limit c.args.self.now ≡ false = elim c.else-pairs-ge2.branch [
      | else-pairs-ge2-via-then-pairs-ge2+else-is_full w ↦ room-left g.S-Stack-ArrayLike.limit c.args.self.now (sym w.is_full.ensures ∙ w.if-is_full.false)
      | else-pairs-ge2-via-else-pairs-ge2 w ↦ room-for_few g.S-Stack-ArrayLike.limit c.args.self.now _ count w.if-pairs-ge2.false
    ] in
    context-saved g.S-Stack-ArrayLike.limit c.self.inside.row _ c.self.inside.depth c.self.inside.initial_rules c.copy_from.new.self c.self.inside.has_ended_cie c.args.self.now
    c.self.view_is c.requires c.self.invariant room (c.in_ok-copy_from.ensures.ok ∙ c.rules-2.ensures ∙ ap (λ x. x.row.parts.rules) c.self.view_is)

pub returns : goal.returns
returns g c =
    let count = sym (ap len (c.pairs.ensures.rules ∙ c.rules.ensures ∙ ap (λ x. x.row.parts.rules) c.self.view_is)) ∙ len-rules_of c.pairs.result.now c.pairs.ensures.distinct in
    let room : has_no_room g.S-Stack-ArrayLike.limit c.args.self.now ≡ false = elim c.else-pairs-ge2.branch [
      | else-pairs-ge2-via-then-pairs-ge2+else-is_full w ↦ room-left g.S-Stack-ArrayLike.limit c.args.self.now (sym w.is_full.ensures ∙ w.if-is_full.false)
      | else-pairs-ge2-via-else-pairs-ge2 w ↦ room-for_few g.S-Stack-ArrayLike.limit c.args.self.now _ count w.if-pairs-ge2.false
    ] in
    saves g.S-Stack-ArrayLike.limit c.self.inside.row _ c.self.inside.depth c.self.inside.initial_rules c.copy_from.new.self c.self.inside.has_ended_cie c.args.self.now
    c.self.view_is c.requires _ room (c.in_ok-copy_from.ensures.ok ∙ c.rules-2.ensures ∙ ap (λ x. x.row.parts.rules) c.self.view_is)
