use Rattle.std.proofs.Common.{◌≡◌, ◌⊎◌, false, IsNone, is_some, ap, sym, ◌∙◌, inl, inr}
use Rattle.cfi_state.proofs.Registers.{limited, rising-filled, copy-refused}
use Rattle.cfi_state.proofs.table.rules.RegisterRuleMap.copy_from.Goals.{else-copies_free-via-then-copies_free+else-is_none, else-copies_free-via-else-copies_free}
use Rattle.cfi_state.proofs.table.rules.RegisterRuleMap.copy_from.Goals as goal

pub invariant_of-self-2 : goal.invariant_of-self-2
invariant_of-self-2 g c = rising-filled _ _ _ c.fill.result c.as_slice.ensures.value c.other.invariant c.fill.ensures.ok c.fill.ensures.err

pub returns-clause-err : goal.returns-clause-err
returns-clause-err g c =
    let takes : (g.A.CopyList.copies_free ≡ false) ⊎ (IsNone g.A.ArrayLike.limit → ⊥) = elim c.else-copies_free.branch [
      | else-copies_free-via-then-copies_free+else-is_none w ↦ inr (limited g.A.ArrayLike.limit (ap is_some (sym w.limit.ensures) ∙ w.if-is_none.ensures))
      | else-copies_free-via-else-copies_free w ↦ inl (sym c.copies_free.ensures ∙ w.if-copies_free.false)
    ] in
    copy-refused _ _ c.args.other.now g.A.ArrayLike.limit g.A.CopyList.copies_free c.fill.result c.other.view_is c.other.invariant c.as_slice.ensures.value takes c.fill.ensures.memory
