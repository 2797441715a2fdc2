use Rattle.std.proofs.Common.{sym, ap, ◌∙◌, refl}
use Rattle.std.specs.FinMap.{len}
use Rattle.cfi_state.proofs.Registers.{len-rules_of}
use Rattle.cfi_state.proofs.Contexts.{copies_held-many, copies_held-few}
use Rattle.cfi_state.proofs.table.context.UnwindContext.copies_held.Goals.{else-self-via-then-self+else-pairs-ge2, else-self-via-else-self}
use Rattle.cfi_state.proofs.table.context.UnwindContext.copies_held.Goals as goal

pub returns-then-pairs-ge2 : goal.returns-then-pairs-ge2
returns-then-pairs-ge2 g c =
    let count = sym (ap len c.pairs.ensures.rules) ∙ len-rules_of c.pairs.result.now c.pairs.ensures.distinct in
    rw (← c.self.view_is, c.if-self.true) (copies_held-many _ _ count c.if-pairs-ge2.true)

pub returns : goal.returns
returns g c = elim c.else-self.branch [
  | else-self-via-then-self+else-pairs-ge2 w ↦
      let count = sym (ap len w.pairs.ensures.rules) ∙ len-rules_of w.pairs.result.now w.pairs.ensures.distinct in
      rw (← c.self.view_is, w.if-self.true) (copies_held-few _ _ count w.if-pairs-ge2.false)
  | else-self-via-else-self w ↦ rw (← c.self.view_is, w.if-self.false) refl
]
