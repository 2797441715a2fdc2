use Rattle.std.proofs.Common.{◌∙◌, sym, ap}
use Rattle.cfi_c.specs.AddressRows.{is_live}
use Rattle.cfi_c.proofs.context.CfiContext.of.Goals as goal
use Rattle.cfi_c.proofs.context.CfiContext.of.Goals.{in-Some, in-None}

pub invariant_of-result : goal.invariant_of-result
invariant_of-result c = elim c.match-held.branch [
  | in-Some w ↦ record { ok = ap (λ r. r.0.live) w.result-is ∙ w.seal.ensures ∙ sym (ap (λ r. r.1.0) w.result-is) }
  | in-None w ↦ record { ok = ap (λ r. r.0.live) w.result-is ∙ w.none.ensures ∙ sym (ap (λ r. r.1.0) w.result-is) }
]

pub returns : goal.returns
returns c = elim c.match-held.branch [
  | in-Some w ↦ ap (λ r. r.1.0) w.result-is ∙ sym (ap is_live w.in-Some.is)
  | in-None w ↦ ap (λ r. r.1.0) w.result-is ∙ sym (ap is_live w.in-None.is)
]
