use Rattle.std.proofs.Common.{◌<◌, ◌∙◌, arith}
use Rattle.cfi_row_text.proofs.RowLineLemmas.{get_behind, get_of_none}
use Rattle.cfi_row_text.proofs.register_rules.UnwindTableRowUsizeHasRules.end.Goals as goal

pub loop-register-preserved : goal.loop-register-preserved
loop-register-preserved g c = (
  tt,
  tt,
  (
    omega (arith, c.max-end.ensures, c.number_after.ensures.within, c.loop-register.invariant.2.0),
    λ register above none.
        let behind : c.in-Some.field-0.now.0.0 < register = omega (arith, c.max-end.ensures, c.number_after.ensures.number, above) in
        c.loop-register.invariant.2.1 register (omega (arith, c.max-end.ensures, above)) (rw (c.in-Some.ensures.steps) (get_behind _ _ register behind ∙ none)),
  ),
)

pub returns-clause-above : goal.returns-clause-above
returns-clause-above g c = λ register above.
    c.loop-register.invariant.2.1 register above (rw (c.in-None.ensures.steps.0) (get_of_none register))
