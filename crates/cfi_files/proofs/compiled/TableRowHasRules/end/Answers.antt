use Rattle.std.proofs.Common.{◌≡◌, ◌+◌, ◌<◌, ◌∙◌, ℕ, [], List, arith, ap, drop, get_or, sym}
use Rattle.std.proofs.lemmas.List.{drop_all, drop_more}
use Rattle.std.specs.FinMap as map
use Rattle.cfi_read_core.specs.declared.common.Register.{Register}
use Rattle.cfi_state.specs.RulePairs.{rules_of}
use Rattle.cfi_state.specs.declared.table.rules.RegisterRule.{RegisterRule}
use Rattle.cfi_state.specs.declared.table.rules.RegisterRule.TheVariants.{Undefined}
use Rattle.cfi_row_text.proofs.RowLineLemmas.{get_behind, get_of_none}
use Rattle.cfi_files.proofs.compiled.TableRowHasRules.end.Goals as goal

abbrev nothing : Register × RegisterRule ℕ
nothing = (record { 0 = 0 }, Undefined)

pub loop-pair-init : goal.loop-pair-init
loop-pair-init c = (omega arith, λ register above none. none)

pub loop-pair-preserved : goal.loop-pair-preserved
loop-pair-preserved c =
    let items = c.registers-pair-items.result.now in
    let pair = get_or items c.loop-pair.pair-index nothing in
    let there = drop_more items c.loop-pair.pair-index nothing c.loop-pair-test.true in (
      omega (arith, c.max-end.ensures, c.number_after.ensures.within, c.loop-pair.invariant.0),
      λ register above none.
          let behind : pair.0.0 < register = omega (arith, c.max-end.ensures, c.number_after.ensures.number, above) in
          c.loop-pair.invariant.1 register (omega (arith, c.max-end.ensures, above))
          (ap (λ (l : List (Register × RegisterRule ℕ)). map.get (rules_of l) register) there ∙ (get_behind pair (drop (c.loop-pair.pair-index + 1) items) register behind ∙ none)),
    )

pub returns-clause-within : goal.returns-clause-within
returns-clause-within c = c.loop-pair.invariant.0

pub returns-clause-above : goal.returns-clause-above
returns-clause-above c = λ register above.
    let items = c.registers-pair-items.result.now in
    let none : drop c.loop-pair.pair-index items ≡ [] = drop_all c.loop-pair.pair-index items (omega (arith, c.loop-pair-test.false)) in
    ap (λ rules. map.get rules register) (sym c.registers-pair-items.ensures.rules)
    ∙ c.loop-pair.invariant.1 register above (ap (λ (l : List (Register × RegisterRule ℕ)). map.get (rules_of l) register) none ∙ get_of_none register)
