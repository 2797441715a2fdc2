use Rattle.std.proofs.Common.{◌+◌, ◌-◌, ◌/◌, arith, sym, ◌∙◌}
use Rattle.std.proofs.lemmas.Bool.{eqb-true}
use Rattle.std.proofs.lemmas.Option.{slice_get-get_or}
use Rattle.cfi_state.proofs.Rising.{lower-up_to, higher-from}
use Rattle.cfi_state.proofs.table.rules.index_of.Goals as goal

pub loop-low-preserved-then-other-register : goal.loop-low-preserved-then-other-register
loop-low-preserved-then-other-register g c =
    let i = c.loop-low.invariant in
    let more = c.loop-low-test.true in
    (omega arith, i.1, lower-up_to c.args.pairs.now c.requires _ c.args.register (omega (arith, i.1)) _ c.if-other-register.true, i.3)

pub loop-low-preserved : goal.loop-low-preserved
loop-low-preserved g c =
    let i = c.loop-low.invariant in
    let more = c.loop-low-test.true in
    let other = sym c.eq.ensures ∙ c.if-eq.false in
    let at_least = c.if-other-register.false in
    (omega arith, omega (arith, i.1), i.2, higher-from c.args.pairs.now c.requires _ c.args.register (omega (arith, i.1)) _ at_least other)

pub bounds-pairs-middle : goal.bounds-pairs-middle
bounds-pairs-middle g c = let i = c.loop-low.invariant in omega (arith, i.0, i.1)

pub bounds-pairs-middle-in-loop-low : goal.bounds-pairs-middle-in-loop-low
bounds-pairs-middle-in-loop-low g c = let i = c.loop-low.invariant in omega (arith, i.0, i.1)

pub returns-then-eq-clause-bound : goal.returns-then-eq-clause-bound
returns-then-eq-clause-bound g c = let i = c.loop-low.invariant in omega (arith, i.0, i.1)

pub returns-clause-absent : goal.returns-clause-absent
returns-clause-absent g c =
    let i = c.loop-low.invariant in
    (omega (arith, i.0, i.1), i.2, λ k d from within. i.3 k d (omega arith) within)

pub loop-low-smaller-then-other-register : goal.loop-low-smaller-then-other-register
loop-low-smaller-then-other-register g c = let more = c.loop-low-test.true in omega arith

pub loop-low-smaller : goal.loop-low-smaller
loop-low-smaller g c = let more = c.loop-low-test.true in omega arith

pub overflow_sub-middle : goal.overflow_sub-middle
overflow_sub-middle g c = omega (arith, c.loop-low-test.true)

pub overflow_add-middle : goal.overflow_add-middle
overflow_add-middle g c = let i = c.loop-low.invariant in omega (arith, i.0)

pub overflow_add-low : goal.overflow_add-low
overflow_add-low g c = let more = c.loop-low-test.true in omega (arith, c.loop-low.auto.high-fits)

pub returns-then-eq-clause-found : goal.returns-then-eq-clause-found
returns-then-eq-clause-found g c =
    let i = c.loop-low.invariant in
    let at = slice_get-get_or c.args.pairs.now (c.loop-low.low + (c.loop-low.high - c.loop-low.low) / 2) c.index-pairs-middle.result (omega (arith, i.0, i.1)) in
    let same = eqb-true _ _ (sym c.eq.ensures ∙ c.if-eq.true) in
    rw at (λ k. record { 0 = same k })
