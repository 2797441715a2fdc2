use Rattle.std.proofs.Common.{◌∙◌, ap, arith, subst, sym}
use Rattle.cfi_entry.specs.Sections.{zero_length_ends}
use Rattle.cfi_entry.specs.EntryViews.{section_in}
use Rattle.cfi_unwind.specs.EntrySteps.{GoesThrough}
use Rattle.cfi_unwind.proofs.WalkLemmas.{exhausted_left, exhausted_through, none_left, step_entry, step_fewer, step_gap, step_refusal, step_terminator, step_through}
use Rattle.cfi_unwind.proofs.entry.entries.next_entry.Goals as goal

pub returns-in-Ok-Some-clause-met : goal.returns-in-Ok-Some-clause-met
returns-in-Ok-Some-clause-met g c =
    let section = section_in g.S._UnwindSectionPrivate.view c.args.at.now in
    let some_left = sym c.is_empty.ensures ∙ c.loop-input-test.true in
    let read = rw c.in-Ok-Some.field-0-is at c.in-Ok-Some.ensures.read in
    sym c.loop-input.invariant.same ∙ step_entry section (g.R.Reader.position c.loop-input.input) (g.R.Reader.position c.read_entry.new.input) c.loop-input.invariant.through.source some_left _ read.0

pub returns-in-Ok-Some-clause-through : goal.returns-in-Ok-Some-clause-through
returns-in-Ok-Some-clause-through g c =
    step_through (section_in g.S._UnwindSectionPrivate.view c.args.at.now) c.read_entry.ensures.read c.loop-input.invariant.through

pub returns-in-Ok-Some-clause-fewer : goal.returns-in-Ok-Some-clause-fewer
returns-in-Ok-Some-clause-fewer g c =
    let some_left = sym c.is_empty.ensures ∙ c.loop-input-test.true in
    let read = rw c.in-Ok-Some.field-0-is at c.in-Ok-Some.ensures.read in
    let less = step_fewer (section_in g.S._UnwindSectionPrivate.view c.args.at.now) _ _ _ some_left read in
    omega (arith, less, c.loop-input.invariant.no_more)

pub returns-then-has_zero_terminator-clause-met : goal.returns-then-has_zero_terminator-clause-met
returns-then-has_zero_terminator-clause-met g c =
    let section = section_in g.S._UnwindSectionPrivate.view c.args.at.now in
    let some_left = sym c.is_empty.ensures ∙ c.loop-input-test.true in
    let read = rw c.in-Ok-None.field-0-is at c.in-Ok-None.ensures.read in
    let kind = g.met.S._UnwindSectionPrivate.kind c.args.at.now.section in
    let ends = ap zero_length_ends kind ∙ sym c.has_zero_terminator.ensures ∙ c.if-has_zero_terminator.true in (
      cc (c.loop-input.invariant.same, step_terminator section (g.R.Reader.position c.loop-input.input) (g.R.Reader.position c.read_entry.new.input) c.loop-input.invariant.through.source some_left read.0 ends),
      exhausted_left section (g.R.Reader.position c.read_entry.new.input) _ (read.1 ∙ c.loop-input.invariant.through.source) c.empty.ensures,
    )

pub returns-then-has_zero_terminator-clause-through :
    goal.returns-then-has_zero_terminator-clause-through
returns-then-has_zero_terminator-clause-through g c =
    let begins = (g.S._UnwindSectionPrivate.view c.args.at.now.section).position in
    let sound = g.met.R.Reader.sound c.read_entry.new.input in
    let through = step_through (section_in g.S._UnwindSectionPrivate.view c.args.at.now) c.read_entry.ensures.read c.loop-input.invariant.through in
    subst (λ r. GoesThrough r begins) (sym c.empty.ensures) (exhausted_through _ _ sound.ordered through)

pub loop-input-smaller : goal.loop-input-smaller
loop-input-smaller g c =
    let some_left = sym c.is_empty.ensures ∙ c.loop-input-test.true in
    let read = rw c.in-Ok-None.field-0-is at c.in-Ok-None.ensures.read in
    step_fewer (section_in g.S._UnwindSectionPrivate.view c.args.at.now) _ _ _ some_left read

pub loop-input-preserved : goal.loop-input-preserved
loop-input-preserved g c =
    let section = section_in g.S._UnwindSectionPrivate.view c.args.at.now in
    let some_left = sym c.is_empty.ensures ∙ c.loop-input-test.true in
    let read = rw c.in-Ok-None.field-0-is at c.in-Ok-None.ensures.read in
    let kind = g.met.S._UnwindSectionPrivate.kind c.args.at.now.section in
    let passes = ap zero_length_ends kind ∙ sym c.has_zero_terminator.ensures ∙ c.if-has_zero_terminator.false in
    record {
      same = sym (step_gap section (g.R.Reader.position c.loop-input.input) (g.R.Reader.position c.read_entry.new.input) c.loop-input.invariant.through.source some_left read.0 passes) ∙ c.loop-input.invariant.same;
      through = step_through section c.read_entry.ensures.read c.loop-input.invariant.through;
      no_more = omega (arith, step_fewer section _ _ _ some_left read, c.loop-input.invariant.no_more);
    }

pub returns-in-Err-clause-met : goal.returns-in-Err-clause-met
returns-in-Err-clause-met g c =
    let section = section_in g.S._UnwindSectionPrivate.view c.args.at.now in
    let some_left = sym c.is_empty.ensures ∙ c.loop-input-test.true in (
      sym c.loop-input.invariant.same ∙ step_refusal section (g.R.Reader.position c.loop-input.input) (g.R.Reader.position c.read_entry.new.input) c.loop-input.invariant.through.source some_left _ c.in-Err.ensures.read.0,
      exhausted_left section (g.R.Reader.position c.read_entry.new.input) _ (c.in-Err.ensures.read.1 ∙ c.loop-input.invariant.through.source) c.empty-in-Err.ensures,
    )

pub returns-in-Err-clause-through : goal.returns-in-Err-clause-through
returns-in-Err-clause-through g c =
    let begins = (g.S._UnwindSectionPrivate.view c.args.at.now.section).position in
    let sound = g.met.R.Reader.sound c.read_entry.new.input in
    let through = step_through (section_in g.S._UnwindSectionPrivate.view c.args.at.now) c.read_entry.ensures.read c.loop-input.invariant.through in
    subst (λ r. GoesThrough r begins) (sym c.empty-in-Err.ensures) (exhausted_through _ _ sound.ordered through)

pub returns-clause-met : goal.returns-clause-met
returns-clause-met g c =
    let section = section_in g.S._UnwindSectionPrivate.view c.args.at.now in
    let none = sym c.is_empty.ensures ∙ c.loop-input-test.false in (
      sym c.loop-input.invariant.same ∙ none_left section (g.R.Reader.position c.loop-input.input) c.loop-input.invariant.through.source none,
      exhausted_left section (g.R.Reader.position c.loop-input.input) _ c.loop-input.invariant.through.source c.empty-2.ensures,
    )
