use Rattle.std.proofs.Common.{◌≤◌, ◌<◌, List, length, sym, ap, subst, ◌∙◌, ⊎_elim, arith}
use Rattle.cfi_compiled.specs.declared.step_list.NumberedStep.{NumberedStep}
use Rattle.cfi_compiled.specs.CompiledTables.{IsSoundTable, TableContents, frame_at, frame_numbered, results_of, steps_of}
use Rattle.cfi_compiled.specs.KeptRows.{results_in}
use Rattle.cfi_compiled.specs.Steps.{free_from}
use Rattle.cfi_compiled.proofs.Searched.{ascends}
use Rattle.cfi_compiled.proofs.Grown.{rise_pushed, before_pushed, from_pushed, repeated, free_pushed, unchanged}
use Rattle.cfi_compiled.proofs.builder.TableBuilder.push.Goals as goal

pub returns-then-ends_with-clause-after : goal.returns-then-ends_with-clause-after
returns-then-ends_with-clause-after c a from =
    let rows = c.self.inside.rows in
    let results = results_in c.self.inside.rests rows in
    let free = subst (λ (f : TableContents). free_from 0 (steps_of f) ≤ c.args.from) (sym c.self.view_is) c.requires.free in
    let ends = c.ends_with.ensures c.if-ends_with.true in
    ap (λ (f : TableContents). frame_at f a) (sym c.self.view_is)
    ∙ repeated results results (unchanged results) _ c.self.invariant.rise c.self.invariant.numbers a _ ends (omega (arith, free, from))
    ∙ ap (λ (f : TableContents). frame_numbered (results_of f) c.args.number) c.self.view_is

pub push-requires : goal.push-requires
push-requires c =
    let rows = c.self.inside.rows in
    let results = results_in c.self.inside.rests rows in
    let free = subst (λ (f : TableContents). free_from 0 (steps_of f) ≤ c.args.from) (sym c.self.view_is) c.requires.free in
    let within = subst (λ (f : TableContents). c.args.number < length (results_of f)) (sym c.self.view_is) c.requires.number in
    let pushed = rise_pushed results results (unchanged results) _ c.self.invariant.rise c.self.invariant.numbers (record { start = c.args.from; number = c.args.number }) free within in
    ascends results _ 0 pushed.0

pub invariant_of-self-in_err-push : goal.invariant_of-self-in_err-push
invariant_of-self-in_err-push c =
    let rows = c.self.inside.rows in
    let results = results_in c.self.inside.rests rows in
    let free = subst (λ (f : TableContents). free_from 0 (steps_of f) ≤ c.args.from) (sym c.self.view_is) c.requires.free in
    let within = subst (λ (f : TableContents). c.args.number < length (results_of f)) (sym c.self.view_is) c.requires.number in
    let pushed = rise_pushed results results (unchanged results) _ c.self.invariant.rise c.self.invariant.numbers (record { start = c.args.from; number = c.args.number }) free within in
    let sound = λ (n : List NumberedStep). IsSoundTable (record { lists = c.self.inside.rests; rows = rows; numbers = n }) in
    ⊎_elim
    (λ same. subst sound (sym same) c.self.invariant)
    (λ more. subst sound (sym more) (record { rise = pushed.0; numbers = pushed.1; named = c.self.invariant.named }))
    c.push.ensures.added

pub invariant_of-self-2 : goal.invariant_of-self-2
invariant_of-self-2 c =
    let rows = c.self.inside.rows in
    let results = results_in c.self.inside.rests rows in
    let free = subst (λ (f : TableContents). free_from 0 (steps_of f) ≤ c.args.from) (sym c.self.view_is) c.requires.free in
    let within = subst (λ (f : TableContents). c.args.number < length (results_of f)) (sym c.self.view_is) c.requires.number in
    let pushed = rise_pushed results results (unchanged results) _ c.self.invariant.rise c.self.invariant.numbers (record { start = c.args.from; number = c.args.number }) free within in
    rw c.in_ok-push.ensures.pushed (record { rise = pushed.0; numbers = pushed.1; named = c.self.invariant.named })

pub returns-clause-before : goal.returns-clause-before
returns-clause-before c a below =
    let rows = c.self.inside.rows in
    let results = results_in c.self.inside.rests rows in
    let free = subst (λ (f : TableContents). free_from 0 (steps_of f) ≤ c.args.from) (sym c.self.view_is) c.requires.free in
    ap (λ (n : List NumberedStep). frame_at (record { lists = c.self.inside.rests; rows = rows; numbers = n }) a) c.in_ok-push.ensures.pushed
    ∙ before_pushed results results (unchanged results) _ c.self.invariant.rise c.self.invariant.numbers (record { start = c.args.from; number = c.args.number }) free a below
    ∙ ap (λ (f : TableContents). frame_at f a) c.self.view_is

pub returns-clause-after : goal.returns-clause-after
returns-clause-after c a from =
    let rows = c.self.inside.rows in
    let results = results_in c.self.inside.rests rows in
    let free = subst (λ (f : TableContents). free_from 0 (steps_of f) ≤ c.args.from) (sym c.self.view_is) c.requires.free in
    ap (λ (n : List NumberedStep). frame_at (record { lists = c.self.inside.rests; rows = rows; numbers = n }) a) c.in_ok-push.ensures.pushed
    ∙ from_pushed results results (unchanged results) _ c.self.invariant.rise c.self.invariant.numbers (record { start = c.args.from; number = c.args.number }) free a from
    ∙ ap (λ (f : TableContents). frame_numbered (results_of f) c.args.number) c.self.view_is

pub returns-clause-free : goal.returns-clause-free
returns-clause-free c =
    let rows = c.self.inside.rows in
    let results = results_in c.self.inside.rests rows in
    let free = subst (λ (f : TableContents). free_from 0 (steps_of f) ≤ c.args.from) (sym c.self.view_is) c.requires.free in
    let is =
    ap (λ (n : List NumberedStep). free_from 0 (steps_of (record { lists = c.self.inside.rests; rows = rows; numbers = n }))) c.in_ok-push.ensures.pushed
    ∙ free_pushed results results (unchanged results) _ c.self.invariant.rise c.self.invariant.numbers (record { start = c.args.from; number = c.args.number }) free in
    omega (arith, is)
