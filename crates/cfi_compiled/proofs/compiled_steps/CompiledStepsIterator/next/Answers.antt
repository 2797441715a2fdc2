use Rattle.std.proofs.Common.{◌+◌, ◌<◌, ◌∷◌, map, length, drop, ap, ◌∙◌}
use Rattle.std.proofs.lemmas.List.{drop_more, get_or-map}
use Rattle.std.proofs.Math.ListN.{length-map}
use Rattle.cfi_compiled.specs.declared.step_list.NumberedStep.{NumberedStep}
use Rattle.cfi_compiled.specs.CompiledTables.{results_of, step_named}
use Rattle.cfi_compiled.specs.Steps.{Step}
use Rattle.cfi_compiled.proofs.compiled_steps.CompiledStepsIterator.next.Goals as goal

pub returns-clause-steps : goal.returns-clause-steps
returns-clause-steps c =
    let table = c.args.self.now.table.now in
    let next = c.args.self.now.next in
    let none : NumberedStep = record { start = 0; number = 0 } in
    let named = step_named (results_of table) in
    let at = c.in_ok-start.ensures.step in
    let inside : next < length (map named table.numbers) = simp length-map at.0 in
    let rest = drop (next + 1) (map named table.numbers) in
    drop_more (map named table.numbers) next (named none) inside
    ∙ ap (λ (s : Step). s ∷ rest) (get_or-map named table.numbers next none (named none) at.0 ∙ at.1 none)
