use Rattle.std.proofs.Common.{refl, sym, ap, ◌∙◌, arith}
use Rattle.cfi_compiled.specs.declared.step_list.NumberedStep.{NumberedStep}
use Rattle.cfi_compiled.specs.CompiledTables.{TableContents, frame_at, frame_numbered}
use Rattle.cfi_compiled.specs.KeptRows.{results_in}
use Rattle.cfi_compiled.specs.StepLists.{numbered_steps}
use Rattle.cfi_compiled.specs.FrameParts.{parts_of_frame}
use Rattle.cfi_compiled.proofs.LentRows.{parts_lent_are}
use Rattle.cfi_compiled.proofs.Searched.{found_at, found_before}
use Rattle.cfi_compiled.proofs.table.CompiledTable.row.Goals as goal

pub returns-in-Some-clause-frame : goal.returns-in-Some-clause-frame
returns-in-Some-clause-frame c =
    let results = results_in c.self.inside.rests c.self.inside.rows in
    let steps = numbered_steps c.self.inside.steps in
    let none : NumberedStep = record { start = 0; number = 0 } in
    let found = c.in-Some.ensures in
    let split = found.1 in
    let got = c.result_at.ensures.frames in
    got
    ∙ ap (frame_numbered results) (sym (found.2 none))
    ∙ found_at results steps c.args.address c.self.invariant.rise none found.0 (omega (arith, split.inside)) (split.from found.0 none refl) (λ j is more. split.up_to j none is more)
    ∙ ap (λ (f : TableContents). frame_at f c.args.address) c.self.view_is

pub returns-in-None-clause-frame : goal.returns-in-None-clause-frame
returns-in-None-clause-frame c =
    let split = c.in-None.ensures in
    found_before (results_in c.self.inside.rests c.self.inside.rows) (numbered_steps c.self.inside.steps) c.args.address (λ d some. split.up_to 0 d refl some)
    ∙ ap (λ (f : TableContents). frame_at f c.args.address) c.self.view_is

pub returns-in-Some-clause-row : goal.returns-in-Some-clause-row
returns-in-Some-clause-row c = parts_lent_are c.result_at.result ∙ ap parts_of_frame (returns-in-Some-clause-frame c)

pub returns-in-None-clause-row : goal.returns-in-None-clause-row
returns-in-None-clause-row c = ap parts_of_frame (returns-in-None-clause-frame c)
