use Rattle.std.proofs.Common.{Ok}
use Rattle.cfi_state.specs.MappedStates.{row_lent}
use Rattle.cfi_state.proofs.Laws.{run_is_due}
use Rattle.cfi_entry.specs.Sections.{section_of}
use Rattle.cfi_unwind.specs.FdeViews.{fde_view}
use Rattle.cfi_unwind.proofs.Laws.{row_contains}
use Rattle.cfi_unwind.proofs.RowLemmas.{lent_contains, same_run}
use Rattle.cfi_unwind.proofs.StartLemmas.{row_inside}
use Rattle.cfi_unwind.proofs.fde_rows.FrameDescriptionEntry+R.unwind_info_for_address.Goals as goal

pub returns-clause-row : goal.returns-clause-row
returns-clause-row g c =
    run_is_due _ _ _ _ _ _
    (same_run _ _ (c.parameters.ensures.setting _ _) _ _ c.instructions-initial.ensures.left _ _ c.instructions-instructions.ensures.left _ _ _ c.row_of_programs.ensures.run)

pub returns-clause-contains : goal.returns-clause-contains
returns-clause-contains g c =
    let number = g.R.Offset.ReaderOffset.number in
    lent_contains number _ c.row_of_programs.result
    (row_contains _ _ _ (section_of (g.Section._UnwindSectionPrivate.view c.args.section.now) c.args.bases.now) _ (Ok (fde_view g.R.Reader.position number c.args.self.now))
    (row_lent number c.row_of_programs.result) (returns-clause-row g c))

pub returns-clause-expressions : goal.returns-clause-expressions
returns-clause-expressions g c =
    row_inside g.R.Offset.ReaderOffset.number _ _ _ (section_of (g.Section._UnwindSectionPrivate.view c.args.section.now) c.args.bases.now) _ (fde_view g.R.Reader.position g.R.Offset.ReaderOffset.number c.args.self.now)
    c.row_of_programs.result (returns-clause-row g c)
    c.requires.cie.first c.requires.cie.last c.requires.own.first c.requires.own.last
