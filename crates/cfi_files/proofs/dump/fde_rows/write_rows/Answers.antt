use Rattle.std.proofs.Common.{List, ℕ, Some}
use Rattle.cfi_unwind.specs.FdeViews.{fde_view}
use Rattle.cfi_entry.specs.Sections.{section_of}
use Rattle.cfi_row_text.specs.Wordings.{of_section}
use Rattle.cfi_files.specs.Sending.{Sends}
use Rattle.cfi_files.proofs.FdeRowsSent.{refused_rows, rows_are}
use Rattle.cfi_files.proofs.dump.fde_rows.write_rows.Goals as goal

pub returns-in-Ok : goal.returns-in-Ok
returns-in-Ok g c =
    let section = section_of (g.S._UnwindSectionPrivate.view c.args.at.now.section) c.args.at.now.bases.now in
    rows_are (fde_view g.R.Reader.position (λ n. n) c.args.fde.now) section
    (λ (lines : List ℕ). Sends c.args.walk.now.text c.write_table.new.text (g.W.Write.contents c.args.output.now) (g.W.Write.contents c.write_table.new.output) c.write_table.result lines)
    (of_section c.args.style section) _ _ (c.in-Ok.ensures.setting (Some 192) (Some 4)) c.in-Ok.ensures.starts.kept c.in-Ok.ensures.starts.left c.in-Ok.ensures.starts.has_not_ended c.write_table.ensures

pub returns-in-Err : goal.returns-in-Err
returns-in-Err g c =
    let section = section_of (g.S._UnwindSectionPrivate.view c.args.at.now.section) c.args.at.now.bases.now in
    rw (← refused_rows (fde_view g.R.Reader.position (λ n. n) c.args.fde.now) section (of_section c.args.style section) _ c.in-Err.ensures.starts.kept) c.write_refused.ensures
