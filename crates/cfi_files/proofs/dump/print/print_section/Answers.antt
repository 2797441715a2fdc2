use Rattle.std.proofs.Common.{inl, refl}
use Rattle.cfi_entry.specs.Sections.{section_of}
use Rattle.cfi_files.specs.DumpProgramOutput.{text_output}
use Rattle.cfi_files.specs.DumpRowTexts.{asked_rows, style_of}
use Rattle.cfi_files.proofs.dump.print.print_section.Goals as goal

pub returns-in-Entries : goal.returns-in-Entries
returns-in-Entries g c = rw c.in-Entries.is (c.print_entries.ensures.0, c.print_entries.ensures.1, inl c.print_entries.ensures.2)

pub returns-in-Rows : goal.returns-in-Rows
returns-in-Rows g c =
    rw c.in-Rows.is (text_output (asked_rows (style_of c.args.names c.in-Rows.asked) c.in-Rows.asked (section_of (g.S._UnwindSectionPrivate.view c.args.section.now) c.args.bases.now)), c.print_rows.ensures, inl refl)
