-- Which output is right for a whole section.
--     IsPrinted names what section printed      the rows of FDEs; the entries with their
--         instructions and rows, of which only the status is said; or that memory was refused
use Rattle.std.specs.Prelude.{◌≡◌, ◌⊎◌, ℕ, List}
use Rattle.cfi_entry.specs.Sections.{Section}
use Rattle.cfi_read_core.specs.declared.error.Error.TheVariants.{OutOfMemory}
use Rattle.cfi_text.specs.declared.register_names.RegisterNames.{RegisterNames}
use Rattle.cfi_text.specs.Lines.{Line}
use Rattle.cfi_text.specs.Refusals.{refusal_in}
use Rattle.cfi_text.specs.declared.style.Format.{Format}
use Rattle.cfi_text.specs.declared.style.Format.TheVariants.{Text as AsText}
use Rattle.cfi_files.specs.declared.dump.printed.Printed.{Printed}
use Rattle.cfi_files.specs.declared.dump.printed.Printed.TheVariants as printing
use Rattle.cfi_files.specs.DumpRowTexts.{asked_rows, style_of}

-- the form of the lines
abbrev pub printed_format : Printed → Format
printed_format (printing.Entries functions) = AsText
printed_format (printing.Rows asked) = asked.format

-- a text of any number of lines, with the status
abbrev pub text_output : List ℕ → Line
text_output text = record { text = text; status = 0 }

abbrev pub IsListing : RegisterNames → Printed → Section → Line → Type 0
IsListing names (printing.Entries functions) section printed = printed.status ≡ 0
IsListing names (printing.Rows asked) section printed =
    printed ≡ text_output (asked_rows (style_of names asked) asked section)

abbrev pub IsPrinted : RegisterNames → Printed → Section → Line → Type 0
IsPrinted names what section printed =
    IsListing names what section printed ⊎ (printed ≡ refusal_in (printed_format what) OutOfMemory)
