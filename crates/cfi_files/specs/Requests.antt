-- What is needed of a file for a request, and the form of its lines.
use Rattle.std.specs.Prelude.{Bool, true, false, Some, None}
use Rattle.std.specs.List.{list_any}
use Rattle.cfi_object.specs.Targets.{names_entry}
use Rattle.cfi_object.specs.declared.needed.Needed.{Needed}
use Rattle.cfi_text.specs.WordTexts.{texts}
use Rattle.cfi_text.specs.declared.style.Format.{Format}
use Rattle.cfi_text.specs.declared.style.Format.TheVariants.{Text}
use Rattle.cfi_files.specs.declared.request.Printed.{Printed}
use Rattle.cfi_files.specs.declared.request.Printed.TheVariants.{Row, Rows, Dump, Table}

-- the form of the lines
abbrev pub format_for : Printed → Format
format_for (Row words format) = format
format_for (Rows word format) = format
format_for Dump = Text
format_for Table = Text

-- whether the symbols of the file are needed: rows and entries have the names of functions, and
-- words name symbols
abbrev pub needs_symbols : Printed → Bool
needs_symbols (Row words format) = true
needs_symbols (Rows word format) = true
needs_symbols Dump = true
needs_symbols Table = false

-- whether the procedure linkage table is: words name entries of it
abbrev pub needs_plt : Printed → Bool
needs_plt (Row words format) = list_any names_entry (texts words.now)
needs_plt (Rows (Some word) format) = names_entry word.now
needs_plt (Rows None format) = false
needs_plt Dump = false
needs_plt Table = false

abbrev pub needed_for : Printed → Needed
needed_for printed =
    record { symbols = needs_symbols printed; plt = needs_plt printed; build = false }
