-- The line that says why an input wasn't read.
use Rattle.std.specs.Prelude.{codes}
use Rattle.cfi_text.specs.declared.reading.InputError.{InputError}
use Rattle.cfi_text.specs.declared.reading.InputError.TheVariants as input_errors
use Rattle.cfi_read_core.specs.declared.error.Error.TheVariants.{OutOfMemory}
use Rattle.cfi_text.specs.Lines.{Line}
use Rattle.cfi_text.specs.Refusals.{reason_line, refusal_in}
use Rattle.cfi_text.specs.declared.style.Format.{Format}

-- memory is refused, or it can't be read
abbrev pub input_refusal : Format → InputError → Line
input_refusal format input_errors.OutOfMemory = refusal_in format OutOfMemory
input_refusal format _ = reason_line format (codes "wrong input") 2
