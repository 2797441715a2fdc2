-- What the outputs of stacks of both kinds have.
--     IsSaidIn format Is      what is said of an output in JSON
--     no_memory format      the line that says that memory was refused
use Rattle.std.specs.Prelude.{⊤}
use Rattle.cfi_read_core.specs.declared.error.Error.TheVariants.{OutOfMemory}
use Rattle.cfi_text.specs.declared.style.Format.{Format}
use Rattle.cfi_text.specs.declared.style.Format.TheVariants.{Json, Text}
use Rattle.cfi_text.specs.Lines.{Line}
use Rattle.cfi_text.specs.Refusals.{refusal_in}

-- the lines of text are for people, and nothing is said of them
abbrev pub IsSaidIn : Format → Type 0 → Type 0
IsSaidIn Text Is = ⊤
IsSaidIn Json Is = Is

abbrev pub no_memory : Format → Line
no_memory format = refusal_in format OutOfMemory
