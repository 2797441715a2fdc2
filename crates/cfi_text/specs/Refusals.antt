-- The lines that say why there is no answer.
use Rattle.std.specs.Prelude.{ℕ, List, [], ◌++◌, codes}
use Rattle.cfi_read_core.specs.declared.error.Error.{Error}
use Rattle.cfi_read_core.specs.declared.error.Error.TheVariants.{OutOfMemory}
use Rattle.cfi_read_core.specs.RefusalNames.{name_of}
use Rattle.cfi_text.specs.ErrorWords.{error_words}
use Rattle.cfi_text.specs.Lines.{Line, line}
use Rattle.cfi_text.specs.declared.style.Format.{Format}
use Rattle.cfi_text.specs.declared.style.Format.TheVariants.{Text, Json}

abbrev pub refusal_line : Error → Line
refusal_line error = line (codes "refused " ++ name_of error) 1

-- the line where memory was refused
abbrev pub out_of_memory : Line
out_of_memory = refusal_line OutOfMemory

-- ---- the same by the format

-- an object of JSON that says why there is no answer
abbrev pub error_object : List ℕ → List ℕ
error_object reason = codes "{\"error\":\"" ++ (reason ++ codes "\"}")

-- why there is no answer; in text after another text
abbrev pub error_in : Format → List ℕ → List ℕ → List ℕ
error_in Text before reason = before ++ reason
error_in Json before reason = error_object reason

abbrev pub reason_line : Format → List ℕ → ℕ → Line
reason_line format reason status = line (error_in format [] reason) status

-- that something was refused, by the name of the error, or by that and what it says
abbrev pub refusal_saying : Format → List ℕ → Line
refusal_saying format words = line (error_in format (codes "refused ") words) 1

abbrev pub refusal_in : Format → Error → Line
refusal_in format error = refusal_saying format (name_of error)

-- the same with what the error says
abbrev pub refusal_told : Format → Error → Line
refusal_told format error = refusal_saying format (error_words format error)

-- ---- after what was asked for, with which an object of JSON has begun

-- why there is no answer; in text after another text
abbrev pub error_end : Format → List ℕ → List ℕ → List ℕ
error_end Text before reason = before ++ reason
error_end Json before reason = codes "\"error\":\"" ++ (reason ++ codes "\"}")

abbrev pub reason_end : Format → List ℕ → List ℕ → Line
reason_end format before reason = line (error_end format before reason) 1

abbrev pub refusal_end : Format → Error → Line
refusal_end format error = reason_end format (codes "refused ") (error_words format error)
