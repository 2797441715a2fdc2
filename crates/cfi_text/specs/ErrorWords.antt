-- What errors of call frames say: the name, a sentence with the number that the error carries, and
-- what to do about it.
--     error_words format error      its name, the sentence, and what to do where there is something
use Rattle.std.specs.Prelude.{ℕ, List, [], ◌++◌, ◌==◌, codes, if◌then◌else◌}
use Rattle.cfi_read_core.specs.declared.error.Error.{Error}
use Rattle.cfi_read_core.specs.declared.error.Error.TheVariants.{UnknownCallFrameInstruction}
use Rattle.cfi_read_core.specs.declared.error.Error.TheVariants.{StackFull, TooManyRegisterRules}
use Rattle.cfi_read_core.specs.declared.error.Error.TheVariants.{TextRelativePointerButTextBaseIsUndefined}
use Rattle.cfi_read_core.specs.declared.error.Error.TheVariants.{DataRelativePointerButDataBaseIsUndefined}
use Rattle.cfi_read_core.specs.ErrorSentences.{sentence_of}
use Rattle.cfi_read_core.specs.RefusalNames.{name_of}
use Rattle.cfi_text.specs.declared.style.Format.{Format}
use Rattle.cfi_text.specs.declared.style.Format.TheVariants.{Text, Json}

-- ---- what to do

-- an opcode that only one machine has, and that isn't read
abbrev pub unsupported_opcode : ℕ → List ℕ
unsupported_opcode opcode =
    if opcode == 0x2d then codes "; DW_CFA_GNU_window_save of SPARC isn't supported"
    else if opcode == 0x1d then codes "; DW_CFA_MIPS_advance_loc8 isn't supported"
    else []

abbrev pub advice_on : Error → List ℕ
advice_on (UnknownCallFrameInstruction opcode) = unsupported_opcode opcode.0
advice_on TextRelativePointerButTextBaseIsUndefined = codes "; cfi_rows takes one by text=N"
advice_on DataRelativePointerButDataBaseIsUndefined = codes "; cfi_rows takes one by data=N"
advice_on StackFull = codes "; cfi_rows has room by store=vec"
advice_on TooManyRegisterRules = codes "; cfi_rows has room by store=vec"
advice_on _ = []

-- ---- all of it

-- between the name of an error and its sentence; in JSON they are two members
abbrev pub parting : Format → List ℕ
parting Text = codes ": "
parting Json = codes "\",\"reason\":\""

abbrev pub error_words : Format → Error → List ℕ
error_words format error =
    name_of error ++ (parting format ++ (sentence_of error ++ advice_on error))
