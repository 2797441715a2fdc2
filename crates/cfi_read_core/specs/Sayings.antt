-- The text of a sentence that the code has in parts.
use Rattle.std.specs.Prelude.{ℕ, List, [], ◌++◌}
use Rattle.std.specs.Fmt.{decimal}
use Rattle.cfi_read_core.specs.declared.error_sentence.Number.{Number}
use Rattle.cfi_read_core.specs.declared.error_sentence.Number.TheVariants.{Absent, Decimal}
use Rattle.cfi_read_core.specs.declared.error_sentence.Number.TheVariants.{Hexadecimal}
use Rattle.cfi_read_core.specs.declared.error_sentence.Saying.{Saying}
use Rattle.cfi_read_core.specs.ErrorSentences.{hexadecimal}

abbrev pub number_text : Number → List ℕ
number_text Absent = []
number_text (Decimal n) = decimal n
number_text (Hexadecimal n) = hexadecimal n

abbrev pub saying_text : Saying → List ℕ
saying_text saying = saying.before.now ++ (number_text saying.number ++ saying.after.now)
