use Rattle.std.proofs.Common.{◌≡◌, drop}
use Rattle.cfi_mapped.specs.TextSymbols.{told_number_from}
use Rattle.cfi_mapped.proofs.text_symbols.told_number.Given as goal

abbrev pub invariant-loop-digit : goal.invariant-loop-digit
invariant-loop-digit l = told_number_from l.number (drop l.digit-index l.digits) ≡ told_number_from 0 l.digits
