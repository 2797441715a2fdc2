use Rattle.std.proofs.Common.{drop, codes}
use Rattle.std.specs.List.{flat_map}
use Rattle.cfi_text.specs.Names.{byte_escape}
use Rattle.cfi_text.proofs.TextLemmas.{IsPut}
use Rattle.cfi_text.proofs.text.Text.escapes.Given as goal

abbrev pub invariant-loop-byte : goal.invariant-loop-byte
invariant-loop-byte l = IsPut l.fn.self l.self (flat_map byte_escape (drop l.byte-index l.bytes)) (flat_map byte_escape l.bytes)
