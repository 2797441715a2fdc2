use Rattle.std.proofs.Common.{drop, codes}
use Rattle.std.specs.List.{flat_map}
use Rattle.cfi_text.specs.JsonTexts.{replacement}
use Rattle.cfi_text.proofs.TextLemmas.{IsPut}
use Rattle.cfi_text.proofs.text.Text.replacements.Given as goal

abbrev pub invariant-loop : goal.invariant-loop
invariant-loop l = IsPut l.fn.self l.self (flat_map replacement (drop l.index l.bytes)) (flat_map replacement l.bytes)
