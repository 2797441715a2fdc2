use Rattle.std.proofs.Common.{length}
use Rattle.std.specs.List.{flat_map}
use Rattle.cfi_text.specs.Escapes.{escaped_part}
use Rattle.cfi_text.specs.Names.{parts}
use Rattle.cfi_text.proofs.TextLemmas.{IsPut}
use Rattle.cfi_text.proofs.text.Text.escaped.Given as goal

abbrev pub invariant-loop-left : goal.invariant-loop-left
invariant-loop-left l = IsPut l.fn.self l.self (flat_map (escaped_part l.escaping) (parts l.left)) (flat_map (escaped_part l.escaping) (parts l.name))

abbrev pub decreases-loop-left : goal.decreases-loop-left
decreases-loop-left l = length l.left
