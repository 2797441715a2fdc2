use Rattle.std.proofs.Common.{◌≡◌, refl, rules}
use Rattle.cfi_parts.specs.Instructions.{by_rules, by_register_rules}
use Rattle.cfi_parts.proofs.PointerReads.{negate_refused}
use Rattle.cfi_parts.proofs.instruction.parse.parse_rare.Goals as goal

pub returns-in-Default : goal.returns-in-Default
returns-in-Default g c =
    let is : c.args.opcode.0 ≡ 0x2d = search rules in
    (negate_refused _ _ _ is c.in-Default.is, refl)

pub returns-in_default : goal.returns-in_default
unfolding by_rules by_register_rules
returns-in_default g c = search rules
