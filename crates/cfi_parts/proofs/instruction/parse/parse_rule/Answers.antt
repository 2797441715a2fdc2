use Rattle.std.proofs.Common.{◌≡◌, ◌∙◌, rules}
use Rattle.cfi_parts.proofs.PointerReads.{negative_read}
use Rattle.cfi_parts.proofs.instruction.parse.parse_rule.Goals as goal

pub returns-in_ok-read_uleb128-in-DW_CFA_GNU_negative_offset_extended :
    goal.returns-in_ok-read_uleb128-in-DW_CFA_GNU_negative_offset_extended
returns-in_ok-read_uleb128-in-DW_CFA_GNU_negative_offset_extended g c =
    let is : c.args.opcode.0 ≡ 0x2f = search rules in
    let register = c.in_ok-read_register-in-DW_CFA_GNU_negative_offset_extended.ensures in
    let number = c.in_ok-read_uleb128-in-DW_CFA_GNU_negative_offset_extended.ensures in
    (negative_read _ _ _ is register.1 register.0 number.0, number.1 ∙ register.1)
