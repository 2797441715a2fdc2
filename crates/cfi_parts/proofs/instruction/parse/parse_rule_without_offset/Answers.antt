use Rattle.cfi_read_core.proofs.Onward.{onward_register_leb128}
use Rattle.cfi_parts.proofs.Behind.{stays_behind}
use Rattle.cfi_parts.proofs.instruction.parse.parse_rule_without_offset.Goals as goal

pub parse_expression-requires : goal.parse_expression-requires
parse_expression-requires g c = stays_behind onward_register_leb128 _ c.in_ok-read_register-in-DW_CFA_expression.ensures.0 c.requires

pub parse_expression-requires-in-DW_CFA_val_expression :
    goal.parse_expression-requires-in-DW_CFA_val_expression
parse_expression-requires-in-DW_CFA_val_expression g c =
    stays_behind onward_register_leb128 _ c.in_ok-read_register-in-DW_CFA_val_expression.ensures.0 c.requires
