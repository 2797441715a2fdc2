use Rattle.cfi_read_core.proofs.Onward.{onward_offset_leb128}
use Rattle.cfi_parts.proofs.Behind.{stays_behind}
use Rattle.cfi_parts.proofs.instruction.parse.parse_expression.Goals as goal

pub offset_from-offset-requires : goal.offset_from-offset-requires
offset_from-offset-requires g c = stays_behind onward_offset_leb128 _ c.in_ok-length.ensures.0 c.requires
