use Rattle.std.proofs.Common.{◌∙◌, sym}
use Rattle.cfi_parts.proofs.PointerReads.{byte_refused}
use Rattle.cfi_parts.proofs.pointer.parse_pointer_encoding.Goals as goal

pub returns-else-is_valid_encoding : goal.returns-else-is_valid_encoding
returns-else-is_valid_encoding g c = (byte_refused _ _ c.in_ok-read_u8.ensures.0 (sym c.is_valid_encoding.ensures ∙ c.if-is_valid_encoding.false), c.in_ok-read_u8.ensures.1)
