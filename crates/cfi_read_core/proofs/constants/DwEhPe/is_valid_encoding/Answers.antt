use Rattle.std.proofs.Common.{rules}
use Rattle.cfi_read_core.proofs.constants.DwEhPe.is_valid_encoding.Goals as goal

pub returns-then-matches : goal.returns-then-matches
returns-then-matches c = search rules
