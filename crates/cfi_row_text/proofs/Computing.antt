-- What the worked lines compute with.
use Rattle.std.proofs.Common.{ℕ}
use Rattle.std.specs.Fmt.{digits}
use Rattle.cfi_row_text.specs.RowLines.{rules_by}

-- to name it on an `unfolding` line is to open all these
unfoldable pub computing : ℕ
unfolding digits rules_by
computing = 0
