-- What the worked words and input compute with.
use Rattle.std.proofs.Common.{ℕ}
use Rattle.std.specs.Fmt.{digits}
use Rattle.hex.specs.Hex.{decode_pairs}
use Rattle.cfi_programs.specs.Words.{each_word}

-- to name it on an `unfolding` line is to open all these
unfoldable pub computing : ℕ
unfolding decode_pairs digits each_word
computing = 0
