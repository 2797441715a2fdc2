use Rattle.cfi_read_core.specs.ReaderCalls.{remaining}
use Rattle.cfi_answers.proofs.passes.entries.Given as goal

-- each entry takes a byte at least
abbrev pub decreases-loop-entry : goal.decreases-loop-entry
decreases-loop-entry g l = remaining (g.R.Reader.position l.entries.input)
