use Rattle.std.proofs.Common.{length}
use Rattle.cfi_compiled.proofs.pieces.+resolve.Given as goal

abbrev pub decreases-resolve : goal.decreases-resolve
decreases-resolve l = length l.spans.now
