use Rattle.std.proofs.Common.{◌≡◌}
use Rattle.cfi_read_core.specs.ReadFunctions.{Source}
use Rattle.cfi_row_text.specs.ExpressionWords.{words_at, words_from}
use Rattle.cfi_text.proofs.TextLemmas.{IsPut}
use Rattle.cfi_row_text.proofs.expression_words.put_operations.Given as goal

-- what is left to put is what the rest gives, of at most so many operations
abbrev pub invariant-loop-names : goal.invariant-loop-names
invariant-loop-names g l =
    let all = g.R.Reader.position l.bytes in
    let here = g.R.Reader.position l.input in
    (◌≡◌ {A = Source} here.source all.source)
    × IsPut l.fn.text l.text
    (words_from l.names l.size l.left all.source here.place l.is_first) (words_at l.names l.size all)

abbrev pub decreases-loop-names : goal.decreases-loop-names
decreases-loop-names g l = l.left
