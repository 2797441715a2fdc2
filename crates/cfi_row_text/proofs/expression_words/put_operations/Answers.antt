use Rattle.std.proofs.Common.{refl, sym, ◌∙◌}
use Rattle.cfi_row_text.proofs.ExpressionWordsLemmas.{known_next, no_turn, none_left, unknown_next}
use Rattle.cfi_row_text.proofs.RowLineLemmas.{put_last, put_next}
use Rattle.cfi_text.proofs.TextLemmas.{put_all, put_first}
use Rattle.cfi_row_text.proofs.expression_words.put_operations.Goals as goal

pub loop-names-init : goal.loop-names-init
loop-names-init g c = rw c.len-left.ensures (refl, put_first _ _)

pub returns-then-left-eq0 : goal.returns-then-left-eq0
returns-then-left-eq0 g c =
    put_all _ _ _ _ c.loop-names.invariant.1 (no_turn c.args.names c.args.size _ (g.R.Reader.position c.loop-names.input) c.loop-names.invariant.0 c.loop-names.left c.loop-names.is_first c.if-left-eq0.true)

pub returns-in_default : goal.returns-in_default
returns-in_default g c =
    let is = unknown_next c.args.names c.args.size _ (g.R.Reader.position c.loop-names.input) c.loop-names.invariant.0 c.loop-names.left c.loop-names.is_first c.read_operation.result _
    (sym c.is_empty.ensures ∙ c.loop-names-test.true) c.if-left-eq0.false c.read_operation.ensures.0 (sym c.known.ensures ∙ c.in_default.is) in
    put_last _ _ _ _ _ _ is c.loop-names.invariant.1 c.put_unknown.ensures

pub loop-names-preserved : goal.loop-names-preserved
loop-names-preserved g c =
    let is = known_next c.args.names c.args.size _ (g.R.Reader.position c.loop-names.input) c.loop-names.invariant.0 c.loop-names.left c.loop-names.is_first c.read_operation.result _
    (sym c.is_empty.ensures ∙ c.loop-names-test.true) c.if-left-eq0.false c.read_operation.ensures.0 c.in-Some.operation (sym c.known.ensures ∙ c.in-Some.is) in
    (c.read_operation.ensures.1 ∙ c.loop-names.invariant.0, put_next _ _ _ _ _ _ _ is c.loop-names.invariant.1 c.put_operation.ensures)

pub returns : goal.returns
returns g c =
    put_all _ _ _ _ c.loop-names.invariant.1 (none_left c.args.names c.args.size _ (g.R.Reader.position c.loop-names.input) c.loop-names.invariant.0 c.loop-names.left c.loop-names.is_first (sym c.is_empty.ensures ∙ c.loop-names-test.false))
