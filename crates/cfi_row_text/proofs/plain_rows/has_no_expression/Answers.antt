use Rattle.std.proofs.Common.{◌∙◌, ap, sym}
use Rattle.std.specs.FinMap as map
use Rattle.cfi_row_text.specs.RowLines.{expression_at, is_plain_cfa}
use Rattle.cfi_row_text.proofs.RowWordsLemmas.{plain_rules}
use Rattle.cfi_row_text.proofs.plain_rows.has_no_expression.Goals as goal

pub returns : goal.returns
returns g c = λ h. record {
  cfa = ap is_plain_cfa (sym c.cfa.ensures) ∙ sym c.is_plain_cfa.ensures ∙ c.if-not-is_plain_cfa.false;
  rules = λ r. ap (λ rules. expression_at (map.get rules r)) (sym c.registers.ensures.rules) ∙ plain_rules _ (c.have_no_expression.ensures h) r;
}
