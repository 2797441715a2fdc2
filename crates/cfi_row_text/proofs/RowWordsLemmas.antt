-- Rows without expressions are the same in words.
use Rattle.std.proofs.Common.{◌≡◌, ◌∙◌, ◌+◌, ℕ, zero, suc, true, List, [], ◌∷◌, ◌++◌, Option, Some, None, Result, Ok, Err, IsOkAnd, refl, sym, ap, subst, append_assoc, codes, arith, inl, inr}
use Rattle.std.proofs.lemmas.Bool.{cases_lt}
use Rattle.std.specs.Borrow.{Bor}
use Rattle.std.specs.FinMap.{get}
use Rattle.std.specs.Fmt.{decimal}
use Rattle.cfi_read_core.specs.declared.common.Register.{Register}
use Rattle.cfi_read_core.specs.declared.error.Error.{Error}
use Rattle.cfi_read_core.specs.declared.instruction.UnwindExpression.{UnwindExpression}
use Rattle.cfi_read_core.specs.ReadFunctions.{Position}
use Rattle.cfi_read_core.specs.ReaderCalls.{map_ok}
use Rattle.cfi_state.specs.declared.table.rules.CfaRule.{CfaRule}
use Rattle.cfi_state.specs.declared.table.rules.CfaRule.TheVariants as cfas
use Rattle.cfi_state.specs.declared.table.rules.RegisterRule.{RegisterRule}
use Rattle.cfi_state.specs.declared.table.rules.RegisterRule.TheVariants as rules
use Rattle.cfi_state.specs.Row.{Row}
use Rattle.cfi_state.specs.RulePairs.{rules_of}
use Rattle.cfi_text.specs.RegisterNames.{register_text}
use Rattle.cfi_text.specs.declared.register_names.RegisterNames.{RegisterNames}
use Rattle.cfi_row_text.specs.AnswerLines.{answer_line, plain_line}
use Rattle.cfi_row_text.specs.ExpressionWords.{in_words}
use Rattle.cfi_row_text.specs.KeptRules.{HaveNoExpression}
use Rattle.cfi_text.specs.Lines.{address_text, line}
use Rattle.cfi_row_text.specs.RowLines.{HasNoExpression, cfa_saying, expression_at, expression_in, expression_text, frame_saying, head_saying, is_plain_cfa, row_saying, rule_saying, ruled_by, ruled_saying, rules_by, rules_saying}
use Rattle.cfi_row_text.specs.Wordings.{text_style, worded}
use Rattle.cfi_text.specs.Texts.{Puts}
use Rattle.cfi_text.specs.declared.text.Text.{Text}
use Rattle.cfi_text.proofs.TextLemmas.{same}
use Rattle.cfi_row_text.proofs.RowLineLemmas.{get_behind, get_apart, get_first, get_of_none}

-- ---- rows without expressions

module _ (say : UnwindExpression ℕ → List ℕ) (names : RegisterNames) where
  same_cfa : (cfa : CfaRule ℕ) → is_plain_cfa cfa ≡ true → cfa_saying expression_text names cfa ≡ cfa_saying say names cfa
  same_cfa (cfas.RegisterAndOffset register n) plain = refl
  same_cfa (cfas.Expression e) plain = absurd (cc)

  same_rule : (rule : RegisterRule ℕ) → expression_in rule ≡ None → rule_saying expression_text names rule ≡ rule_saying say names rule
  same_rule rules.Undefined plain = refl
  same_rule rules.SameValue plain = refl
  same_rule (rules.Offset n) plain = refl
  same_rule (rules.ValOffset n) plain = refl
  same_rule (rules.Register register) plain = refl
  same_rule (rules.Expression e) plain = absurd (cc)
  same_rule (rules.ValExpression e) plain = absurd (cc)
  same_rule rules.Architectural plain = refl
  same_rule (rules.Constant n) plain = refl

  same_ruled : (register : ℕ) (rule : Option (RegisterRule ℕ)) → expression_at rule ≡ None → ruled_by (ruled_saying expression_text names) register rule ≡ ruled_by (ruled_saying say names) register rule
  same_ruled register None plain = refl
  same_ruled register (Some rule) plain = ap (λ xs. codes " " ++ register_text names register ++ codes "=" ++ xs) (same_rule rule plain)

  same_rules : (n register : ℕ) (rule_of : ℕ → Option (RegisterRule ℕ)) → ((r : ℕ) → expression_at (rule_of r) ≡ None)
      → rules_by (ruled_saying expression_text names) n register rule_of ≡ rules_by (ruled_saying say names) n register rule_of
  unfolding rules_by
  same_rules zero register rule_of plain = refl
  same_rules (suc n) register rule_of plain =
      ap (λ xs. xs ++ rules_by (ruled_saying expression_text names) n (register + 1) rule_of) (same_ruled register (rule_of register) (plain register))
      ∙ ap (λ xs. ruled_by (ruled_saying say names) register (rule_of register) ++ xs) (same_rules n (register + 1) rule_of plain)

  same_row : (row : Row ℕ) → HasNoExpression row → row_saying expression_text names row ≡ row_saying say names row
  same_row row plain =
      let args = decimal row.parts.args_size in
      let before = address_text row.start_address ++ codes " " ++ address_text row.end_address in
      ap (λ xs. (before ++ (codes " cfa=" ++ (xs ++ (codes " args=" ++ args)))) ++ rules_saying expression_text names row.parts) (same_cfa row.parts.cfa plain.cfa)
      ∙ ap (λ xs. head_saying say names row ++ xs) (same_rules 65536 0 (get row.parts.rules) plain.rules)

-- a line whose row has none is the same in words
pub put_in_words : (names : RegisterNames) (size : ℕ) (section : Position) (old new : Text) (answer : Result (Bor (Row ℕ)) Error) → IsOkAnd answer (λ row. HasNoExpression row.now)
    → Puts (plain_line names (map_ok (λ row. row.now) answer)).text old new → Puts (answer_line (worded (text_style names) size section) (map_ok (λ row. row.now) answer)).text old new
put_in_words names size section old new (Ok row) plain put = same _ _ _ _ (ap (λ xs. (line xs 0).text) (same_row (in_words names size section) names row.now plain)) put
put_in_words names size section old new (Err e) plain put = absurd plain

-- ---- a list of rules without expressions

pub plain_rules : (pairs : List (Register × RegisterRule ℕ)) → HaveNoExpression pairs → (register : ℕ) → expression_at (get (rules_of pairs) register) ≡ None
plain_rules [] plain register = ap expression_at (get_of_none register)
plain_rules (pair ∷ pairs) plain register =
    let others = plain_rules pairs plain.1 register in
    elim (cases_lt pair.0.0 register) [
      | inl above ↦ ap expression_at (get_behind pair pairs register above) ∙ others
      | inr low ↦ elim (cases_lt register pair.0.0) [
        | inl below ↦ ap expression_at (get_apart pair pairs register (λ e. omega (arith, e))) ∙ others
        | inr high ↦
            let same : pair.0.0 ≡ register = omega arith in
            subst (λ r. expression_at (get (rules_of (pair ∷ pairs)) r) ≡ None) same (ap expression_at (get_first pair pairs) ∙ plain.0)
      ]
    ]
