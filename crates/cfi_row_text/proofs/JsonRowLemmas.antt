-- The members of a row in JSON, one after the other: its rules, and the bytes of their expressions.
use Rattle.std.proofs.Common.{◌≡◌, ◌∙◌, ℕ, ◌+◌, ◌-◌, ◌<◌, Bool, true, false, List, [], ◌∷◌, ◌++◌, Option, Some, None, refl, sym, ap, append_assoc, codes}
use Rattle.cfi_read_core.specs.declared.instruction.UnwindExpression.{UnwindExpression}
use Rattle.cfi_state.specs.declared.table.rules.RegisterRule.{RegisterRule}
use Rattle.cfi_row_text.specs.JsonRows.{bytes_member_at, bytes_member, bytes_of_rule, json_rule, bytes_opening, rules_end}
use Rattle.cfi_text.specs.JsonTexts.{separated}
use Rattle.cfi_row_text.specs.RowLines.{expression_at, ruled_by, rules_by}
use Rattle.cfi_row_text.specs.Wordings.{Wording}
use Rattle.cfi_row_text.proofs.RowLineLemmas.{rules_more, rules_with}

separated_more : (is_first : Bool) (wording : Wording) (register : ℕ) (rule : RegisterRule ℕ) (more : List ℕ) →
    separated is_first (json_rule wording register rule ++ more) ≡ separated is_first (json_rule wording register rule) ++ separated false more
separated_more true wording register rule more = refl
separated_more false wording register rule more = refl

pub separated_none : (is_first : Bool) → separated is_first [] ≡ []
separated_none true = refl
separated_none false = refl

pub member_first : (is_first : Bool) (wording : Wording) (n r : ℕ) (rule_of : ℕ → Option (RegisterRule ℕ)) (rule : RegisterRule ℕ) → r < n → Some rule ≡ rule_of r →
    separated is_first (rules_by (json_rule wording) (n - r) r rule_of) ≡ separated is_first (json_rule wording r rule) ++ separated false (rules_by (json_rule wording) (n - (r + 1)) (r + 1) rule_of)
member_first is_first wording n r rule_of rule h e =
    ap (separated is_first) (rules_with (json_rule wording) n r rule_of rule h e) ∙ separated_more is_first wording r rule (rules_by (json_rule wording) (n - (r + 1)) (r + 1) rule_of)

-- ---- the bytes of expressions

module _ (wording : Wording) where
  bytes_ruled : (register : ℕ) (rule : Option (RegisterRule ℕ)) → ruled_by (bytes_of_rule wording) register rule ≡ bytes_member_at wording register (expression_at rule)
  bytes_ruled register None = refl
  bytes_ruled register (Some rule) = refl

  bytes_more : (n r : ℕ) (rule_of : ℕ → Option (RegisterRule ℕ)) (e : Option (UnwindExpression ℕ)) → r < n → e ≡ expression_at (rule_of r) →
      rules_by (bytes_of_rule wording) (n - r) r rule_of ≡ bytes_member_at wording r e ++ rules_by (bytes_of_rule wording) (n - (r + 1)) (r + 1) rule_of
  bytes_more n r rule_of e h is =
      rules_more (bytes_of_rule wording) n r rule_of h
      ∙ ap (λ xs. xs ++ rules_by (bytes_of_rule wording) (n - (r + 1)) (r + 1) rule_of) (bytes_ruled r (rule_of r) ∙ ap (bytes_member_at wording r) (sym is))

  opened : (is_first : Bool) (member more : List ℕ) → rules_end is_first ((44 ∷ member) ++ more) ≡ (bytes_opening is_first ++ member) ++ rules_end false more
  opened true member more =
      let front = codes "},\"rules_bytes\":{" in
      ap (λ xs. front ++ xs) (append_assoc member more (codes "}")) ∙ sym (append_assoc front member (more ++ codes "}"))
  opened false member more = append_assoc (44 ∷ member) more (codes "}")

  pub bytes_first : (is_first : Bool) (n r : ℕ) (rule_of : ℕ → Option (RegisterRule ℕ)) (e : UnwindExpression ℕ) → r < n → Some e ≡ expression_at (rule_of r) →
      rules_end is_first (rules_by (bytes_of_rule wording) (n - r) r rule_of) ≡ (bytes_opening is_first ++ bytes_member wording r e) ++ rules_end false (rules_by (bytes_of_rule wording) (n - (r + 1)) (r + 1) rule_of)
  bytes_first is_first n r rule_of e h is =
      ap (rules_end is_first) (bytes_more n r rule_of (Some e) h is) ∙ opened is_first (bytes_member wording r e) (rules_by (bytes_of_rule wording) (n - (r + 1)) (r + 1) rule_of)

  pub bytes_without : (n r : ℕ) (rule_of : ℕ → Option (RegisterRule ℕ)) → r < n → None ≡ expression_at (rule_of r) →
      rules_by (bytes_of_rule wording) (n - r) r rule_of ≡ rules_by (bytes_of_rule wording) (n - (r + 1)) (r + 1) rule_of
  bytes_without n r rule_of h is = bytes_more n r rule_of None h is

pub ended_none : (is_first : Bool) → rules_end is_first [] ≡ codes "}"
ended_none true = refl
ended_none false = refl
