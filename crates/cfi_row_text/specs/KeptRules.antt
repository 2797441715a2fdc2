-- The rules of a row and their text, kept for the next row.
use Rattle.std.specs.Prelude.{◌≡◌, ℕ, List, [], ◌∷◌, None, ⊤}
use Rattle.std.specs.FinMap as map
use Rattle.cfi_read_core.specs.declared.common.Register.{Register}
use Rattle.cfi_state.specs.RulePairs.{rules_of}
use Rattle.cfi_state.specs.declared.table.rules.RegisterRule.{RegisterRule}
use Rattle.cfi_text.specs.declared.register_names.RegisterNames.{RegisterNames}
use Rattle.cfi_row_text.specs.RowLines.{expression_in, ruled, rules_by}
use Rattle.cfi_row_text.specs.declared.kept_rules.KeptRules.{KeptRules}

abbrev pub kept_rules : KeptRules → List (Register × RegisterRule ℕ)
kept_rules kept = kept.rules.items

abbrev pub kept_text : KeptRules → List ℕ
kept_text kept = kept.text.items

-- the text is that of the rules
abbrev pub AreKept : RegisterNames → KeptRules → Type 0
AreKept names kept =
    kept_text kept ≡ rules_by (ruled names) 65536 0 (map.get (rules_of (kept_rules kept)))

-- no rule is an expression
abbrev pub HaveNoExpression : List (Register × RegisterRule ℕ) → Type 0
HaveNoExpression [] = ⊤
HaveNoExpression (pair ∷ pairs) = (expression_in pair.1 ≡ None) × HaveNoExpression pairs
