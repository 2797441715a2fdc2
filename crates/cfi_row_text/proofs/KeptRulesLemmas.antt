-- The rules that are kept, and their text.
use Rattle.std.proofs.Common.{◌≡◌, ℕ, ◌<◌, List, [], ◌∷◌, ◌++◌, sym, ◌∙◌, ap, append_assoc, append-nil}
use Rattle.std.specs.FinMap.{get}
use Rattle.cfi_read_core.specs.declared.common.Register.{Register}
use Rattle.cfi_state.specs.RulePairs.{rules_of, IsRising}
use Rattle.cfi_state.specs.declared.table.rules.RegisterRule.{RegisterRule}
use Rattle.cfi_text.specs.declared.register_names.RegisterNames.{RegisterNames}
use Rattle.cfi_row_text.specs.RowLines.{ruled, rules_by}
use Rattle.cfi_row_text.proofs.RowLineLemmas.{get_of_none, rules_none}

abbrev Pairs : Type 0
Pairs = List (Register × RegisterRule ℕ)

abbrev pub text_of : RegisterNames → Pairs → List ℕ
text_of names pairs = rules_by (ruled names) 65536 0 (get (rules_of pairs))

pub none_kept : (names : RegisterNames) → [] ≡ text_of names []
none_kept names = sym (rules_none (ruled names) 65536 0 _ (λ k h. get_of_none k))

pub kept_none : (names : RegisterNames) (pairs : Pairs) (text : List ℕ) → pairs ≡ [] → text ≡ [] → text ≡ text_of names pairs
kept_none names pairs text none empty = empty ∙ none_kept names ∙ ap (text_of names) (sym none)

pub kept_then : (kept more left : Pairs) (pair : Register × RegisterRule ℕ) (rest all : Pairs) → left ≡ pair ∷ rest → more ≡ kept ++ pair ∷ [] → kept ++ left ≡ all → more ++ rest ≡ all
kept_then kept more left pair rest all first e is =
    ap (λ (xs : Pairs). xs ++ rest) e ∙ append_assoc kept (pair ∷ []) rest ∙ ap (λ (xs : Pairs). kept ++ xs) (sym first) ∙ is
