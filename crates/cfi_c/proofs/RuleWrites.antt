-- The rules of a row, written one register after the other.
use Rattle.std.proofs.Common.{◌≡◌, ◌⊎◌, inl, inr, ℕ, ◌+◌, ◌<◌, ◌≤◌, Bool, true, false, List, ◌∷◌, [], length, map, slice_set, Option, Some, None, refl, sym, ap, subst, ◌∙◌, arith}
use Rattle.std.proofs.lemmas.Bool.Decides.{nat_tests}
use Rattle.std.proofs.lemmas.Bool.{cases_eq}
use Rattle.std.proofs.lemmas.Map.Keys.{IsDistinct-tail}
use Rattle.std.proofs.lemmas.List.{get_or-set_same, get_or-set_other, length-set}
use Rattle.std.specs.Prelude.{nat_le, if◌then◌else◌}
use Rattle.std.specs.Cmp.{nat_cmp_total, unsigned_ties}
use Rattle.std.specs.FinMap.{get, get-from_entries, nat_cmp-IsAntisymmetric}
use Rattle.std.specs.Ordering.{nat_cmp, eq_by_cmp}
use borrow.Author.Tests.{le-leb}
use Rattle.cfi_read_core.specs.declared.common.Register.{Register}
use Rattle.cfi_state.specs.Row.{Row}
use Rattle.cfi_state.specs.RulePairs.{IsDistinctRegisters, numbered_pair, rules_of}
use Rattle.cfi_state.specs.declared.table.rules.RegisterRule.{RegisterRule}
use Rattle.cfi_state.proofs.Entries.{find-past_head}
use Rattle.cfi_c.specs.declared.written.CfiRule.{CfiRule}
use Rattle.cfi_c.specs.WrittenRows.{IsRules, SameAround, rule_at, rule_in, rule_for_c}

-- ---- the first pair and the others

module _ (pair : Register × RegisterRule ℕ) (pairs : List (Register × RegisterRule ℕ)) where
  get_first : get (rules_of (pair ∷ pairs)) pair.0.0 ≡ Some pair.1
  get_first =
      let same : eq_by_cmp nat_cmp pair.0.0 pair.0.0 ≡ true = sym (unsigned_ties pair.0.0 pair.0.0) ∙ grind (arith, nat_tests) in
      get-from_entries nat_cmp_total (map numbered_pair (pair ∷ pairs)) pair.0.0 ∙ rw same refl

  get_other : (k : ℕ) → (k ≡ pair.0.0 → ⊥) → get (rules_of (pair ∷ pairs)) k ≡ get (rules_of pairs) k
  get_other k other =
      let apart : eq_by_cmp nat_cmp k pair.0.0 ≡ false = sym (unsigned_ties k pair.0.0) ∙ grind (arith, nat_tests) in
      get-from_entries nat_cmp_total (map numbered_pair (pair ∷ pairs)) k ∙ rw apart refl ∙ sym (get-from_entries nat_cmp_total (map numbered_pair pairs) k)

  get_once : IsDistinctRegisters (pair ∷ pairs) → get (rules_of pairs) pair.0.0 ≡ None
  get_once distinct =
      let same : eq_by_cmp nat_cmp pair.0.0 pair.0.0 ≡ true = sym (unsigned_ties pair.0.0 pair.0.0) ∙ grind (arith, nat_tests) in
      get-from_entries nat_cmp_total (map numbered_pair pairs) pair.0.0
      ∙ find-past_head nat_cmp_total nat_cmp-IsAntisymmetric pair.0.0 (numbered_pair pair) (map numbered_pair pairs) distinct same

-- ---- the loop

-- Each register below the count has the row's rule, but for those whose pair is left.
pub record AreWritten (row : Row ℕ) (left : List (Register × RegisterRule ℕ)) (old rules : List CfiRule) (first count : ℕ) : Type 0 where
  pub many : length rules ≡ length old
  pub distinct : IsDistinctRegisters left
  pub written : (k : ℕ) → k < count → get (rules_of left) k ≡ None → rule_in rules (first + k) ≡ rule_for_c (rule_at row k)
  pub given : (k : ℕ) (rule : RegisterRule ℕ) → get (rules_of left) k ≡ Some rule → get row.parts.rules k ≡ Some rule
  pub around : SameAround first count old rules

-- no register above 65535 has a rule
rule_given : (row : Row ℕ) (k : ℕ) (rule : RegisterRule ℕ) → k ≤ 0xffff → get row.parts.rules k ≡ Some rule → rule_at row k ≡ Some rule
rule_given row k rule small is = rw (le-leb k 0xffff small) is

either_none : {A : Type 0} (b : Bool) → ◌≡◌ {A = Option A} (if b then None else None) None
either_none true = refl
either_none false = refl

none_given : (row : Row ℕ) (k : ℕ) → get row.parts.rules k ≡ None → rule_at row k ≡ None
none_given row k is = rw is (either_none (nat_le k 0xffff))

-- none is written yet
pub none_written : (row : Row ℕ) (left : List (Register × RegisterRule ℕ)) (old rules : List CfiRule) (first count : ℕ) → rules_of left ≡ row.parts.rules → IsDistinctRegisters left →
    length rules ≡ length old → ((k : ℕ) → k < count → rule_in rules (first + k) ≡ rule_for_c None) → SameAround first count old rules → AreWritten row left old rules first count
none_written row left old rules first count same distinct many none around = record {
  many = many;
  distinct = distinct;
  written = λ k inside absent. none k inside ∙ sym (ap rule_for_c (none_given row k (ap (λ m. get m k) (sym same) ∙ absent)));
  given = λ k rule is. ap (λ m. get m k) (sym same) ∙ is;
  around = around;
}

-- all are
pub all_written : (row : Row ℕ) (old rules : List CfiRule) (first count : ℕ) → AreWritten row [] old rules first count → IsRules row rules first count
all_written row old rules first count all = λ k inside. all.written k inside (get-from_entries nat_cmp_total [] k)

module _ (row : Row ℕ) (pair : Register × RegisterRule ℕ) (left : List (Register × RegisterRule ℕ)) (old rules : List CfiRule) (first count : ℕ) (before : AreWritten row (pair ∷ left) old rules first count) where
  given_by : (k : ℕ) (rule : RegisterRule ℕ) → (k ≡ pair.0.0) ⊎ (k ≡ pair.0.0 → ⊥) → get (rules_of left) k ≡ Some rule → get row.parts.rules k ≡ Some rule
  given_by k rule (inl is) among =
      let none : get (rules_of left) k ≡ None = ap (λ (n : ℕ). get (rules_of left) n) is ∙ get_once pair left before.distinct in
      absurd (cc)
  given_by k rule (inr other) among = before.given k rule (get_other pair left k other ∙ among)

  own_given : get row.parts.rules pair.0.0 ≡ Some pair.1
  own_given = before.given pair.0.0 pair.1 (get_first pair left)

  -- a register from the count on is left out
  pub one_passed : count ≤ pair.0.0 → AreWritten row left old rules first count
  one_passed beyond = record {
    many = before.many;
    distinct = IsDistinct-tail (eq_by_cmp nat_cmp) pair.0.0 _ before.distinct;
    written = λ k inside none. before.written k inside (get_other pair left k (λ is. omega (arith, is, inside, beyond)) ∙ none);
    given = λ k rule among. given_by k rule (cases_eq k pair.0.0) among;
    around = before.around;
  }

  module _ (small : pair.0.0 ≤ 0xffff) (below : pair.0.0 < count) (fits : first + count ≤ length old) where
    abbrev new : List CfiRule
    new = slice_set rules (first + pair.0.0) (rule_for_c (Some pair.1))

    written_by : (k : ℕ) → (k ≡ pair.0.0) ⊎ (k ≡ pair.0.0 → ⊥) → k < count → get (rules_of left) k ≡ None → rule_in new (first + k) ≡ rule_for_c (rule_at row k)
    written_by k (inl is) inside none =
        subst (λ (n : ℕ). rule_in new (first + n) ≡ rule_for_c (rule_at row n)) (sym is)
        (get_or-set_same rules (first + pair.0.0) _ _ (omega (arith, before.many, fits, below)) ∙ sym (ap rule_for_c (rule_given row pair.0.0 pair.1 small own_given)))
    written_by k (inr other) inside none =
        get_or-set_other rules (first + pair.0.0) (first + k) _ _ (λ e. other (omega (arith, e)))
        ∙ before.written k inside (get_other pair left k other ∙ none)

    pub one_written : AreWritten row left old new first count
    one_written = record {
      many = length-set rules (first + pair.0.0) _ ∙ before.many;
      distinct = IsDistinct-tail (eq_by_cmp nat_cmp) pair.0.0 _ before.distinct;
      written = λ k inside none. written_by k (cases_eq k pair.0.0) inside none;
      given = λ k rule among. given_by k rule (cases_eq k pair.0.0) among;
      around = λ k h. get_or-set_other rules (first + pair.0.0) k _ _ (λ is. elim h [
        | inl before_first ↦ omega (arith, is, before_first)
        | inr behind ↦ omega (arith, is, behind, below)
      ]) ∙ before.around k h;
    }
