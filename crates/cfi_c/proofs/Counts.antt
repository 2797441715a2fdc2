-- The rows of many addresses, one after the other.
use Rattle.std.proofs.Common.{◌≡◌, ◌⊎◌, inl, inr, ℕ, ◌+◌, ◌*◌, ◌<◌, ◌≤◌, Bool, true, false, List, length, slice_set, Option, Result, Ok, Err, sym, ap, subst, ◌∙◌, arith}
use Rattle.std.proofs.Math.Nat.{eq-or-lt_of_le, suc-mul, mul-le-mul_right}
use Rattle.std.proofs.lemmas.List.{get_or-set_same, get_or-set_other}
use Rattle.std.specs.Prelude.{slice_index_or}
use Rattle.cfi_read_core.specs.declared.error.Error.{Error}
use Rattle.cfi_state.specs.Row.{Row}
use Rattle.cfi_c.specs.declared.section.CfiBases.{CfiBases}
use Rattle.cfi_c.specs.declared.written.CfiRow.{CfiRow}
use Rattle.cfi_c.specs.declared.written.CfiRule.{CfiRule}
use Rattle.cfi_c.specs.ManyAddresses.{AreAnswered, no_row, row_at_index}
use Rattle.cfi_c.specs.AddressRows.{IsAnswerForC, IsAnsweredForC}
use Rattle.cfi_c.specs.WrittenRows.{SameAround, rule_in}

pub one_more : (i per : ℕ) → (i + 1) * per ≡ i * per + per
one_more i per = ap (λ n. n * per) (omega arith) ∙ suc-mul i per

-- the rules of an earlier row end before those of a later one
pub ends_before : (j i per : ℕ) → j < i → j * per + per ≤ i * per
ends_before j i per h = subst (λ n. n ≤ i * per) (one_more j per) (mul-le-mul_right per (omega arith))

-- ---- an answer stays where its rules do

module _ (first count : ℕ) (rules new : List CfiRule) (same : (k : ℕ) → k < count → rule_in new (first + k) ≡ rule_in rules (first + k)) where
  answered_still : (answer : Result (Row ℕ) Error) (out : CfiRow) → IsAnsweredForC answer out rules first count → IsAnsweredForC answer out new first count
  answered_still (Ok row) out is = (is.0, is.1, λ k h. same k h ∙ is.2 k h)
  answered_still (Err e) out is = is

  still : (live : Bool) (bases : CfiBases) (bytes : List ℕ) (header : Option (List ℕ)) (a : ℕ) (out : CfiRow)
      → IsAnswerForC live bases bytes header a out rules first count → IsAnswerForC live bases bytes header a out new first count
  still true bases bytes header a out is = (is.0, is.1, answered_still is.0 out is.2)
  still false bases bytes header a out is = is

-- ---- one address more

module _ (live : Bool) (bases : CfiBases) (bytes : List ℕ) (header : Option (List ℕ)) (addresses : List ℕ) (per i : ℕ) (rows₀ rows : List CfiRow) (rules₀ rules new : List CfiRule) (out : CfiRow) where
  pub answered_one_more : AreAnswered live bases bytes header addresses per i rows₀ rows rules₀ rules → i < length rows
      → IsAnswerForC live bases bytes header (slice_index_or addresses i 0) out new (i * per) per → SameAround (i * per) per rules new
      → AreAnswered live bases bytes header addresses per (i + 1) rows₀ (slice_set rows i out) rules₀ new
  answered_one_more before fits now around = record {
    each = λ j h. at j (eq-or-lt_of_le (omega (arith, h)));
    rows_kept = λ j h. get_or-set_other rows i j out no_row (omega arith) ∙ before.rows_kept j (omega arith);
    rules_kept = λ k h. around k (inr (subst (λ n. n ≤ k) (one_more i per) h)) ∙ before.rules_kept k (omega (arith, subst (λ n. n ≤ k) (one_more i per) h));
  }
    where
      at : (j : ℕ) → (j ≡ i) ⊎ (j < i) → IsAnswerForC live bases bytes header (slice_index_or addresses j 0) (row_at_index (slice_set rows i out) j) new (j * per) per
      at j (inl e) =
          subst (λ n. IsAnswerForC live bases bytes header (slice_index_or addresses n 0) (row_at_index (slice_set rows i out) n) new (n * per) per) (sym e)
          (subst (λ r. IsAnswerForC live bases bytes header (slice_index_or addresses i 0) r new (i * per) per) (sym (get_or-set_same rows i out no_row fits)) now)
      at j (inr h) =
          let other : row_at_index (slice_set rows i out) j ≡ row_at_index rows j = get_or-set_other rows i j out no_row (omega arith) in
          subst (λ r. IsAnswerForC live bases bytes header (slice_index_or addresses j 0) r new (j * per) per) (sym other)
          (still (j * per) per rules new (λ k k<. around (j * per + k) (inl (omega (arith, ends_before j i per h)))) live bases bytes header (slice_index_or addresses j 0) (row_at_index rows j) (before.each j h))
