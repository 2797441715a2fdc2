-- Going through the starts of the rows in order.
use Rattle.std.proofs.Common.{◌≡◌, ◌≤◌, ◌<◌, ◌+◌, ◌-◌, ℕ, Result, Ok, subst, arith, ⊎_elim}
use Rattle.std.proofs.lemmas.Bool.{cases_lt}
use Rattle.cfi_read_core.specs.declared.error.Error.{Error}
use Rattle.gimli_cfi.specs.BoundaryRows.{AreRising}
use Rattle.gimli_cfi.proofs.Rising.{ok_same}

pub one_rises : (start : ℕ → Result ℕ Error) (s : ℕ) → start 0 ≡ Ok s → AreRising start 1
one_rises start s is = record {
  given = λ k within. let first : 0 ≡ k = omega arith in (s, subst (λ (i : ℕ). start i ≡ Ok s) first is);
  rise = λ j k x y before within is_x is_y. absurd (omega arith);
}

pub next_rises : (start : ℕ → Result ℕ Error) (row least s : ℕ) → 1 ≤ row → AreRising start row → ((j : ℕ) → j + 1 ≡ row → start j ≡ Ok least) → start row ≡ Ok s → least < s → AreRising start (row + 1)
next_rises start row least s some rising last is above = record {
  given = λ k within.
      ⊎_elim
      (λ (old : k < row). rising.given k old)
      (λ (upto : row ≤ k). let here : row ≡ k = omega arith in (s, subst (λ (i : ℕ). start i ≡ Ok s) here is))
      (cases_lt k row);
  rise = λ j k x y before within is_x is_y.
      ⊎_elim
      (λ (old : k < row). rising.rise j k x y before old is_x is_y)
      (λ (upto : row ≤ k).
      let here : k ≡ row = omega arith in
      let top : y ≡ s = ok_same y s (start row) (subst (λ (i : ℕ). start i ≡ Ok y) here is_y) is in
      ⊎_elim
      (λ (further : j + 1 < row).
      below_last j x further is_x top)
      (λ (next : row ≤ j + 1).
      let same : x ≡ least = ok_same x least (start j) is_x (last j (omega arith)) in omega arith)
      (cases_lt (j + 1) row))
      (cases_lt k row);
}
  where
    below_last : (j x : ℕ) {y : ℕ} → j + 1 < row → start j ≡ Ok x → y ≡ s → x < y
    below_last j x further is_x top =
        let back : row - 1 + 1 ≡ row = omega arith in
        let low : x < least = rising.rise j (row - 1) x least (omega arith) (omega arith) is_x (last (row - 1) back) in
        omega (arith, top, low, above)
