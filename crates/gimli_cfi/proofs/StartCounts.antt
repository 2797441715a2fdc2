-- How many starts are read for the FDEs that have passed.
use Rattle.std.proofs.Common.{◌≡◌, ◌≤◌, ◌+◌, ◌-◌, ◌*◌, ℕ, suc, subst, arith}
use Rattle.std.proofs.Math.Nat.{suc-mul, mul-le-mul_right}

pub none_yet : (a n : ℕ) → a ≤ a + n
none_yet a n = omega arith

module _ (a b c count left w : ℕ) where
  pub one_more : 1 ≤ left → left ≤ count → b ≤ a + (count - left) * w → c ≤ b + w → c ≤ a + (count - (left - 1)) * w
  one_more some within before here =
      let next : suc (count - left) ≡ count - (left - 1) = omega (arith, some, within) in
      let more : suc (count - left) * w ≡ (count - left) * w + w = suc-mul (count - left) w in
      let so : c ≤ a + suc (count - left) * w = omega (arith, before, here, more) in
      subst (λ (n : ℕ). c ≤ a + n * w) next so

  pub at_most : b ≤ a + (count - left) * w → b ≤ a + (count + 1) * w
  at_most before =
      let fewer : (count - left) * w ≤ (count + 1) * w = mul-le-mul_right w (omega arith) in omega (arith, before, fewer)

  pub with_last : b ≤ a + (count - left) * w → c ≤ b + w → c ≤ a + (count + 1) * w
  with_last before here =
      let more : suc (count - left) * w ≡ (count - left) * w + w = suc-mul (count - left) w in
      let fewer : suc (count - left) * w ≤ (count + 1) * w = mul-le-mul_right w (omega arith) in
      omega (arith, before, here, more, fewer)

-- for one FDE: a search, the row that it finds, and the next one
module _ (a n b : ℕ) (searched : b ≤ a + n) where
  pub by_search : b ≤ a + (n + 2)
  by_search = omega (arith, searched)

  pub by_start : (c : ℕ) → c ≡ b + 1 → c ≤ a + (n + 2)
  by_start c first = omega (arith, searched, first)

  pub by_next : (c d : ℕ) → c ≡ b + 1 → d ≡ c + 1 → d ≤ a + (n + 2)
  by_next c d first second = omega (arith, searched, first, second)

-- for the table: each row in order, then the FDEs
module _ (a n w b : ℕ) (rows : b ≤ a + n) where
  pub by_rows : b ≤ a + (n + w)
  by_rows = omega (arith, rows)

  pub by_fdes : (c : ℕ) → c ≤ b + w → c ≤ a + (n + w)
  by_fdes c fdes = omega (arith, rows, fdes)
