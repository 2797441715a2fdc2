-- Lists to which one more thing is added at a time, where there is one.
use Rattle.std.proofs.Common.{◌≡◌, ◌<◌, ◌≤◌, ◌+◌, ◌-◌, ◌++◌, ℕ, suc, List, [], ◌∷◌, Option, Some, None, refl, ap, arith, append_assoc}
use Rattle.std.specs.List.{cons_option, filter_map, range_with_len}
use Rattle.cfi_elf.specs.Options.{with_more}

module _ {X Y : Type 0} (f : X → Option Y) where
  one_more : (items : List Y) (o : Option Y) (others : List Y) → with_more items o ++ others ≡ items ++ cons_option o others
  one_more items None others = refl
  one_more items (Some y) others = append_assoc items (y ∷ []) others

  pub gathered : (items : List Y) (x : X) (rest : List X) → with_more items (f x) ++ filter_map f rest ≡ items ++ filter_map f (x ∷ rest)
  gathered items x rest = one_more items (f x) (filter_map f rest)

-- the numbers from i up to n
pub range_step : (i n : ℕ) → i < n → range_with_len i (n - i) ≡ i ∷ range_with_len (i + 1) (n - (i + 1))
range_step i n less =
    let left : n - i ≡ suc (n - (i + 1)) = omega (arith, less) in
    ap (range_with_len i) left

pub range_done : (i n : ℕ) → n ≤ i → range_with_len i (n - i) ≡ []
range_done i n up =
    let none : n - i ≡ 0 = omega (arith, up) in
    ap (range_with_len i) none
