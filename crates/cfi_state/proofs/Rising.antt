-- Lists of pairs whose registers strictly rise.
use Rattle.std.proofs.Common.{◌≡◌, ℕ, ◌+◌, ◌-◌, ◌<◌, ◌≤◌, false, eqb, zero, suc, List, [], ◌∷◌, length, map, get_or, Some, refl, sym, ap, ◌∙◌, subst, arith, inl, inr}
use Rattle.std.proofs.Math.ListN.{set}
use Rattle.std.proofs.lemmas.Bool.{cases_lt, cases_order}
use Rattle.std.proofs.lemmas.List.{length-map, get_or-map, get_or_default}
use Rattle.std.proofs.lemmas.List.Edits.{length-insert, length-remove, get_or-insert_below, get_or-insert_at, get_or-insert_above, get_or-remove_below, get_or-remove_above}
use Rattle.std.proofs.lemmas.Map.Keys.{IsDistinct-from_sorted, below_from_sorted, sorted_from_strictly_increasing}
use Rattle.std.proofs.lemmas.Bool.Decides.{nat_tests}
use Rattle.std.proofs.Math.Seq.{map-set_same}
use Rattle.std.proofs.lemmas.Option.{get_or_from_slice_get}
use Rattle.std.specs.List.{insert, remove, slice_get}
use Rattle.std.specs.List.Sorted.{IsStrictlySortedBy}
use Rattle.std.specs.Ordering.{nat_cmp}
use Rattle.cfi_read_core.specs.declared.common.Register.{Register}
use Rattle.cfi_state.specs.declared.table.rules.RegisterRule.{RegisterRule}
use Rattle.cfi_state.specs.RulePairs.{numbered_pair, IsDistinctRegisters, IsRising, BelongsAt}

-- ---- numbers that rise

sorted-insert : (ks : List ℕ) (i k : ℕ) → IsStrictlySortedBy nat_cmp ks → i ≤ length ks
    → ((j : ℕ) → j < i → get_or ks j 0 < k) → ((j : ℕ) → i ≤ j → j < length ks → k < get_or ks j 0) → IsStrictlySortedBy nat_cmp (insert ks i k)
sorted-insert ks i k up within below above =
    sorted_from_strictly_increasing (insert ks i k) (λ j next.
    let count = length-insert ks i k within in
    elim (cases_order j i) [
      | inl here ↦
          let last : get_or (insert ks i k) j 0 ≡ k = ap (λ n. get_or (insert ks i k) n 0) here ∙ get_or-insert_at ks i k 0 within in
          let later = get_or-insert_above ks i k 0 j (omega (arith, here)) within in
          let over = above j (omega (arith, here)) (omega arith) in
          omega (arith, last, later, over)
      | inr (inl before) ↦ elim (cases_order (j + 1) i) [
        | inl here ↦
            let first = get_or-insert_below ks i k 0 j before within in
            let at : get_or (insert ks i k) (j + 1) 0 ≡ k = ap (λ n. get_or (insert ks i k) n 0) here ∙ get_or-insert_at ks i k 0 within in
            let under = below j before in
            omega (arith, first, at, under)
        | inr (inl earlier) ↦
            let first = get_or-insert_below ks i k 0 j before within in
            let second = get_or-insert_below ks i k 0 (j + 1) earlier within in
            let rise = below_from_sorted ks j (j + 1) 0 up (omega arith) (omega arith) in
            omega (arith, first, second, rise)
        | inr (inr after) ↦ absurd (omega arith)
      ]
      | inr (inr after) ↦
          let one : (j - 1) + 1 ≡ j = omega arith in
          let first : get_or (insert ks i k) j 0 ≡ get_or ks (j - 1) 0 =
          ap (λ n. get_or (insert ks i k) n 0) (sym one) ∙ get_or-insert_above ks i k 0 (j - 1) (omega arith) within in
          let second = get_or-insert_above ks i k 0 j (omega arith) within in
          let rise = below_from_sorted ks (j - 1) j 0 up (omega arith) (omega arith) in
          omega (arith, first, second, rise)
    ])

sorted-remove : (ks : List ℕ) (i : ℕ) → IsStrictlySortedBy nat_cmp ks → i < length ks → IsStrictlySortedBy nat_cmp (remove ks i)
sorted-remove ks i up within =
    sorted_from_strictly_increasing (remove ks i) (λ j next.
    let count = length-remove ks i within in
    elim (cases_lt (j + 1) i) [
      | inl before ↦
          let first = get_or-remove_below ks i 0 j (omega arith) within in
          let second = get_or-remove_below ks i 0 (j + 1) before within in
          let rise = below_from_sorted ks j (j + 1) 0 up (omega arith) (omega arith) in
          omega (arith, first, second, rise)
      | inr from ↦
          let second = get_or-remove_above ks i 0 (j + 1) from within in
          elim (cases_lt j i) [
            | inl before ↦
                let first = get_or-remove_below ks i 0 j before within in
                let rise = below_from_sorted ks j (j + 1 + 1) 0 up (omega arith) (omega arith) in
                omega (arith, first, second, rise)
            | inr after ↦
                let first = get_or-remove_above ks i 0 j after within in
                let rise = below_from_sorted ks (j + 1) (j + 1 + 1) 0 up (omega arith) (omega arith) in
                omega (arith, first, second, rise)
          ]
    ])

-- ---- pairs whose registers rise

module _ {T : Type 0} where
  twice : (pairs : List (Register × RegisterRule T)) → map (λ entry. entry.0) (map numbered_pair pairs) ≡ map (λ (pair : Register × RegisterRule T). pair.0.0) pairs
  twice [] = refl
  twice (pair ∷ pairs) = ap (λ ks. pair.0.0 ∷ ks) (twice pairs)

  keys-insert : (pairs : List (Register × RegisterRule T)) (place : ℕ) (pair : Register × RegisterRule T)
      → map (λ entry. entry.0) (map numbered_pair (insert pairs place pair)) ≡ insert (map (λ entry. entry.0) (map numbered_pair pairs)) place pair.0.0
  keys-insert pairs zero pair = refl
  keys-insert [] (suc place) pair = refl
  keys-insert (first ∷ pairs) (suc place) pair = ap (λ ks. first.0.0 ∷ ks) (keys-insert pairs place pair)

  keys-remove : (pairs : List (Register × RegisterRule T)) (place : ℕ)
      → map (λ entry. entry.0) (map numbered_pair (remove pairs place)) ≡ remove (map (λ entry. entry.0) (map numbered_pair pairs)) place
  keys-remove [] zero = refl
  keys-remove [] (suc place) = refl
  keys-remove (first ∷ pairs) zero = refl
  keys-remove (first ∷ pairs) (suc place) = ap (λ ks. first.0.0 ∷ ks) (keys-remove pairs place)

module _ {T : Type 0} (pairs : List (Register × RegisterRule T)) where
  abbrev keys : List ℕ
  keys = map (λ entry. entry.0) (map numbered_pair pairs)

  length-keys : length keys ≡ length pairs
  length-keys = length-map (map numbered_pair pairs) (λ (e : ℕ × RegisterRule T). e.0) ∙ length-map pairs numbered_pair

  register_at : (i : ℕ) (d : Register × RegisterRule T) → i < length pairs → get_or keys i 0 ≡ (get_or pairs i d).0.0
  register_at i d within =
      get_or-map (λ (e : ℕ × RegisterRule T). e.0) (map numbered_pair pairs) i (numbered_pair d) 0 (omega (arith, within, length-map pairs numbered_pair))
      ∙ ap (λ (e : ℕ × RegisterRule T). e.0) (get_or-map numbered_pair pairs i d (numbered_pair d) within)

  pub distinct-from_rising : IsRising pairs → IsDistinctRegisters pairs
  distinct-from_rising rising = IsDistinct-from_sorted nat_cmp (map (λ entry. entry.0) (map numbered_pair pairs)) rising

  pub rises : IsRising pairs → (i j : ℕ) (d : Register × RegisterRule T) → i < j → j < length pairs → (get_or pairs i d).0.0 < (get_or pairs j d).0.0
  rises rising i j d before within =
      let low = register_at i d (omega arith) in
      let high = register_at j d within in
      let up : get_or keys i 0 < get_or keys j 0 = below_from_sorted keys i j 0 rising before (omega (arith, length-keys, within)) in
      omega (arith, low, high, up)

  module _ (rising : IsRising pairs) (middle : ℕ) (register : Register) (within : middle < length pairs) (p : Register × RegisterRule T) where
    -- where the register at the middle is lower, so are those before it
    pub lower-up_to : (get_or pairs middle p).0.0 < register.0 → (i : ℕ) (d : Register × RegisterRule T) → i < middle + 1 → (get_or pairs i d).0.0 < register.0
    lower-up_to lower i d up_to =
        let at = ap (λ (q : Register × RegisterRule T). q.0.0) (get_or_default pairs middle p d within) in
        elim (cases_order i middle) [
          | inl here ↦ let same = ap (λ n. (get_or pairs n d).0.0) here in omega (arith, at, same, lower)
          | inr (inl before) ↦ let up = rises rising i middle d before within in omega (arith, at, up, lower)
          | inr (inr after) ↦ absurd (omega arith)
        ]

    -- and where it is neither lower nor the same, those after it are higher
    pub higher-from : register.0 ≤ (get_or pairs middle p).0.0 → eqb (get_or pairs middle p).0.0 register.0 ≡ false → (i : ℕ) (d : Register × RegisterRule T) → middle ≤ i → i < length pairs → register.0 < (get_or pairs i d).0.0
    higher-from no_lower other i d from in_list =
        let higher : register.0 < (get_or pairs middle p).0.0 = grind (arith, nat_tests) in
        let at = ap (λ (q : Register × RegisterRule T). q.0.0) (get_or_default pairs middle p d within) in
        elim (cases_order middle i) [
          | inl here ↦ let same = ap (λ n. (get_or pairs n d).0.0) here in omega (arith, at, same, higher)
          | inr (inl before) ↦ let up = rises rising middle i d before in_list in omega (arith, at, up, higher)
          | inr (inr after) ↦ absurd (omega arith)
        ]

  -- ---- what an edit of the list does

  module _ (rising : IsRising pairs) where
    pub rising-written : (place : ℕ) (register : Register) (old rule : RegisterRule T) → slice_get pairs place ≡ Some (register, old) → IsRising (set pairs place (register, rule))
    rising-written place register old rule at =
        let same : map (λ (pair : Register × RegisterRule T). pair.0.0) (set pairs place (register, rule)) ≡ map (λ (pair : Register × RegisterRule T). pair.0.0) pairs =
        map-set_same (λ (pair : Register × RegisterRule T). pair.0.0) pairs place (register, rule) (register, rule)
        (ap (λ (pair : Register × RegisterRule T). pair.0.0) (sym (get_or_from_slice_get pairs place (register, old) (register, rule) at))) in
        subst (IsStrictlySortedBy nat_cmp) (sym (twice (set pairs place (register, rule)) ∙ same ∙ sym (twice pairs))) rising

    pub rising-inserted : (place : ℕ) (register : Register) (rule : RegisterRule T) → BelongsAt pairs place register → IsRising (insert pairs place (register, rule))
    rising-inserted place register rule belongs =
        let pair : Register × RegisterRule T = (register, rule) in
        let count = length-keys in
        subst (IsStrictlySortedBy nat_cmp) (sym (keys-insert pairs place pair))
        (sorted-insert keys place register.0 rising (omega (arith, belongs.0, count))
        (λ j before. let at = register_at j pair (omega (arith, belongs.0)) in let lower = belongs.1 j pair before in omega (arith, at, lower))
        (λ j after within. let at = register_at j pair (omega arith) in let higher = belongs.2 j pair after (omega arith) in omega (arith, at, higher)))

    pub rising-removed : (place : ℕ) → place < length pairs → IsRising (remove pairs place)
    rising-removed place within =
        subst (IsStrictlySortedBy nat_cmp) (sym (keys-remove pairs place)) (sorted-remove keys place rising (omega (arith, length-keys)))
