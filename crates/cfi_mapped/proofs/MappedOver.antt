-- To what each byte belongs after a new mapping.
use Rattle.std.proofs.Common.{◌≡◌, ℕ, ◌+◌, ◌-◌, ◌%◌, ◌^◌, ◌<◌, ◌≤◌, ◌&&◌, ◌++◌, Bool, true, false, cond, List, [], ◌∷◌, nat_le, nat_lt, Option, Some, None, refl, sym, ap, ◌∙◌, subst, ⊎_elim, append_assoc, arith}
use Rattle.std.specs.List.{filter_map, cons_option}
use Rattle.std.proofs.lemmas.Bool.{and_from, and_left, and_right, le-leb, lt-leb, lt-ltb, le-ltb, cases_lt, cond-true, cond-false}
use Rattle.std.proofs.Math.Nat.{mod-add-mod}
use Rattle.cfi_mapped.specs.declared.mappings.MappedCode.{MappedCode}
use Rattle.cfi_mapped.specs.Mappings.{IsMappedOver, MappedPlace, has_byte_at, mapped_over, part_below, part_from, mapped_place, place_at_address}

-- a list that is made of two others and what stands between them
pub joined : {X : Type 0} {none first second third : List X} (xs : List X) (x : X) (ys : List X) → none ≡ [] → first ≡ none ++ xs → second ≡ first ++ x ∷ [] → third ≡ second ++ ys → third ≡ xs ++ x ∷ ys
joined xs x ys a b c d =
    d ∙ ap (λ l. l ++ ys) (c ∙ ap (λ l. l ++ x ∷ []) (b ∙ ap (λ l. l ++ xs) a)) ∙ append_assoc xs (x ∷ []) ys

-- ---- the parts of a mapping, case by case

module _ (limit : ℕ) (m : MappedCode) where
  abbrev cut_below : MappedCode
  cut_below = record m { end = limit }

  abbrev rest_below : Option MappedCode
  rest_below = cond (nat_le m.end limit) (Some m) (Some cut_below)

  abbrev pub cut_from : MappedCode
  cut_from = record m { start = limit; offset = (mapped_place m limit).offset }

  abbrev rest_from : Option MappedCode
  rest_from = cond (nat_le limit m.start) (Some m) (Some cut_from)

module _ (P : Option MappedCode → Type 0) (limit : ℕ) (m : MappedCode) where
  pub by_below : (limit ≤ m.start → P None) → (m.start < limit → m.end ≤ limit → P (Some m)) → (m.start < limit → limit < m.end → P (Some (record m { end = limit }))) → P (part_below limit m)
  by_below none whole cut = ⊎_elim
      (λ (begins : m.start < limit). subst P (sym (cond-false (nat_le limit m.start) None (rest_below limit m) (lt-leb limit m.start begins))) (⊎_elim
      (λ (more : limit < m.end). subst P (sym (cond-false (nat_le m.end limit) (Some m) (Some (cut_below limit m)) (lt-leb m.end limit more))) (cut begins more))
      (λ (ends : m.end ≤ limit). subst P (sym (cond-true (nat_le m.end limit) (Some m) (Some (cut_below limit m)) (le-leb m.end limit ends))) (whole begins ends))
      (cases_lt limit m.end)))
      (λ (later : limit ≤ m.start). subst P (sym (cond-true (nat_le limit m.start) None (rest_below limit m) (le-leb limit m.start later))) (none later))
      (cases_lt m.start limit)

  pub by_from : (m.end ≤ limit → P None) → (limit < m.end → limit ≤ m.start → P (Some m)) → (limit < m.end → m.start < limit → P (Some (cut_from limit m))) → P (part_from limit m)
  by_from none whole cut = ⊎_elim
      (λ (more : limit < m.end). subst P (sym (cond-false (nat_le m.end limit) None (rest_from limit m) (lt-leb m.end limit more))) (⊎_elim
      (λ (begins : m.start < limit). subst P (sym (cond-false (nat_le limit m.start) (Some m) (Some (cut_from limit m)) (lt-leb limit m.start begins))) (cut more begins))
      (λ (later : limit ≤ m.start). subst P (sym (cond-true (nat_le limit m.start) (Some m) (Some (cut_from limit m)) (le-leb limit m.start later))) (whole more later))
      (cases_lt m.start limit)))
      (λ (ends : m.end ≤ limit). subst P (sym (cond-true (nat_le m.end limit) None (rest_from limit m) (le-leb m.end limit ends))) (none ends))
      (cases_lt limit m.end)

-- ---- which has a byte

module _ (m : MappedCode) (a : ℕ) where
  has_not_below : a < m.start → has_byte_at m a ≡ false
  has_not_below below = and_left (nat_le m.start a) (nat_lt a m.end) (lt-leb m.start a below)

  has_not_above : m.end ≤ a → has_byte_at m a ≡ false
  has_not_above above = and_right (nat_le m.start a) (nat_lt a m.end) (le-ltb a m.end above)

  has_it : m.start ≤ a → a < m.end → has_byte_at m a ≡ true
  has_it from up_to = and_from (nat_le m.start a) (nat_lt a m.end) (le-leb m.start a from) (lt-ltb a m.end up_to)

  module _ (list : List MappedCode) where
    here : has_byte_at m a ≡ true → place_at_address (m ∷ list) a ≡ Some (mapped_place m a)
    here has = cond-true (has_byte_at m a) (Some (mapped_place m a)) (place_at_address list a) has

    there : has_byte_at m a ≡ false → place_at_address (m ∷ list) a ≡ place_at_address list a
    there has_not = cond-false (has_byte_at m a) (Some (mapped_place m a)) (place_at_address list a) has_not

-- one mapping in place of another that has the same place for the byte
replaced : (m n : MappedCode) (a : ℕ) (p q : Option MappedPlace) → has_byte_at n a ≡ has_byte_at m a → mapped_place n a ≡ mapped_place m a → p ≡ q →
    cond (has_byte_at n a) (Some (mapped_place n a)) p ≡ cond (has_byte_at m a) (Some (mapped_place m a)) q
replaced m n a p q has place rest =
    ap (λ (t : Bool). cond t (Some (mapped_place n a)) p) has
    ∙ ap (λ (x : MappedPlace). cond (has_byte_at m a) (Some x) p) place
    ∙ ap (λ (x : Option MappedPlace). cond (has_byte_at m a) (Some (mapped_place m a)) x) rest

-- ---- below a limit, and from it on

module _ (limit a : ℕ) where
  below_kept : a < limit → (rest : List MappedCode) → place_at_address rest a ≡ None → (list : List MappedCode) →
      place_at_address (filter_map (part_below limit) list ++ rest) a ≡ place_at_address list a
  below_kept less rest none [] = none
  below_kept less rest none (m ∷ list) =
      let kept = filter_map (part_below limit) list in
      let same = below_kept less rest none list in
      by_below (λ (part : Option MappedCode). place_at_address (cons_option part kept ++ rest) a ≡ place_at_address (m ∷ list) a) limit m
      (λ later. same ∙ sym (there m a list (has_not_below m a (omega arith))))
      (λ begins ends. replaced m m a (place_at_address (kept ++ rest) a) (place_at_address list a) refl refl same)
      (λ begins more. replaced m (record m { end = limit }) a (place_at_address (kept ++ rest) a) (place_at_address list a)
      (ap (λ (t : Bool). nat_le m.start a && t) (lt-ltb a limit less ∙ sym (lt-ltb a m.end (omega arith)))) refl same)

  below_gone : limit ≤ a → (rest list : List MappedCode) → place_at_address (filter_map (part_below limit) list ++ rest) a ≡ place_at_address rest a
  below_gone up rest [] = refl
  below_gone up rest (m ∷ list) =
      let kept = filter_map (part_below limit) list in
      let gone = below_gone up rest list in
      by_below (λ (part : Option MappedCode). place_at_address (cons_option part kept ++ rest) a ≡ place_at_address rest a) limit m
      (λ later. gone)
      (λ begins ends. there m a (kept ++ rest) (has_not_above m a (omega arith)) ∙ gone)
      (λ begins more. there (record m { end = limit }) a (kept ++ rest) (has_not_above (record m { end = limit }) a up) ∙ gone)

  from_kept : limit ≤ a → (list : List MappedCode) → place_at_address (filter_map (part_from limit) list) a ≡ place_at_address list a
  from_kept up [] = refl
  from_kept up (m ∷ list) =
      let kept = filter_map (part_from limit) list in
      let same = from_kept up list in
      by_from (λ (part : Option MappedCode). place_at_address (cons_option part kept) a ≡ place_at_address (m ∷ list) a) limit m
      (λ ends. same ∙ sym (there m a list (has_not_above m a (omega arith))))
      (λ more later. replaced m m a (place_at_address kept a) (place_at_address list a) refl refl same)
      (λ more begins. replaced m (cut_from limit m) a (place_at_address kept a) (place_at_address list a)
      (ap (λ (t : Bool). t && nat_lt a m.end) (le-leb limit a up ∙ sym (le-leb m.start a (omega arith))))
      (ap (λ (n : ℕ). record { object = m.object; offset = n }) (moved m begins))
      same)
    where
      moved : (m : MappedCode) → m.start < limit → ((m.offset + (limit - m.start)) % 2 ^ 64 + (a - limit)) % 2 ^ 64 ≡ (m.offset + (a - m.start)) % 2 ^ 64
      moved m begins =
          let sum : m.offset + (limit - m.start) + (a - limit) ≡ m.offset + (a - m.start) = omega arith in
          mod-add-mod (m.offset + (limit - m.start)) (2 ^ 64) (a - limit) ∙ ap (λ (n : ℕ). n % 2 ^ 64) sum

  from_gone : a < limit → (list : List MappedCode) → place_at_address (filter_map (part_from limit) list) a ≡ None
  from_gone less [] = refl
  from_gone less (m ∷ list) =
      let kept = filter_map (part_from limit) list in
      let gone = from_gone less list in
      by_from (λ (part : Option MappedCode). place_at_address (cons_option part kept) a ≡ None) limit m
      (λ ends. gone)
      (λ more later. there m a kept (has_not_below m a (omega arith)) ∙ gone)
      (λ more begins.
      there (cut_from limit m) a kept
      (has_not_below (cut_from limit m) a less) ∙ gone)

-- ---- a new mapping

module _ (new : MappedCode) (list : List MappedCode) where
  abbrev over : List MappedCode
  over = filter_map (part_below new.start) list ++ new ∷ filter_map (part_from new.end) list

  pub over_is : new.start < new.end → mapped_over new list ≡ over
  over_is bytes = cond-true (nat_lt new.start new.end) over list (lt-ltb new.start new.end bytes)

  pub none_over : new.end ≤ new.start → mapped_over new list ≡ list
  none_over no_bytes = cond-false (nat_lt new.start new.end) over list (le-ltb new.start new.end no_bytes)

  module _ (a : ℕ) where
    abbrev due : Option MappedPlace
    due = cond (has_byte_at new a) (Some (mapped_place new a)) (place_at_address list a)

    inside : has_byte_at new a ≡ true → new.start ≤ a → place_at_address over a ≡ due
    inside has up =
        let above = filter_map (part_from new.end) list in
        below_gone new.start a up (new ∷ above) list ∙ here new a above has ∙ sym (cond-true (has_byte_at new a) (Some (mapped_place new a)) (place_at_address list a) has)

    outside : has_byte_at new a ≡ false → place_at_address over a ≡ place_at_address list a → place_at_address over a ≡ due
    outside has_not same = same ∙ sym (cond-false (has_byte_at new a) (Some (mapped_place new a)) (place_at_address list a) has_not)

    over_place : new.start < new.end → place_at_address over a ≡ due
    over_place bytes =
        let above = filter_map (part_from new.end) list in
        ⊎_elim
        (λ (less : a < new.start).
        let has_not = has_not_below new a less in
        outside has_not (below_kept new.start a less (new ∷ above) (there new a above has_not ∙ from_gone new.end a (omega arith) list) list))
        (λ (up : new.start ≤ a). ⊎_elim
        (λ (within : a < new.end). inside (has_it new a up within) up)
        (λ (past : new.end ≤ a).
        let has_not = has_not_above new a past in
        outside has_not (below_gone new.start a up (new ∷ above) list ∙ there new a above has_not ∙ from_kept new.end a past list))
        (cases_lt a new.end))
        (cases_lt a new.start)

    no_place : new.end ≤ new.start → place_at_address list a ≡ due
    no_place no_bytes = sym (cond-false (has_byte_at new a) (Some (mapped_place new a)) (place_at_address list a)
        (⊎_elim
        (λ (less : a < new.start). has_not_below new a less)
        (λ (up : new.start ≤ a). has_not_above new a (omega arith))
        (cases_lt a new.start)))

  pub is_mapped_over : IsMappedOver new list (mapped_over new list)
  is_mapped_over a = ⊎_elim
      (λ (bytes : new.start < new.end). ap (λ (l : List MappedCode). place_at_address l a) (over_is bytes) ∙ over_place a bytes)
      (λ (no_bytes : new.end ≤ new.start). ap (λ (l : List MappedCode). place_at_address l a) (none_over no_bytes) ∙ no_place a no_bytes)
      (cases_lt new.start new.end)
