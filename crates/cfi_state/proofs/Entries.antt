-- Finite maps made of lists whose keys differ.
use Rattle.std.proofs.Common.{◌≡◌, ℕ, ◌+◌, ◌&&◌, Bool, true, false, cond, zero, suc, Option, Some, None, is_some, List, [], ◌∷◌, length, map, refl, sym, ap, ◌∙◌, add-one}
use Rattle.std.proofs.Math.ListN.{set}
use Rattle.std.specs.Ordering.{eq_by_cmp, is_eq}
use Rattle.std.specs.declared.cmp.Ordering.{Ordering}
use Rattle.std.specs.declared.cmp.Ordering.TheVariants.{Less, Equal, Greater}
use Rattle.std.specs.Cmp.{IsTotalOrder, eq_by_cmp_equiv, Equal-is}
use Rattle.std.specs.List.{IsDistinct, Contains, slice_get, list_all}
use Rattle.std.specs.FinMap.Entries.{by_order}
use Rattle.std.proofs.lemmas.List.{nil_from_length}
use Rattle.std.specs.List.Sorted.{IsPermutation}
use Rattle.std.specs.Map.{lookup}
use Rattle.std.specs.FinMap.{FinMap, IsAntisymmetric, find, put, keys, entries, get-entries, len-entries, entries-insert, from_entries, get, insert, remove, len, same_map, get_tied, get-from_entries, get-insert, get-remove, len-insert, len-empty}
use Rattle.std.proofs.lemmas.Map.{lookup-none}
use Rattle.std.proofs.lemmas.Map.Entries.{lookup_from_place, place_from_lookup, none_past_head}
use Rattle.std.proofs.lemmas.Map.Keys.{IsDistinct-IsPermutation, IsDistinct-tail}
use Rattle.std.proofs.lemmas.List.Sorted.{IsPermutation-sym, IsPermutation-map, Contains-permutation}
use Rattle.std.proofs.lemmas.Option.{slice_get_within, get_or_from_slice_get, slice_get-get_or}

-- two options that give the same values are equal
agree : {A : Type 0} (x y : Option A) → ((v : A) → x ≡ Some v → y ≡ Some v) → ((v : A) → y ≡ Some v → x ≡ Some v) → x ≡ y
agree None None there back = refl
agree None (Some v) there back = back v refl
agree (Some v) y there back = sym (there v refl)

-- a test that is repeated
shadowed : {A : Type 0} (b : Bool) (x y z : A) → cond b x z ≡ cond b x (cond b y z)
shadowed true x y z = refl
shadowed false x y z = refl

-- two tests that never both pass
swapped : {A : Type 0} (a b : Bool) (x y z : A) → (a ≡ true → b ≡ false) → cond a x (cond b y z) ≡ cond b y (cond a x z)
swapped true true x y z apart = let e = apart refl in cc
swapped true false x y z apart = refl
swapped false b x y z apart = refl

both_later : (a b c : Bool) → (a && (b && c)) ≡ (b && (a && c))
both_later true b c = refl
both_later false true c = refl
both_later false false c = refl

module _ {K X : Type 0} {R : K → K → Ordering} (o : IsTotalOrder R) (same : IsAntisymmetric R) where
  abbrev HasDistinctKeys : List (K × X) → Type 0
  HasDistinctKeys es = IsDistinct (eq_by_cmp R) (map (λ e. e.0) es)

  find-lookup : (q : K) (es : List (K × X)) → find R q es ≡ lookup (eq_by_cmp R q) es
  find-lookup q [] = refl
  find-lookup q (e ∷ es) = ap (cond (eq_by_cmp R q e.0) (Some e.1)) (find-lookup q es)

  pub find_at : (es : List (K × X)) (i : ℕ) (k : K) (v : X) → HasDistinctKeys es → slice_get es i ≡ Some (k, v) → find R k es ≡ Some v
  find_at es i k v distinct at = find-lookup k es ∙ lookup_from_place (eq_by_cmp_equiv o) es i k v distinct at

  index_of : (es : List (K × X)) (q : K) (v : X) → find R q es ≡ Some v → (i : ℕ) × (slice_get es i ≡ Some (q, v))
  index_of es q v found =
      let place = place_from_lookup (eq_by_cmp R q) es v (sym (find-lookup q es) ∙ found) in
      (place.0, place.2 ∙ ap (λ k. Some (k, v)) (sym (same q place.1 ((Equal-is _).0 place.3))))

  contains_found : (es : List (K × X)) (q : K) (v : X) → find R q es ≡ Some v → Contains es (q, v)
  contains_found es q v found =
      let place = index_of es q v found in
      (place.0, slice_get_within es place.0 (q, v) place.1, get_or_from_slice_get es place.0 (q, v) (q, v) place.1)

  found_in : (es : List (K × X)) (q : K) (v : X) → HasDistinctKeys es → Contains es (q, v) → find R q es ≡ Some v
  found_in es q v distinct in_es =
      find_at es in_es.0 q v distinct (slice_get-get_or es in_es.0 (q, v) in_es.1 ∙ ap Some in_es.2)

  distinct_permuted : (es fs : List (K × X)) → IsPermutation es fs → HasDistinctKeys es → HasDistinctKeys fs
  distinct_permuted es fs moved =
      IsDistinct-IsPermutation (eq_by_cmp R) ((eq_by_cmp_equiv o).symm) _ _ (IsPermutation-map (λ e. e.0) es fs moved)

  find-permuted : (es fs : List (K × X)) → IsPermutation es fs → HasDistinctKeys es → (q : K) → find R q es ≡ find R q fs
  find-permuted es fs moved distinct q =
      agree _ _
      (λ v found. found_in fs q v (distinct_permuted es fs moved distinct) (Contains-permutation es fs (q, v) moved (contains_found es q v found)))
      (λ v found. found_in es q v distinct (Contains-permutation fs es (q, v) (IsPermutation-sym es fs moved) (contains_found fs q v found)))

  -- no later key ties with the first
  pub find-past_head : (q : K) (e : K × X) (es : List (K × X)) → HasDistinctKeys (e ∷ es) → eq_by_cmp R q e.0 ≡ true → find R q es ≡ None
  find-past_head q e es distinct ties =
      find-lookup q es ∙ lookup-none _ es (none_past_head (eq_by_cmp_equiv o) q e es distinct ties)

  without_head : (q : K) (e : K × X) (es : List (K × X)) → HasDistinctKeys (e ∷ es) → find R q es ≡ cond (eq_by_cmp R q e.0) None (find R q (e ∷ es))
  without_head q e es distinct =
      elim (eq_by_cmp R q e.0) as (λ b. eq_by_cmp R q e.0 ≡ b → find R q es ≡ cond b None (cond b (Some e.1) (find R q es))) [
        | true ↦ λ ties. find-past_head q e es distinct ties
        | false ↦ λ _. refl
      ] refl

  -- ---- what an edit of the list does to the map
  pub from_entries-without : (es rest : List (K × X)) (x : K × X) → HasDistinctKeys es → IsPermutation es (x ∷ rest)
      → from_entries {R = R} rest ≡ remove (from_entries es) x.0
  from_entries-without es rest x distinct moved =
      same_map o same _ _ (λ q.
      get-from_entries o rest q
      ∙ without_head q x rest (distinct_permuted es (x ∷ rest) moved distinct)
      ∙ ap (cond (eq_by_cmp R q x.0) None) (sym (find-permuted es (x ∷ rest) moved distinct q) ∙ sym (get-from_entries o es q))
      ∙ sym (get-remove o (from_entries es) x.0 q))

  -- the order of a list does not count
  pub from_entries-permuted : (es fs : List (K × X)) → IsPermutation es fs → HasDistinctKeys es → from_entries {R = R} es ≡ from_entries fs
  from_entries-permuted es fs moved distinct =
      same_map o same _ _ (λ q. get-from_entries o es q ∙ find-permuted es fs moved distinct q ∙ sym (get-from_entries o fs q))

  -- nothing is removed where there is no value
  pub remove-absent : (m : FinMap R X) (k : K) → get m k ≡ None → remove m k ≡ m
  remove-absent m k none =
      same_map o same _ _ (λ q. get-remove o m k q ∙ elim (eq_by_cmp R q k) as (λ b. eq_by_cmp R q k ≡ b → cond b None (get m q) ≡ get m q) [
        | true ↦ λ ties. sym none ∙ get_tied o m q k ((Equal-is _).0 ties)
        | false ↦ λ _. refl
      ] refl)

  -- an earlier key does not tie with a later one
  apart_from_head : (e : K × X) (es : List (K × X)) (i : ℕ) (k : K) (v : X) → HasDistinctKeys (e ∷ es) → slice_get es i ≡ Some (k, v) → eq_by_cmp R k e.0 ≡ false
  apart_from_head e es i k v distinct at =
      let found = find_at es i k v (IsDistinct-tail (eq_by_cmp R) e.0 _ distinct) at in
      elim (eq_by_cmp R k e.0) as (λ b. eq_by_cmp R k e.0 ≡ b → b ≡ false) [
        | true ↦ λ ties. let none = find-past_head k e es distinct ties in cc
        | false ↦ λ _. refl
      ] refl

  find-set : (es : List (K × X)) (i : ℕ) (k : K) (u v : X) (q : K) → HasDistinctKeys es → slice_get es i ≡ Some (k, u)
      → find R q (set es i (k, v)) ≡ cond (eq_by_cmp R q k) (Some v) (find R q es)
  find-set [] i k u v q distinct at = cc
  find-set (e ∷ es) zero k u v q distinct at =
      let first : e ≡ (k, u) = cc in
      shadowed (eq_by_cmp R q k) (Some v) (Some e.1) (find R q es)
      ∙ ap (λ key. cond (eq_by_cmp R q k) (Some v) (cond (eq_by_cmp R q key) (Some e.1) (find R q es))) (sym (ap (λ p. p.0) first))
  find-set (e ∷ es) (suc i) k u v q distinct at =
      ap (cond (eq_by_cmp R q e.0) (Some e.1)) (find-set es i k u v q (IsDistinct-tail (eq_by_cmp R) e.0 _ distinct) at)
      ∙ swapped (eq_by_cmp R q e.0) (eq_by_cmp R q k) (Some e.1) (Some v) (find R q es)
      (λ ties. (eq_by_cmp_equiv o).congr q e.0 k ties ∙ (eq_by_cmp_equiv o).symm e.0 k ∙ apart_from_head e es i k u distinct at)

  pub from_entries-set : (es : List (K × X)) (i : ℕ) (k : K) (u v : X) → HasDistinctKeys es → slice_get es i ≡ Some (k, u)
      → from_entries {R = R} (set es i (k, v)) ≡ insert (from_entries es) k v
  from_entries-set es i k u v distinct at =
      same_map o same _ _ (λ q.
      get-from_entries o (set es i (k, v)) q
      ∙ find-set es i k u v q distinct at
      ∙ ap (cond (eq_by_cmp R q k) (Some v)) (sym (get-from_entries o es q))
      ∙ sym (get-insert o (from_entries es) k v q))

  pub len-from_entries : (es : List (K × X)) → HasDistinctKeys es → len (from_entries {R = R} es) ≡ length es
  len-from_entries [] distinct = len-empty R X
  len-from_entries (e ∷ es) distinct =
      len-insert o (from_entries es) e.0 e.1
      ∙ ap (λ found. cond (is_some found) (len (from_entries {R = R} es)) (len (from_entries {R = R} es) + 1)) (get-from_entries o es e.0 ∙ find-past_head e.0 e es distinct ((eq_by_cmp_equiv o).refl e.0))
      ∙ ap (λ n. n + 1) (len-from_entries es (IsDistinct-tail (eq_by_cmp R) e.0 _ distinct))
      ∙ add-one (length es)

  -- ---- a test of the keys

  all-put : (t : K → Bool) (k : K) (v : X) (es : List (K × X)) → find R k es ≡ None
      → list_all t (map (λ e. e.0) (put R k v es)) ≡ (t k && list_all t (map (λ e. e.0) es))
  all-put t k v [] none = refl
  all-put t k v (e ∷ es) none =
      elim (R k e.0) as (λ r. cond (is_eq r) (Some e.1) (find R k es) ≡ None
      → list_all t (map (λ e. e.0) (by_order r ((k, v) ∷ e ∷ es) ((e.0, v) ∷ es) (e ∷ put R k v es))) ≡ (t k && (t e.0 && list_all t (map (λ e. e.0) es)))) [
        | Less ↦ λ none. refl
        | Equal ↦ λ none. cc
        | Greater ↦ λ none. ap (λ b. t e.0 && b) (all-put t k v es none) ∙ both_later (t e.0) (t k) (list_all t (map (λ e. e.0) es))
      ] none

  pub all-from_entries : (t : K → Bool) (es : List (K × X)) → HasDistinctKeys es → list_all t (keys (from_entries {R = R} es)) ≡ list_all t (map (λ e. e.0) es)
  all-from_entries t [] distinct =
      ap (λ xs. list_all t (map (λ (x : K × X). x.0) xs)) (nil_from_length (entries (from_entries {R = R} [])) (sym (len-entries (from_entries {R = R} [])) ∙ len-empty R X))
  all-from_entries t (e ∷ es) distinct =
      let none = sym (get-entries (from_entries {R = R} es) e.0) ∙ get-from_entries o es e.0 ∙ find-past_head e.0 e es distinct ((eq_by_cmp_equiv o).refl e.0) in
      ap (λ xs. list_all t (map (λ (x : K × X). x.0) xs)) (entries-insert o (from_entries es) e.0 e.1)
      ∙ all-put t e.0 e.1 (entries (from_entries {R = R} es)) none
      ∙ ap (λ b. t e.0 && b) (all-from_entries t es (IsDistinct-tail (eq_by_cmp R) e.0 _ distinct))
