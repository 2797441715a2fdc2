-- Functions that are gathered symbol by symbol, sorted by address, and found by halving.
use Rattle.std.proofs.Common.{take, drop, ◌+◌, ◌-◌, ◌≡◌, ℕ, zero, suc, ◌<◌, ◌≤◌, ◌&&◌, ◌++◌, Bool, true, false, not, List, [], ◌∷◌, length, get_or, map, Option, Some, None, option_and_then, option_map, nat_lt, nat_eq, Less, Equal, Greater, refl, sym, ap, ◌∙◌, ⊎_elim, arith, append_assoc, eq-eqb, ne_eqb, cond}
use Rattle.std.specs.Prelude.{find}
use Rattle.std.specs.List.{cons_option, filter, filter_map, slice_range}
use Rattle.std.specs.List.Sorted.{IsStableByKey, ties}
use Rattle.std.specs.Ordering.{is_lt, nat_cmp}
use Rattle.std.proofs.lemmas.Bool.{cond-true, cond-false, cases_lt, lt-ltb, le-ltb}
use Rattle.std.proofs.lemmas.List.{map_push}
use Rattle.cfi_elf.specs.declared.functions.Function.{Function as FunctionOfCode}
use Rattle.cfi_elf.specs.Functions.{Function, function_view}
use Rattle.cfi_elf.specs.BestNames.{best}
use Rattle.cfi_elf.specs.FunctionNames.{best_at, best_name, first_at, nearest, place_among, place_at}
use Rattle.cfi_elf.specs.FunctionPlaces.{place_in_function}

-- ---- gathered

-- what the first symbols give, and what the others do
module _ {S X Y : Type 0} (view : X → Y) (f : S → Option Y) (items : List X) (s : S) (rest : List S) (all : List Y) (so : map view items ++ filter_map f (s ∷ rest) ≡ all) where
  pub one_gathered : (x : X) (more : List X) → more ≡ items ++ x ∷ [] → Some (view x) ≡ f s → map view more ++ filter_map f rest ≡ all
  one_gathered x more pushed gives =
      ap (λ (xs : List X). map view xs ++ filter_map f rest) pushed
      ∙ (ap (λ (ys : List Y). ys ++ filter_map f rest) (map_push view items x)
      ∙ (append_assoc (map view items) (view x ∷ []) (filter_map f rest)
      ∙ (ap (λ (o : Option Y). map view items ++ cons_option o (filter_map f rest)) gives ∙ so)))

  pub none_gathered : (more : List X) → more ≡ items → None ≡ f s → map view more ++ filter_map f rest ≡ all
  none_gathered more same gives =
      ap (λ (xs : List X). map view xs ++ filter_map f rest) same
      ∙ (ap (λ (o : Option Y). map view items ++ cons_option o (filter_map f rest)) gives ∙ so)

-- ---- the first that passes a test

module _ {X : Type 0} where
  abbrev first_of : List X → Option X
  first_of [] = None
  first_of (x ∷ xs) = Some x

  module _ (p : X → Bool) where
    find_first : (xs : List X) → find p xs ≡ first_of (filter p xs)
    find_first [] = refl
    find_first (x ∷ xs) = by (p x) (find_first xs)
      where
        by : (b : Bool) → find p xs ≡ first_of (filter p xs) → cond b (Some x) (find p xs) ≡ first_of (cond b (x ∷ filter p xs) (filter p xs))
        by true h = refl
        by false h = h

    pub find_here : (xs : List X) (k : ℕ) (d : X) → k < length xs → ((j : ℕ) → j < k → p (get_or xs j d) ≡ false) → p (get_or xs k d) ≡ true → find p xs ≡ Some (get_or xs k d)
    find_here [] k d inside fails passes = absurd (omega arith)
    find_here (x ∷ xs) zero d inside fails passes = cond-true (p x) (Some x) (find p xs) passes
    find_here (x ∷ xs) (suc k) d inside fails passes =
        cond-false (p x) (Some x) (find p xs) (fails 0 (omega arith)) ∙ find_here xs k d (omega arith) (λ j less. fails (suc j) (omega arith)) passes

    pub find_nowhere : (xs : List X) → ((j : ℕ) (d : X) → j < length xs → p (get_or xs j d) ≡ false) → find p xs ≡ None
    find_nowhere [] fails = refl
    find_nowhere (x ∷ xs) fails = cond-false (p x) (Some x) (find p xs) (fails 0 x (omega arith)) ∙ find_nowhere xs (λ j d inside. fails (suc j) d (omega arith))

    none_pass : (xs : List X) → ((j : ℕ) (d : X) → j < length xs → p (get_or xs j d) ≡ false) → filter p xs ≡ []
    none_pass [] fails = refl
    none_pass (x ∷ xs) fails = cond-false (p x) (x ∷ filter p xs) (filter p xs) (fails 0 x (omega arith)) ∙ none_pass xs (λ j d inside. fails (suc j) d (omega arith))

    -- where the n from i on pass and the others fail
    pub filter_range : (xs : List X) (i n : ℕ) → i + n ≤ length xs → ((k : ℕ) (d : X) → k < i → p (get_or xs k d) ≡ false)
        → ((k : ℕ) (d : X) → i ≤ k → k < i + n → p (get_or xs k d) ≡ true) → ((k : ℕ) (d : X) → i + n ≤ k → k < length xs → p (get_or xs k d) ≡ false) → filter p xs ≡ take n (drop i xs)
    filter_range [] zero zero within before passes behind = refl
    filter_range [] zero (suc n) within before passes behind = absurd (omega (arith, within))
    filter_range [] (suc i) n within before passes behind = absurd (omega (arith, within))
    filter_range (x ∷ xs) zero zero within before passes behind = none_pass (x ∷ xs) (λ k d inside. behind k d (omega arith) inside)
    filter_range (x ∷ xs) zero (suc n) within before passes behind =
        cond-true (p x) (x ∷ filter p xs) (filter p xs) (passes 0 x (omega arith) (omega arith))
        ∙ ap (λ (ys : List X). x ∷ ys) (filter_range xs 0 n (omega (arith, within)) (λ k d less. absurd (omega (arith, less)))
        (λ k d up less. passes (suc k) d (omega arith) (omega (arith, less))) (λ k d up inside. behind (suc k) d (omega (arith, up)) (omega (arith, inside))))
    filter_range (x ∷ xs) (suc i) n within before passes behind =
        cond-false (p x) (x ∷ filter p xs) (filter p xs) (before 0 x (omega arith))
        ∙ filter_range xs i n (omega (arith, within)) (λ k d less. before (suc k) d (omega (arith, less)))
        (λ k d up less. passes (suc k) d (omega (arith, up)) (omega (arith, less))) (λ k d up inside. behind (suc k) d (omega (arith, up)) (omega (arith, inside)))

-- ---- of functions

abbrev pub begins_at : ℕ → FunctionOfCode → Bool
begins_at a f = nat_eq f.address a

-- the first, by the functions of the code
pub first_at_is : (a : ℕ) (fs : List FunctionOfCode) → first_at (map function_view fs) a ≡ option_map function_view (find (begins_at a) fs)
first_at_is a [] = refl
first_at_is a (f ∷ fs) = by (nat_eq f.address a) (first_at_is a fs)
  where
    by : (b : Bool) → first_at (map function_view fs) a ≡ option_map function_view (find (begins_at a) fs) →
        cond b (Some (function_view f)) (first_at (map function_view fs) a) ≡ option_map function_view (cond b (Some f) (find (begins_at a) fs))
    by true h = refl
    by false h = h

-- all of them
begin_at_is : (a : ℕ) (fs : List FunctionOfCode) → filter (λ (f : Function). nat_eq f.address a) (map function_view fs) ≡ map function_view (filter (begins_at a) fs)
begin_at_is a [] = refl
begin_at_is a (f ∷ fs) = by (nat_eq f.address a) (begin_at_is a fs)
  where
    by : (b : Bool) → filter (λ (f : Function). nat_eq f.address a) (map function_view fs) ≡ map function_view (filter (begins_at a) fs) →
        cond b (function_view f ∷ filter (λ (f : Function). nat_eq f.address a) (map function_view fs)) (filter (λ (f : Function). nat_eq f.address a) (map function_view fs))
        ≡ map function_view (cond b (f ∷ filter (begins_at a) fs) (filter (begins_at a) fs))
    by true h = ap (λ (gs : List Function). function_view f ∷ gs) h
    by false h = h

-- ---- sorted

less_by : (b e : Bool) → is_lt (cond b Less (cond e Equal Greater)) ≡ b
less_by true e = refl
less_by false true = refl
less_by false false = refl

less_is : (a n : ℕ) → is_lt (nat_cmp a n) ≡ nat_lt a n
less_is a n = less_by (nat_lt a n) (nat_eq a n)

-- neither is less: they are the same
no_less : (a n : ℕ) → (not (nat_lt a n) && not (nat_lt n a)) ≡ nat_eq n a
no_less a n = ⊎_elim
    (λ (less : a < n). ap (λ (b : Bool). not b && not (nat_lt n a)) (lt-ltb a n less) ∙ sym (ne_eqb n a (λ same. omega (arith, less, same))))
    (λ (up : n ≤ a). ⊎_elim
    (λ (less : n < a). ap (λ (b : Bool). not b && not (nat_lt n a)) (le-ltb a n up) ∙ (ap not (lt-ltb n a less) ∙ sym (ne_eqb n a (λ same. omega (arith, less, same)))))
    (λ (down : a ≤ n). ap (λ (b : Bool). not b && not (nat_lt n a)) (le-ltb a n up) ∙ (ap not (le-ltb n a down) ∙ sym (eq-eqb n a (omega (arith, up, down)))))
    (cases_lt n a))
    (cases_lt a n)

module _ (a : ℕ) (old new : List FunctionOfCode) (stable : IsStableByKey (λ (f : FunctionOfCode). f.address) nat_cmp old new) where
  -- those that tie with one at the address are those that begin there
  at_address : (d : FunctionOfCode) → filter (begins_at a) new ≡ filter (begins_at a) old
  at_address d =
      let x : FunctionOfCode = record { name = d.name; address = a; size = d.size; binding = d.binding } in
      let test : ties (λ (f g : FunctionOfCode). is_lt (nat_cmp f.address g.address)) x ≡ begins_at a =
      λ i g. ((ap (λ (b : Bool). not b && not (is_lt (nat_cmp g.address a))) (less_is a g.address)
      ∙ ap (λ (b : Bool). not (nat_lt a g.address) && not b) (less_is g.address a)) ∙ no_less a g.address) i in
      ap (λ (t : FunctionOfCode → Bool). filter t new) (sym test) ∙ (stable x ∙ ap (λ (t : FunctionOfCode → Bool). filter t old) test)

-- a stable sort leaves the functions at each address in their order
begin_as_before : (a : ℕ) (old new : List FunctionOfCode) → IsStableByKey (λ (f : FunctionOfCode). f.address) nat_cmp old new → filter (begins_at a) new ≡ filter (begins_at a) old
begin_as_before a [] [] stable = refl
begin_as_before a [] (d ∷ new) stable = at_address a [] (d ∷ new) stable d
begin_as_before a (d ∷ old) new stable = at_address a (d ∷ old) new stable d

module _ (a : ℕ) (old new : List FunctionOfCode) (all : List Function) (is : map function_view old ≡ all) (stable : IsStableByKey (λ (f : FunctionOfCode). f.address) nat_cmp old new) where
  first_as_before : first_at (map function_view new) a ≡ first_at all a
  first_as_before =
      let found : find (begins_at a) new ≡ find (begins_at a) old =
      find_first (begins_at a) new ∙ (ap first_of (begin_as_before a old new stable) ∙ sym (find_first (begins_at a) old)) in
      first_at_is a new ∙ (ap (option_map function_view) found ∙ (sym (first_at_is a old) ∙ ap (λ (fs : List Function). first_at fs a) is))

  best_as_before : best_at (map function_view new) a ≡ best_at all a
  best_as_before =
      ap best (begin_at_is a new ∙ (ap (map function_view) (begin_as_before a old new stable) ∙ sym (begin_at_is a old)))
      ∙ ap (λ (fs : List Function). best_at fs a) is

  pub named_as_before : best_name (map function_view new) a ≡ best_name all a
  named_as_before = ap (option_map (λ (f : Function). f.name)) best_as_before

-- so the nearest one is the same too
pub placed_as_before : (a : ℕ) (old new : List FunctionOfCode) (all : List Function) → map function_view old ≡ all → IsStableByKey (λ (f : FunctionOfCode). f.address) nat_cmp old new → place_among (map function_view new) a ≡ place_among all a
placed_as_before a old new all is stable =
    let same : first_at (map function_view new) ≡ first_at all = λ i t. first_as_before t old new all is stable i in
    let alike : place_at (map function_view new) a ≡ place_at all a = λ i f. option_and_then (place_in_function a) (best_as_before f.address old new all is stable i) in
    λ i. option_and_then (alike i) (nearest (same i) a)

-- ---- found by halving

-- of sorted functions those at an address are a range: the ones before it begin before the address, the ones behind it behind
module _ (fs : List FunctionOfCode) (a start end : ℕ)
    (below : (j : ℕ) (d : FunctionOfCode) → j < start → j < length fs → (get_or fs j d).address < a)
    (from : (j : ℕ) (d : FunctionOfCode) → start ≤ j → j < length fs → a ≤ (get_or fs j d).address)
    (upto : (j : ℕ) (d : FunctionOfCode) → j < end → j < length fs → (get_or fs j d).address ≤ a)
    (behind : (j : ℕ) (d : FunctionOfCode) → end ≤ j → j < length fs → a < (get_or fs j d).address)
    (first : start ≤ length fs) (last : end ≤ length fs) where
  pub rises : start ≤ end
  rises = ⊎_elim
      (λ (less : end < start). by fs refl less)
      (λ (up : start ≤ end). up)
      (cases_lt end start)
    where
      by : (xs : List FunctionOfCode) → fs ≡ xs → end < start → start ≤ end
      by [] e less = let none : length fs ≡ 0 = ap length e in omega (arith, first, none, less)
      by (d ∷ xs) e less =
          let inside : end < length fs = omega (arith, first, less) in
          let low = below end d less inside in
          let high = behind end d (omega arith) inside in
          absurd (omega (arith, low, high))

  pub best_between : best (map function_view (slice_range fs start end)) ≡ best_at (map function_view fs) a
  best_between =
      let range : filter (begins_at a) fs ≡ slice_range fs start end =
      filter_range (begins_at a) fs start (end - start) (omega (arith, rises, last))
      (λ j d less. ne_eqb (get_or fs j d).address a (λ same. let low = below j d less (omega (arith, less, first)) in omega (arith, low, same)))
      (λ j d up less. let before : j < end = omega (arith, less, rises) in let inside : j < length fs = omega (arith, before, last) in let low = from j d up inside in let high = upto j d before inside in eq-eqb (get_or fs j d).address a (omega (arith, low, high)))
      (λ j d up inside. ne_eqb (get_or fs j d).address a (λ same. let high = behind j d (omega (arith, up, rises)) inside in omega (arith, high, same))) in
      ap best (ap (map function_view) (sym range) ∙ sym (begin_at_is a fs))
