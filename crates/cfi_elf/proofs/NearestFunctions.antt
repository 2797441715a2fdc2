-- The function that begins nearest at or before an address, found by halving.
use Rattle.std.specs.Bool.{⊤}
use Rattle.std.proofs.Common.{◌≡◌, ℕ, zero, suc, ◌-◌, ◌<◌, ◌≤◌, Bool, true, false, List, [], ◌∷◌, length, get_or, map, is_some, IsSome, Option, Some, None, option_and_then, option_map, cond, nat_eq, refl, sym, ap, subst, ◌∙◌, ⊎_elim, arith, eq-eqb, ne_eqb, true≢false}
use Rattle.std.specs.Prelude.{find}
use Rattle.std.specs.List.Sorted.{IsNonDecreasingBy}
use Rattle.std.proofs.lemmas.Bool.{cases_lt, eqb-true}
use Rattle.cfi_elf.specs.declared.functions.Function.{Function as FunctionOfCode}
use Rattle.cfi_elf.specs.Options.{or_else}
use Rattle.cfi_elf.specs.Functions.{Function, function_view}
use Rattle.std.specs.List.{filter, fold}
use Rattle.cfi_elf.specs.BestNames.{better_of, is_better}
use Rattle.cfi_elf.specs.FunctionNames.{best_at, first_at, nearest, place_among, place_at}
use Rattle.cfi_elf.specs.FunctionPlaces.{place_in_function}
use Rattle.cfi_elf.proofs.FunctionLists.{begins_at, find_nowhere, first_at_is}

-- ---- going down from an address

some_first : (o p : Option Function) → IsSome o → or_else o p ≡ o
some_first None p some = absurd (true≢false (sym some))
some_first (Some f) p some = refl

-- none begins behind s, where one does
nearest_is : (first : ℕ → Option Function) (s a : ℕ) → s ≤ a → ((t : ℕ) → s < t → t ≤ a → first t ≡ None) → IsSome (first s) → nearest first a ≡ first s
nearest_is first s zero le none some =
    let at : 0 ≡ s = omega arith in ap first at
nearest_is first s (suc a) le none some = ⊎_elim
    (λ (less : a < s).
    let at : s ≡ suc a = omega (arith, less, le) in
    let here : IsSome (first (suc a)) = subst (λ (t : ℕ). IsSome (first t)) at some in
    some_first (first (suc a)) (nearest first a) here ∙ ap first (sym at))
    (λ (up : s ≤ a).
    ap (λ (o : Option Function). or_else o (nearest first a)) (none (suc a) (omega (arith, up)) (omega arith))
    ∙ nearest_is first s a up (λ t above upto. none t above (omega (arith, upto))) some)
    (cases_lt a s)

-- one that passes the test is found
some_found : {X : Type 0} (p : X → Bool) (xs : List X) (k : ℕ) (d : X) → k < length xs → p (get_or xs k d) ≡ true → IsSome (find p xs)
some_found p [] k d inside passes = absurd (omega arith)
some_found p (x ∷ xs) zero d inside passes = ap (λ (b : Bool). is_some (cond b (Some x) (find p xs))) passes
some_found p (x ∷ xs) (suc k) d inside passes = by (p x) (some_found p xs k d (omega (arith, inside)) passes)
  where
    by : (b : Bool) → IsSome (find p xs) → is_some (cond b (Some x) (find p xs)) ≡ true
    by true some = refl
    by false some = some

some_viewed : (o : Option FunctionOfCode) → is_some (option_map function_view o) ≡ is_some o
some_viewed None = refl
some_viewed (Some f) = refl

none_nearest : (first : ℕ → Option Function) (a : ℕ) → ((t : ℕ) → t ≤ a → first t ≡ None) → nearest first a ≡ None
none_nearest first zero none = none 0 (omega arith)
none_nearest first (suc a) none =
    ap (λ (o : Option Function). or_else o (nearest first a)) (none (suc a) (omega arith)) ∙ none_nearest first a (λ t upto. none t (omega (arith, upto)))

-- a function that is found at an address begins there
begins : (fs : List Function) (a : ℕ) (f : Function) → Some f ≡ first_at fs a → f.address ≡ a
begins [] a f is = cc
begins (g ∷ gs) a f is = by (nat_eq g.address a) refl is (begins gs a f)
  where
    by : (b : Bool) → nat_eq g.address a ≡ b → Some f ≡ cond b (Some g) (first_at gs a) → (Some f ≡ first_at gs a → f.address ≡ a) → f.address ≡ a
    by true at is after =
        let same : f ≡ g = cc in
        ap (λ (x : Function). x.address) same ∙ eqb-true g.address a at
    by false at is after = after is

-- ---- among functions of which the first k begin at or before an address, and the others behind it

module _ (fs : List FunctionOfCode) (a k : ℕ)
    (upto : (j : ℕ) (d : FunctionOfCode) → j < k → j < length fs → (get_or fs j d).address ≤ a)
    (behind : (j : ℕ) (d : FunctionOfCode) → k ≤ j → j < length fs → a < (get_or fs j d).address) where
  abbrev first : ℕ → Option Function
  first = first_at (map function_view fs)

  no_first : (t : ℕ) → ((j : ℕ) (d : FunctionOfCode) → j < length fs → (get_or fs j d).address ≡ t → ⊥) → first t ≡ None
  no_first t other =
      first_at_is t fs ∙ ap (option_map function_view) (find_nowhere (begins_at t) fs (λ j d inside. ne_eqb (get_or fs j d).address t (other j d inside)))

  pub none_begins : k ≡ 0 → None ≡ place_among (map function_view fs) a
  none_begins none =
      sym (ap (option_and_then (place_at (map function_view fs) a)) (none_nearest first a (λ t upto_a.
      no_first t (λ j d inside same. let high = behind j d (omega (arith, none)) inside in omega (arith, high, same, upto_a)))))

  -- the last of the first k
  module _ (x : FunctionOfCode) (some : 0 < k) (inside : k ≤ length fs) (there : x ≡ get_or fs (k - 1) x) (sorted : IsNonDecreasingBy (λ (f : FunctionOfCode). f.address) fs) where
    at_x : (get_or fs (k - 1) x).address ≡ x.address
    at_x = ap (λ (f : FunctionOfCode). f.address) (sym there)

    pub begins_before : x.address ≤ a
    begins_before = let low = upto (k - 1) x (omega arith) (omega arith) in omega (arith, low, at_x)

    none_between : (t : ℕ) → x.address < t → t ≤ a → first t ≡ None
    none_between t above upto_a = no_first t (λ j d here same. ⊎_elim
        (λ (less : j < k).
        let rises = sorted j (k - 1) d (omega (arith, less)) (omega (arith, some, inside)) in
        let at : (get_or fs (k - 1) d).address ≡ x.address = ap (λ (f : FunctionOfCode). f.address) (same_at d) in
        omega (arith, rises, at, same, above))
        (λ (up : k ≤ j). let high = behind j d up here in omega (arith, high, same, upto_a))
        (cases_lt j k))
      where
        same_at : (d : FunctionOfCode) → get_or fs (k - 1) d ≡ x
        same_at d = Rattle.std.proofs.lemmas.List.get_or_default fs (k - 1) d x (omega (arith, some, inside)) ∙ sym there

    some_begins : IsSome (first x.address)
    some_begins =
        ap is_some (first_at_is x.address fs)
        ∙ (some_viewed (find (begins_at x.address) fs)
        ∙ some_found (begins_at x.address) fs (k - 1) x (omega (arith, some, inside)) (eq-eqb (get_or fs (k - 1) x).address x.address at_x))

    -- so the one that gives the name there is the one by which the address is
    pub placed : (found : Option Function) → found ≡ best_at (map function_view fs) x.address → option_and_then (place_in_function a) found ≡ place_among (map function_view fs) a
    placed found is = by (first x.address) refl some_begins ∙ sym (ap (option_and_then (place_at (map function_view fs) a)) (nearest_is first x.address a begins_before none_between some_begins))
      where
        by : (o : Option Function) → first x.address ≡ o → IsSome o → option_and_then (place_in_function a) found ≡ option_and_then (place_at (map function_view fs) a) o
        by None e some = absurd (true≢false (sym some))
        by (Some g) e some =
            let at : g.address ≡ x.address = begins (map function_view fs) x.address g (sym e) in
            ap (option_and_then (place_in_function a)) (is ∙ ap (best_at (map function_view fs)) (sym at))

-- ---- the best of those at an address begins there

abbrev BeginsThere : ℕ → Option Function → Type 0
BeginsThere a None = ⊤
BeginsThere a (Some f) = f.address ≡ a

better_begins : (a : ℕ) (o : Option Function) (f : Function) → BeginsThere a o → f.address ≡ a → (better_of o f).address ≡ a
better_begins a None f there at = at
better_begins a (Some g) f there at = by (is_better f g)
  where
    by : (b : Bool) → (cond b f g).address ≡ a
    by true = at
    by false = there

best_begins : (a : ℕ) (fs : List Function) (o : Option Function) → BeginsThere a o → BeginsThere a (fold (λ found f. Some (better_of found f)) o (filter (λ f. nat_eq f.address a) fs))
best_begins a [] o there = there
best_begins a (f ∷ fs) o there = by (nat_eq f.address a) refl (λ o there. best_begins a fs o there)
  where
    by : (b : Bool) → nat_eq f.address a ≡ b → ((o : Option Function) → BeginsThere a o → BeginsThere a (fold (λ found f. Some (better_of found f)) o (filter (λ f. nat_eq f.address a) fs)))
        → BeginsThere a (fold (λ found f. Some (better_of found f)) o (cond b (f ∷ filter (λ f. nat_eq f.address a) fs) (filter (λ f. nat_eq f.address a) fs)))
    by true at others = others (Some (better_of o f)) (better_begins a o f there (eqb-true f.address a at))
    by false at others = others o there

pub found_begins : (fs : List FunctionOfCode) (a : ℕ) (f : Function) → Some f ≡ best_at (map function_view fs) a → f.address ≡ a
found_begins fs a f is = subst (λ (o : Option Function). BeginsThere a o) (sym is) (best_begins a (map function_view fs) None tt)

pub no_functions : (fs : List FunctionOfCode) (a : ℕ) → fs ≡ [] → place_among (map function_view fs) a ≡ None
no_functions fs a none =
    ap (λ (xs : List FunctionOfCode). place_among (map function_view xs) a) none ∙ ap (option_and_then (place_at [] a)) (none_nearest (first_at []) a (λ t upto. refl))
