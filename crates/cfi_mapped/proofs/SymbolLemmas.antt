-- Symbols that are gathered line by line, sorted by address, and found by halving.
use Rattle.std.specs.Option.{option_or}
use Rattle.std.proofs.Common.{◌-◌, ◌≡◌, ℕ, zero, suc, ◌<◌, ◌≤◌, ◌&&◌, ◌++◌, Bool, true, false, not, List, [], ◌∷◌, length, get_or, map, Option, Some, None, is_some, IsSome, nat_lt, nat_eq, Less, Equal, Greater, refl, sym, ap, subst, ◌∙◌, ⊎_elim, arith, append_assoc, eq-eqb, ne_eqb, cond, true≢false}
use Rattle.std.specs.List.{cons_option, filter, filter_map}
use Rattle.std.specs.List.Sorted.{IsNonDecreasingBy, IsStableByKey, ties}
use Rattle.std.specs.Ordering.{is_lt, nat_cmp}
use Rattle.std.proofs.lemmas.Bool.{cases_lt, lt-ltb, le-ltb}
use Rattle.std.proofs.lemmas.List.{map_push}
use Rattle.cfi_mapped.specs.declared.text_symbols.TextSymbol.{TextSymbol}
use Rattle.cfi_mapped.specs.TextSymbols.{Symbol, last_at, nearest_by, nearest_among, symbol_view}

-- ---- gathered

-- what the first lines give, and what the others do
module _ {S X Y : Type 0} (view : X → Y) (f : S → Option Y) (items : List X) (s : S) (rest : List S) (all : List Y) (so : map view items ++ filter_map f (s ∷ rest) ≡ all) where
  pub one_gathered : (x : X) (more : List X) → more ≡ items ++ x ∷ [] → Some (view x) ≡ f s → map view more ++ filter_map f rest ≡ all
  one_gathered x more pushed gives =
      ap (λ (xs : List X). map view xs ++ filter_map f rest) pushed
      ∙ (ap (λ (ys : List Y). ys ++ filter_map f rest) (map_push view items x)
      ∙ (append_assoc (map view items) (view x ∷ []) (filter_map f rest)
      ∙ (ap (λ (o : Option Y). map view items ++ cons_option o (filter_map f rest)) gives ∙ so)))

  pub none_gathered : (more : List X) → more ≡ items → None ≡ f s → map view more ++ filter_map f rest ≡ all
  none_gathered more same gives =
      ap (λ (xs : List X). map view xs ++ filter_map f rest) same
      ∙ (ap (λ (o : Option Y). map view items ++ cons_option o (filter_map f rest)) gives ∙ so)

-- ---- those that begin at an address

abbrev begins_at : ℕ → TextSymbol → Bool
begins_at a s = nat_eq s.address a

abbrev last_of : List Symbol → Option Symbol
last_of [] = None
last_of (s ∷ symbols) = option_or (last_of symbols) (Some s)

none_else : (o : Option Symbol) → option_or o None ≡ o
none_else None = refl
none_else (Some s) = refl

-- the last of those that begin there
last_is : (a : ℕ) (symbols : List TextSymbol) → last_at (map symbol_view symbols) a ≡ last_of (map symbol_view (filter (begins_at a) symbols))
last_is a [] = refl
last_is a (s ∷ symbols) = by (nat_eq s.address a) (last_is a symbols)
  where
    by : (b : Bool) → last_at (map symbol_view symbols) a ≡ last_of (map symbol_view (filter (begins_at a) symbols)) →
        option_or (last_at (map symbol_view symbols) a) (cond b (Some (symbol_view s)) None)
        ≡ last_of (map symbol_view (cond b (s ∷ filter (begins_at a) symbols) (filter (begins_at a) symbols)))
    by true h = ap (λ (o : Option Symbol). option_or o (Some (symbol_view s))) h
    by false h = none_else (last_at (map symbol_view symbols) a) ∙ h

last_nowhere : (a : ℕ) (symbols : List TextSymbol) → ((j : ℕ) (d : TextSymbol) → j < length symbols → (get_or symbols j d).address ≡ a → ⊥) → last_at (map symbol_view symbols) a ≡ None
last_nowhere a [] other = refl
last_nowhere a (s ∷ symbols) other =
    ap (λ (o : Option Symbol). option_or o (cond (nat_eq s.address a) (Some (symbol_view s)) None)) (last_nowhere a symbols (λ j d inside same. other (suc j) d (omega (arith, inside)) same))
    ∙ ap (λ (b : Bool). cond b (Some (symbol_view s)) None) (ne_eqb s.address a (other 0 s (omega arith)))

last_here : (a : ℕ) (symbols : List TextSymbol) (k : ℕ) (d : TextSymbol) → k < length symbols → (get_or symbols k d).address ≡ a
    → ((j : ℕ) (e : TextSymbol) → k < j → j < length symbols → (get_or symbols j e).address ≡ a → ⊥) → last_at (map symbol_view symbols) a ≡ Some (symbol_view (get_or symbols k d))
last_here a [] k d inside there other = absurd (omega (arith, inside))
last_here a (s ∷ symbols) zero d inside there other =
    ap (λ (o : Option Symbol). option_or o (cond (nat_eq s.address a) (Some (symbol_view s)) None)) (last_nowhere a symbols (λ j e here same. other (suc j) e (omega arith) (omega (arith, here)) same))
    ∙ ap (λ (b : Bool). cond b (Some (symbol_view s)) None) (eq-eqb s.address a there)
last_here a (s ∷ symbols) (suc k) d inside there other =
    ap (λ (o : Option Symbol). option_or o (cond (nat_eq s.address a) (Some (symbol_view s)) None))
    (last_here a symbols k d (omega (arith, inside)) there (λ j e behind here same. other (suc j) e (omega (arith, behind)) (omega (arith, here)) same))

-- ---- sorted

less_by : (b e : Bool) → is_lt (cond b Less (cond e Equal Greater)) ≡ b
less_by true e = refl
less_by false true = refl
less_by false false = refl

less_is : (a n : ℕ) → is_lt (nat_cmp a n) ≡ nat_lt a n
less_is a n = less_by (nat_lt a n) (nat_eq a n)

-- neither is less: they are the same
no_less : (a n : ℕ) → (not (nat_lt a n) && not (nat_lt n a)) ≡ nat_eq n a
no_less a n = ⊎_elim
    (λ (less : a < n). ap (λ (b : Bool). not b && not (nat_lt n a)) (lt-ltb a n less) ∙ sym (ne_eqb n a (λ same. omega (arith, less, same))))
    (λ (up : n ≤ a). ⊎_elim
    (λ (less : n < a). ap (λ (b : Bool). not b && not (nat_lt n a)) (le-ltb a n up) ∙ (ap not (lt-ltb n a less) ∙ sym (ne_eqb n a (λ same. omega (arith, less, same)))))
    (λ (down : a ≤ n). ap (λ (b : Bool). not b && not (nat_lt n a)) (le-ltb a n up) ∙ (ap not (le-ltb n a down) ∙ sym (eq-eqb n a (omega (arith, up, down)))))
    (cases_lt n a))
    (cases_lt a n)

module _ (a : ℕ) (old new : List TextSymbol) (stable : IsStableByKey (λ (s : TextSymbol). s.address) nat_cmp old new) where
  at_address : (d : TextSymbol) → filter (begins_at a) new ≡ filter (begins_at a) old
  at_address d =
      let x : TextSymbol = record { address = a; size = d.size; is_function = d.is_function; name = d.name; owner = d.owner } in
      let test : ties (λ (f g : TextSymbol). is_lt (nat_cmp f.address g.address)) x ≡ begins_at a =
      λ i g. ((ap (λ (b : Bool). not b && not (is_lt (nat_cmp g.address a))) (less_is a g.address)
      ∙ ap (λ (b : Bool). not (nat_lt a g.address) && not b) (less_is g.address a)) ∙ no_less a g.address) i in
      ap (λ (t : TextSymbol → Bool). filter t new) (sym test) ∙ (stable x ∙ ap (λ (t : TextSymbol → Bool). filter t old) test)

begin_as_before : (a : ℕ) (old new : List TextSymbol) → IsStableByKey (λ (s : TextSymbol). s.address) nat_cmp old new → filter (begins_at a) new ≡ filter (begins_at a) old
begin_as_before a [] [] stable = refl
begin_as_before a [] (d ∷ new) stable = at_address a [] (d ∷ new) stable d
begin_as_before a (d ∷ old) new stable = at_address a (d ∷ old) new stable d

-- a stable sort leaves the last one at each address, and so the nearest one
pub placed_as_before : (a : ℕ) (old new : List TextSymbol) (all : List Symbol) → map symbol_view old ≡ all → IsStableByKey (λ (s : TextSymbol). s.address) nat_cmp old new
    → nearest_among (map symbol_view new) a ≡ nearest_among all a
placed_as_before a old new all is stable =
    let same : last_at (map symbol_view new) ≡ last_at all =
    λ i t. (last_is t new ∙ (ap (λ (symbols : List TextSymbol). last_of (map symbol_view symbols)) (begin_as_before t old new stable) ∙ (sym (last_is t old) ∙ ap (λ (symbols : List Symbol). last_at symbols t) is))) i in
    λ i. nearest_by (same i) a

-- ---- going down from an address

-- none begins behind s, where one does
nearest_is : (last : ℕ → Option Symbol) (s a : ℕ) → s ≤ a → ((t : ℕ) → s < t → t ≤ a → last t ≡ None) → IsSome (last s) → nearest_by last a ≡ last s
nearest_is last s zero le none some =
    let at : 0 ≡ s = omega arith in ap last at
nearest_is last s (suc a) le none some = ⊎_elim
    (λ (less : a < s).
    let at : s ≡ suc a = omega (arith, less, le) in
    let here : IsSome (last (suc a)) = subst (λ (t : ℕ). IsSome (last t)) at some in
    some_first (last (suc a)) (nearest_by last a) here ∙ ap last (sym at))
    (λ (up : s ≤ a).
    ap (λ (o : Option Symbol). option_or o (nearest_by last a)) (none (suc a) (omega (arith, up)) (omega arith))
    ∙ nearest_is last s a up (λ t above upto. none t above (omega (arith, upto))) some)
    (cases_lt a s)
  where
    some_first : (o p : Option Symbol) → IsSome o → option_or o p ≡ o
    some_first None p some = absurd (true≢false (sym some))
    some_first (Some f) p some = refl

none_nearest : (last : ℕ → Option Symbol) (a : ℕ) → ((t : ℕ) → t ≤ a → last t ≡ None) → nearest_by last a ≡ None
none_nearest last zero none = none 0 (omega arith)
none_nearest last (suc a) none =
    ap (λ (o : Option Symbol). option_or o (nearest_by last a)) (none (suc a) (omega arith)) ∙ none_nearest last a (λ t upto. none t (omega (arith, upto)))

-- ---- among symbols of which the first k begin at or before an address, and the others behind it

module _ (symbols : List TextSymbol) (a k : ℕ)
    (upto : (j : ℕ) (d : TextSymbol) → j < k → j < length symbols → (get_or symbols j d).address ≤ a)
    (behind : (j : ℕ) (d : TextSymbol) → k ≤ j → j < length symbols → a < (get_or symbols j d).address) where
  pub none_begins : k ≡ 0 → None ≡ nearest_among (map symbol_view symbols) a
  none_begins none =
      sym (none_nearest (last_at (map symbol_view symbols)) a (λ t upto_a.
      last_nowhere t symbols (λ j d inside same. let high = behind j d (omega (arith, none)) inside in omega (arith, high, same, upto_a))))

  -- the last of the first k
  pub nearest_here : (x : TextSymbol) → 0 < k → k ≤ length symbols → x ≡ get_or symbols (k - 1) x → IsNonDecreasingBy (λ (s : TextSymbol). s.address) symbols
      → Some (symbol_view x) ≡ nearest_among (map symbol_view symbols) a
  nearest_here x some inside there sorted =
      let at : (get_or symbols (k - 1) x).address ≡ x.address = ap (λ (s : TextSymbol). s.address) (sym there) in
      let low = upto (k - 1) x (omega arith) (omega (arith, some, inside)) in
      let begins : x.address ≤ a = omega (arith, low, at) in
      let last : last_at (map symbol_view symbols) x.address ≡ Some (symbol_view x) =
      last_here x.address symbols (k - 1) x (omega (arith, some, inside)) at
      (λ j e up here same. let high = behind j e (omega (arith, up, some)) here in omega (arith, high, same, begins))
      ∙ ap (λ (s : TextSymbol). Some (symbol_view s)) (sym there) in
      let between : (t : ℕ) → x.address < t → t ≤ a → last_at (map symbol_view symbols) t ≡ None =
      λ t above upto_a. last_nowhere t symbols (λ j d here same. ⊎_elim
      (λ (less : j < k).
      let rises = sorted j (k - 1) d (omega (arith, less)) (omega (arith, some, inside)) in
      let same_at : get_or symbols (k - 1) d ≡ x = Rattle.std.proofs.lemmas.List.get_or_default symbols (k - 1) d x (omega (arith, some, inside)) ∙ sym there in
      let same_address : (get_or symbols (k - 1) d).address ≡ x.address = ap (λ (s : TextSymbol). s.address) same_at in
      omega (arith, rises, same_address, same, above))
      (λ (up : k ≤ j). let high = behind j d up here in omega (arith, high, same, upto_a))
      (cases_lt j k)) in
      sym (nearest_is (last_at (map symbol_view symbols)) x.address a begins between (ap is_some last) ∙ last)
