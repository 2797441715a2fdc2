-- The entries of a table, one after the other.
use Rattle.std.proofs.Common.{◌≡◌, ◌<◌, ◌≤◌, ◌+◌, ◌*◌, ◌/◌, ℕ, zero, suc, Bool, List, [], ◌∷◌, length, drop, map, Some, None, Result, cond, refl, sym, ap, ◌∙◌, arith, slice_get, if◌then◌else◌, ⊎_elim}
use Rattle.std.specs.Prelude.{find}
use Rattle.std.specs.List.{fold, range_with_len}
use Rattle.std.proofs.Math.Nat.{div-le_self, le-div_iff_mul-le}
use Rattle.std.proofs.lemmas.Bool.{cases_lt, le-leb, lt-leb}
use Rattle.std.proofs.lemmas.List.{drop_all, length-map}
use Rattle.std.proofs.lemmas.List.FromFn.{length-map-range_with_len}
use Rattle.cfi_elf.specs.Fields.{entries, entry_at, part}
use Rattle.cfi_elf.specs.Searches.{first_by, if_passed}

-- ---- what is left of a list from an index on

pub next_is : {A : Type 0} (xs : List A) (index : ℕ) (x : A) → Some x ≡ slice_get xs index → drop index xs ≡ x ∷ drop (suc index) xs
next_is [] index x is = absurd (cc)
next_is (y ∷ xs) zero x is = let same : y ≡ x = cc in ap (λ z. z ∷ xs) same
next_is (y ∷ xs) (suc index) x is = next_is xs index x is

pub none_is : {A : Type 0} (xs : List A) (index : ℕ) → None ≡ slice_get xs index → drop index xs ≡ []
none_is [] zero is = refl
none_is [] (suc index) is = refl
none_is (y ∷ xs) zero is = absurd (cc)
none_is (y ∷ xs) (suc index) is = none_is xs index is

pub next_left : {A : Type 0} (xs : List A) (index : ℕ) (x : A) → Some x ≡ slice_get xs index → drop index xs ≡ x ∷ drop (index + 1) xs
next_left xs index x is = let after : suc index ≡ index + 1 = omega arith in next_is xs index x is ∙ ap (λ (n : ℕ). x ∷ drop n xs) after

-- ---- searches, by whether the next one passes

pub find_step : {A : Type 0} (test : A → Bool) (xs : List A) (index : ℕ) (x : A) (b : Bool) → Some x ≡ slice_get xs index → test x ≡ b →
    find test (drop index xs) ≡ cond b (Some x) (find test (drop (index + 1) xs))
find_step test xs index x b is so = ap (find test) (next_left xs index x is) ∙ ap (λ (b : Bool). cond b (Some x) (find test (drop (index + 1) xs))) so

pub search_step : {A E : Type 0} (test : A → Result Bool E) (xs : List A) (index : ℕ) (x : A) (answer : Result Bool E) → Some x ≡ slice_get xs index → test x ≡ answer →
    first_by test (drop index xs) ≡ if_passed answer x (first_by test (drop (index + 1) xs))
search_step {E = E} test xs index x answer is so =
    ap (first_by test) (next_left xs index x is) ∙ ap (λ (r : Result Bool E). if_passed r x (first_by test (drop (index + 1) xs))) so

-- ---- the entries of a table

pub ranged : {A : Type 0} (f : ℕ → A) (a n i j : ℕ) → i < n → a + i ≡ j → slice_get (map f (range_with_len a n)) i ≡ Some (f j)
ranged f a zero i j inside is = absurd (omega (arith, inside))
ranged f a (suc n) zero j inside is = let same : a ≡ j = omega (arith, is) in ap (λ (k : ℕ). Some (f k)) same
ranged f a (suc n) (suc i) j inside is = ranged f (a + 1) n i j (omega (arith, inside)) (omega (arith, is))

pub past : {A : Type 0} (f : ℕ → A) (a n i : ℕ) → n ≤ i → slice_get (map f (range_with_len a n)) i ≡ None
past f a zero i up = refl
past f a (suc n) zero up = absurd (omega (arith, up))
past f a (suc n) (suc i) up = past f (a + 1) n i (omega (arith, up))

pub fits : (size : ℕ) (bytes : List ℕ) (index : ℕ) → 0 < size → index < length bytes / size → index * size + size ≤ length bytes
fits size bytes index some inside =
    let up : suc index ≤ length bytes / size = omega (arith, inside) in
    let all : suc index * size ≤ length bytes = (le-div_iff_mul-le {k = size} {x = suc index} {y = length bytes} some).0 up in
    omega (arith, all)

pub entry_is : (size : ℕ) (bytes : List ℕ) (index : ℕ) → 0 < size → part bytes (index * size) size ≡ slice_get (entries size bytes) index
entry_is size bytes index some = ⊎_elim
    (λ (inside : index < length bytes / size).
    ap (λ (b : Bool). if b then Some (entry_at size bytes index) else None) (le-leb _ _ (fits size bytes index some inside))
    ∙ sym (ranged (entry_at size bytes) 0 (length bytes / size) index index inside (omega arith)))
    (λ (up : length bytes / size ≤ index).
    ap (λ (b : Bool). if b then Some (entry_at size bytes index) else None) (lt-leb _ _ (beyond up))
    ∙ sym (past (entry_at size bytes) 0 (length bytes / size) index up))
    (cases_lt index (length bytes / size))
  where
    beyond : length bytes / size ≤ index → length bytes < index * size + size
    beyond up = ⊎_elim
        (λ (less : length bytes < index * size + size). less)
        (λ (whole : index * size + size ≤ length bytes).
        let all : suc index * size ≤ length bytes = omega (arith, whole) in
        let low : suc index ≤ length bytes / size = (le-div_iff_mul-le {k = size} {x = suc index} {y = length bytes} some).1 all in
        absurd (omega (arith, low, up)))
        (cases_lt (length bytes) (index * size + size))

pub entry_past : (size : ℕ) (bytes : List ℕ) (index : ℕ) → 0 < size → length bytes < index * size → None ≡ slice_get (entries size bytes) index
entry_past size bytes index some far =
    let beyond : length bytes < index * size + size = omega (arith, far) in
    sym (ap (λ (b : Bool). if b then Some (entry_at size bytes index) else None) (lt-leb _ _ beyond)) ∙ entry_is size bytes index some

-- at the latest when there were as many as bytes
pub none_left : {A : Type 0} (f : List ℕ → A) (size : ℕ) (bytes : List ℕ) (index : ℕ) → length bytes ≤ index → drop index (map f (entries size bytes)) ≡ []
none_left f size bytes index up =
    let n : length (map f (entries size bytes)) ≡ length bytes / size = length-map (entries size bytes) f ∙ length-map-range_with_len (entry_at size bytes) 0 (length bytes / size) in
    let few = div-le_self (length bytes) size in
    drop_all index (map f (entries size bytes)) (omega (arith, n, few, up))

-- the same of what comes of the entries
pub none_left_of : {A B : Type 0} (g : A → B) (f : List ℕ → A) (size : ℕ) (bytes : List ℕ) (index : ℕ) → length bytes ≤ index → drop index (map g (map f (entries size bytes))) ≡ []
none_left_of g f size bytes index up =
    let n : length (map g (map f (entries size bytes))) ≡ length bytes / size = length-map (map f (entries size bytes)) g ∙ (length-map (entries size bytes) f ∙ length-map-range_with_len (entry_at size bytes) 0 (length bytes / size)) in
    let few = div-le_self (length bytes) size in
    drop_all index (map g (map f (entries size bytes))) (omega (arith, n, few, up))

-- ---- folds, one step

pub fold_step : {A B : Type 0} (f : B → A → B) (b : B) (xs : List A) (index : ℕ) (x : A) → Some x ≡ slice_get xs index → fold f b (drop index xs) ≡ fold f (f b x) (drop (index + 1) xs)
fold_step f b xs index x is = ap (fold f b) (next_left xs index x is)
