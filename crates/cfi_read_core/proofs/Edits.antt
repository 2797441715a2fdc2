-- A list that loses an item, and one that gets an item in its midst.
use Rattle.std.specs.Result.{OnOk, is_ok, IsOk}
use Rattle.std.proofs.Common.{Result, Ok, Err, ◌≡◌, ℕ, ◌<◌, Option, Some, None, List, [], ◌∷◌, ◌++◌, length, get_or, take, drop, suc, ◌≤◌, ◌+◌, ◌-◌, refl, sym, ap, ◌∙◌, arith}
use Rattle.std.proofs.Math.ListN.{drop_of_length-le}
use Rattle.std.proofs.Math.Numerals.{add-one}
use Rattle.std.proofs.lemmas.List.{length-append, length-drop, length-take-le, drop_more, take_more, append_assoc, same_from_push}
use Rattle.std.proofs.lemmas.List.Edits.{length-remove, paste_all, swap_is}
use Rattle.std.specs.List.{remove, copy_within, insert, swap}
use Rattle.std.specs.Option.{IfSome, IfNone, option_to_list}

-- the items up to the last, which is popped off what was written back
pub popped : {A : Type 0} (items : List A) (place : ℕ) (last_of : A → A) (written held rest : List A) (o : Option A) → place < length items
    → ((d : A) → written ≡ remove items place ++ last_of d ∷ []) → (length written ≡ length items → held ≡ written)
    → IfSome o (λ last. held ≡ rest ++ last ∷ []) → IfNone o ((held ≡ []) × (rest ≡ [])) → rest ≡ remove items place
popped [] place last_of written held rest o within moved back some none = absurd (omega arith)
popped (d ∷ items) place last_of written held rest o within moved back some none =
    let whole = moved d in
    let count : length written ≡ length (d ∷ items) =
    omega (arith, ap length whole, length-append (remove (d ∷ items) place) (last_of d ∷ []), length-remove (d ∷ items) place within) in
    let all = back count ∙ whole in
    elim o as (λ o. IfSome o (λ last. held ≡ rest ++ last ∷ []) → IfNone o ((held ≡ []) × (rest ≡ [])) → rest ≡ remove (d ∷ items) place) [
      | Some last ↦ λ some none. (same_from_push rest (remove (d ∷ items) place) last (last_of d) (sym some ∙ all)).0
      | None ↦ λ some none. absurd (omega (arith, ap length none.0, ap length (back count), count))
    ] some none

-- the last item alone is left of a list from its place on
last_alone : {A : Type 0} (items : List A) (place : ℕ) (d : A) → place < length items
    → drop (place + (length items - (place + 1))) items ≡ get_or items (length items - 1) d ∷ []
last_alone items place d within =
    let at : place + (length items - (place + 1)) ≡ length items - 1 = omega (arith, within) in
    ap (λ k. drop k items) at ∙ drop_more items (length items - 1) d (omega (arith, within))
    ∙ ap (λ l. get_or items (length items - 1) d ∷ l) (drop_of_length-le items (omega (arith, within)))

-- the later items moved down by one; the last one then stands twice
pub moved_down : {A : Type 0} (items : List A) (place : ℕ) (d : A) → place < length items
    → copy_within items (place + 1) (length items) place ≡ remove items place ++ get_or items (length items - 1) d ∷ []
moved_down items place d within =
    paste_all items place (drop (place + 1) items) (length items - (place + 1)) (sym (length-drop (place + 1) items))
    ∙ ap (λ l. take place items ++ (drop (place + 1) items ++ l)) (last_alone items place d within)
    ∙ sym (append_assoc (take place items) (drop (place + 1) items) (get_or items (length items - 1) d ∷ []))
    ∙ ap (λ k. (take place items ++ drop k items) ++ get_or items (length items - 1) d ∷ []) (add-one place)

-- ---- a list that gets an item in its midst

swap_next : {A : Type 0} (xs : List A) (x y : A) (rest : List A) → swap (xs ++ x ∷ y ∷ rest) (length xs) (suc (length xs)) ≡ xs ++ y ∷ x ∷ rest
swap_next [] x y rest = refl
swap_next (z ∷ xs) x y rest =
    let all = xs ++ x ∷ y ∷ rest in
    let count : length all ≡ length xs + suc (suc (length rest)) = length-append xs (x ∷ y ∷ rest) in
    ap (λ l. z ∷ l) (swap_is all (length xs) (suc (length xs)) z (omega arith) (omega arith) ∙ swap_next xs x y rest)

-- the item that was put in goes down by one place
pub one_down : {A : Type 0} (front : List A) (place : ℕ) (item : A) → 1 ≤ place → place ≤ length front
    → swap (insert front place item) (place - 1) place ≡ insert front (place - 1) item
one_down [] place item some within = absurd (omega arith)
one_down (d ∷ others) place item some within =
    let front = d ∷ others in
    let below = place - 1 in
    let here : place ≡ suc below = omega arith in
    let before = get_or front below d in
    let next : below + 1 ≡ place = omega arith in
    let whole : drop below front ≡ before ∷ drop place front = drop_more front below d (omega arith) ∙ ap (λ k. before ∷ drop k front) next in
    let count : length (take below front) ≡ below = length-take-le below front (omega arith) in
    let longer : take place front ≡ take below front ++ before ∷ [] = ap (λ k. take k front) (sym next) ∙ take_more front below d (omega arith) in
    let parted : insert front place item ≡ take below front ++ before ∷ item ∷ drop place front = ap (λ l. l ++ item ∷ drop place front) longer ∙ append_assoc (take below front) (before ∷ []) (item ∷ drop place front) in
    ap (λ l. swap l below place) parted
    ∙ ap (λ k. swap (take below front ++ before ∷ item ∷ drop place front) below k) here
    ∙ ap (λ k. swap (take below front ++ before ∷ item ∷ drop place front) k (suc k)) (sym count)
    ∙ swap_next (take below front) before item (drop place front)
    ∙ ap (λ l. take below front ++ item ∷ l) (sym whole)

-- what holds where a call is accepted still does once its refusal is turned into another
pub as_accepted : {X Y E F : Type 0} (call : Result X E) (answer : Result Y F) (P : Type 0) → is_ok answer ≡ is_ok call → OnOk call P → OnOk answer P
as_accepted (Ok x) (Ok y) P same holds = holds
as_accepted (Err e) (Ok y) P same holds = absurd (cc)
as_accepted call (Err e) P same holds = tt

-- an item that was taken is the last of those before
pub last_taken : {A : Type 0} (taken : Option A) (before after : List A) → before ≡ after ++ option_to_list taken → IfSome taken (λ item. before ≡ after ++ item ∷ [])
last_taken (Some item) before after is = is
last_taken None before after is = tt

-- what holds of an accepted call
pub of_ok : {X E : Type 0} (call : Result X E) (P : Type 0) → IsOk call → OnOk call P → P
of_ok (Ok x) P ok holds = holds
of_ok (Err e) P ok holds = absurd (cc)
