-- Lists that are compared item by item, from either end, and that are gone over item by item.
use Rattle.std.proofs.Common.{◌≡◌, ℕ, ◌+◌, ◌<◌, ◌≤◌, Bool, true, false, ◌&&◌, List, [], ◌∷◌, ◌++◌, length, get_or, take, reverse, refl, sym, ap, ◌∙◌}
use Rattle.std.proofs.Math.Bool.{and_comm}
use Rattle.std.proofs.lemmas.List.{length-take-le, reverse-append, take_more}
use Rattle.std.specs.Cmp.Lexicographic.{pointwise}

and_assoc : (a b c : Bool) → (a && (b && c)) ≡ ((a && b) && c)
and_assoc true b c = refl
and_assoc false b c = refl

and_false : (a : Bool) → (a && false) ≡ false
and_false true = refl
and_false false = refl

module _ {A : Type 0} (E : A → A → Bool) where
  none-push : (xs : List A) (x : A) → pointwise E [] (xs ++ x ∷ []) ≡ false
  none-push [] x = refl
  none-push (y ∷ xs) x = refl

  push-none : (xs : List A) (x : A) → pointwise E (xs ++ x ∷ []) [] ≡ false
  push-none [] x = refl
  push-none (y ∷ xs) x = refl

  pointwise-push : (xs ys : List A) (x y : A) → pointwise E (xs ++ x ∷ []) (ys ++ y ∷ []) ≡ (pointwise E xs ys && E x y)
  pointwise-push [] [] x y = and_comm (E x y) true
  pointwise-push [] (b ∷ ys) x y = ap (λ t. E x b && t) (none-push ys y) ∙ and_false (E x b)
  pointwise-push (a ∷ xs) [] x y = ap (λ t. E a y && t) (push-none xs x) ∙ and_false (E a y)
  pointwise-push (a ∷ xs) (b ∷ ys) x y = ap (λ t. E a b && t) (pointwise-push xs ys x y) ∙ and_assoc (E a b) (pointwise E xs ys) (E x y)

  pub pointwise-reverse : (xs ys : List A) → pointwise E (reverse xs) (reverse ys) ≡ pointwise E xs ys
  pointwise-reverse [] [] = refl
  pointwise-reverse [] (y ∷ ys) = ap (pointwise E []) (reverse-append (y ∷ []) ys) ∙ none-push (reverse ys) y
  pointwise-reverse (x ∷ xs) [] = ap (λ zs. pointwise E zs []) (reverse-append (x ∷ []) xs) ∙ push-none (reverse xs) x
  pointwise-reverse (x ∷ xs) (y ∷ ys) =
      ap (λ zs. pointwise E zs (reverse (y ∷ ys))) (reverse-append (x ∷ []) xs)
      ∙ ap (pointwise E (reverse xs ++ x ∷ [])) (reverse-append (y ∷ []) ys)
      ∙ pointwise-push (reverse xs) (reverse ys) x y
      ∙ and_comm (pointwise E (reverse xs) (reverse ys)) (E x y)
      ∙ ap (λ t. E x y && t) (pointwise-reverse xs ys)

-- the items gone over so far, and the next
pub one_more : {A : Type 0} (items held new : List A) (index : ℕ) (item : A) → index < length items → item ≡ get_or items index item → held ≡ take index items
    → new ≡ held ++ item ∷ [] → new ≡ take (index + 1) items
one_more items held new index item within is same pushed = pushed ∙ (λ i. same i ++ is i ∷ []) ∙ sym (take_more items index item within)

-- the items gone over at the start
pub as_far_as : {A : Type 0} (items held : List A) (count : ℕ) → count ≤ length items → held ≡ take count items → held ≡ take (length held) items
as_far_as items held count within is = is ∙ ap (λ n. take n items) (sym (ap length is ∙ length-take-le count items within))
