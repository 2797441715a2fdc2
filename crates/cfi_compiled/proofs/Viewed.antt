-- A list of the code's values, each seen as what it means.
use Rattle.std.proofs.Common.{◌≡◌, ℕ, ◌+◌, ◌<◌, List, ◌∷◌, map, length, get_or, drop, sym, ap, subst, ◌∙◌}
use Rattle.std.specs.List.{All}
use Rattle.std.proofs.lemmas.List.{drop_more, drop-map, get_or-map}
use Rattle.std.proofs.lemmas.List.Elements.{All-get_or}
use Rattle.std.proofs.Math.ListN.{length-map}

module _ {X Y : Type 0} (f : X → Y) (xs : List X) (i : ℕ) (x : X) (within : i < length xs) (is : x ≡ get_or xs i x) where
  -- what is left at a place begins with what stands there
  pub left_there : drop i (map f xs) ≡ f x ∷ drop (i + 1) (map f xs)
  left_there =
      drop-map f i xs ∙ ap (map f) (drop_more xs i x within) ∙ ap (λ y. f y ∷ map f (drop (i + 1) xs)) (sym is)
      ∙ ap (λ ys. f x ∷ ys) (sym (drop-map f (i + 1) xs))

  pub holds_there : (P : Y → Type 0) → All P (map f xs) → P (f x)
  holds_there P all =
      let inside : i < length (map f xs) = simp length-map within in
      subst P (get_or-map f xs i x (f x) within ∙ ap f (sym is)) (All-get_or P (map f xs) i (f x) inside all)

  pub holds_of : (P : X → Type 0) → All P xs → P x
  holds_of P all = subst P (sym is) (All-get_or P xs i x within all)

  pub at_there : get_or (map f xs) i (f x) ≡ f x
  at_there = get_or-map f xs i x (f x) within ∙ ap f (sym is)
