-- What a search of the code finds, as the definitions have it.
use Rattle.std.proofs.Common.{◌≡◌, ◌∙◌, ◌||◌, Bool, true, false, List, [], ◌∷◌, Bor, Option, Some, None, map, option_map, cond, refl, ap, sym}
use Rattle.std.specs.List.{find, list_any}

find_mapped : {X Y : Type 0} (f : X → Y) (p : Y → Bool) (xs : List X) → find p (map f xs) ≡ option_map f (find (λ x. p (f x)) xs)
find_mapped f p [] = refl
find_mapped f p (x ∷ xs) = by (p (f x)) (find_mapped f p xs)
  where
    by : (b : Bool) → find p (map f xs) ≡ option_map f (find (λ x. p (f x)) xs) → cond b (Some (f x)) (find p (map f xs)) ≡ option_map f (cond b (Some x) (find (λ x. p (f x)) xs))
    by true others = refl
    by false others = others

-- a part of what was found
pub found_as : {X Y B : Type 0} (view : X → Y) (p : Y → Bool) (part : Y → B) (xs : List X) (o : Option (Bor X)) → option_map (λ x. x.now) o ≡ find (λ x. p (view x)) xs
    → option_map (λ x. part (view x.now)) o ≡ option_map part (find p (map view xs))
found_as {X} {Y} view p part xs o is =
    by o ∙ (ap (λ (found : Option X). option_map part (option_map view found)) is ∙ ap (option_map part) (sym (find_mapped view p xs)))
  where
    by : (o : Option (Bor X)) → option_map (λ x. part (view x.now)) o ≡ option_map part (option_map view (option_map (λ x. x.now) o))
    by None = refl
    by (Some x) = refl

-- a test of what the code has is one of what it stands for
pub any_mapped : {X Y : Type 0} (f : X → Y) (p : Y → Bool) (xs : List X) → list_any (λ x. p (f x)) xs ≡ list_any p (map f xs)
any_mapped f p [] = refl
any_mapped f p (x ∷ xs) = ap (λ (b : Bool). p (f x) || b) (any_mapped f p xs)
