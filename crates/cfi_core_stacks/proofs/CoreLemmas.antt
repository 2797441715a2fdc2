-- What the files of a core have of its process, one mapping after the other.
use Rattle.std.proofs.Common.{◌||◌, ◌≡◌, ◌∙◌, ℕ, ◌+◌, ◌<◌, ◌≤◌, ◌&&◌, Bool, List, [], ◌∷◌, ◌++◌, Option, Some, None, length, get_or, drop, map, refl, sym, ap, add-one, append_assoc}
use Rattle.std.proofs.Math.Seq.{drop-cons}
use Rattle.std.proofs.lemmas.List.{drop_all, map-append}
use Rattle.std.specs.List.{cons_option, filter_map, fold, list_all, list_any}

-- ---- a list of the code, element after element

module _ {X Y : Type 0} (view : X → Y) (list : List X) (i : ℕ) where
  from_here : (d : X) → i < length list → map view (drop i list) ≡ view (get_or list i d) ∷ map view (drop (i + 1) list)
  from_here d inside = rw (drop-cons list i d, add-one) refl

  -- one more is taken
  pub fold_next : {A : Type 0} (f : A → Y → A) (d : X) (before after whole : A) → i < length list → after ≡ f before (view (get_or list i d)) → fold f before (map view (drop i list)) ≡ whole
      → fold f after (map view (drop (i + 1) list)) ≡ whole
  fold_next f d before after whole inside is are =
      ap (λ (a : _). fold f a (map view (drop (i + 1) list))) is ∙ (ap (fold f before) (sym (from_here d inside)) ∙ are)

  pub none_left : length list ≤ i → map view (drop i list) ≡ []
  none_left behind = rw drop_all refl

  module _ {Z : Type 0} (f : Y → Option Z) (d : X) (inside : i < length list) where
    abbrev rest : List Z
    rest = filter_map f (map view (drop (i + 1) list))

    here : filter_map f (map view (drop i list)) ≡ cons_option (f (view (get_or list i d))) rest
    here = ap (filter_map f) (from_here d inside)

    -- one more is kept
    pub kept_next : {W : Type 0} (show : W → Z) (before after : List W) (w : W) (whole : List Z) → after ≡ before ++ w ∷ [] → Some (show w) ≡ f (view (get_or list i d))
        → map show before ++ filter_map f (map view (drop i list)) ≡ whole → map show after ++ rest ≡ whole
    kept_next show before after w whole is found are =
        let first : filter_map f (map view (drop i list)) ≡ show w ∷ rest = here ∙ ap (λ (o : Option Z). cons_option o rest) (sym found) in
        ap (λ (ws : List _). map show ws ++ rest) is
        ∙ (ap (λ (zs : List Z). zs ++ rest) (map-append show before (w ∷ []))
        ∙ (append_assoc (map show before) (show w ∷ []) rest
        ∙ (ap (λ (zs : List Z). map show before ++ zs) (sym first) ∙ are)))

    -- or left out
    pub left_out : (front whole : List Z) → None ≡ f (view (get_or list i d)) → front ++ filter_map f (map view (drop i list)) ≡ whole → front ++ rest ≡ whole
    left_out front whole found are =
        let first : filter_map f (map view (drop i list)) ≡ rest = here ∙ ap (λ (o : Option Z). cons_option o rest) (sym found) in
        ap (λ (zs : List Z). front ++ zs) (sym first) ∙ are

-- ---- all of a list

pub all_mapped : {X Y : Type 0} (f : X → Y) (p : Y → Bool) (xs : List X) → list_all (λ x. p (f x)) xs ≡ list_all p (map f xs)
all_mapped f p [] = refl
all_mapped f p (x ∷ xs) = ap (λ (b : Bool). p (f x) && b) (all_mapped f p xs)

pub any_mapped : {X Y : Type 0} (f : X → Y) (p : Y → Bool) (xs : List X) → list_any (λ x. p (f x)) xs ≡ list_any p (map f xs)
any_mapped f p [] = refl
any_mapped f p (x ∷ xs) = ap (λ (b : Bool). p (f x) || b) (any_mapped f p xs)
