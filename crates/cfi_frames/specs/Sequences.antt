-- What comes of the items of a list, one after the other.
--     AreOfAll IsOf items found      this comes of the items, by what comes of each
use Rattle.std.specs.Prelude.{◌≡◌, List, [], ◌∷◌, ◌++◌}

module _ {X A : Type 0} (IsOf : X → List A → Type 0) where
  abbrev pub AreOfAll : List X → List A → Type 0
  AreOfAll [] found = found ≡ []
  AreOfAll (x ∷ items) found =
      (first : List A) × (others : List A) × IsOf x first × AreOfAll items others
      × (found ≡ first ++ others)
