-- The texts of names, and those of the first of several.
use Rattle.std.proofs.Common.{◌≡◌, ℕ, ◌+◌, ◌<◌, List, [], ◌∷◌, ◌++◌, suc, length, take, drop, get_or, add-one, drop-cons, sym, ◌∙◌, ap, map}
use Rattle.std.proofs.Math.Seq.{take-suc}
use Rattle.std.proofs.lemmas.List.{map-append, take-append-drop}
use Rattle.std.specs.Borrow.{Bor}
use Rattle.clap.specs.Words.{Text}

abbrev pub text_of : Bor (List ℕ) → Text
text_of word = word.now

module _ {X Y : Type 0} (f : X → Y) where
  pub names_more : (files : List X) (i : ℕ) (d : X) → i < length files → map f (take (i + 1) files) ≡ map f (take i files) ++ f (get_or files i d) ∷ []
  names_more files i d h = rw add-one (ap (map f) (take-suc files i d h) ∙ map-append f (take i files) (get_or files i d ∷ []))

  pub names_cut : (files : List X) (i : ℕ) → map f files ≡ map f (take i files) ++ map f (drop i files)
  names_cut files i = ap (map f) (sym (take-append-drop i files)) ∙ map-append f (take i files) (drop i files)

  pub names_at : (files : List X) (i : ℕ) (d : X) → i < length files → map f files ≡ map f (take i files) ++ f (get_or files i d) ∷ map f (drop (suc i) files)
  names_at files i d h = names_cut files i ∙ ap (λ rest. map f (take i files) ++ map f rest) (drop-cons files i d h)

  pub names_after : (files : List X) (i : ℕ) (d : X) → i < length files → map f files ≡ (map f (take i files) ++ f (get_or files i d) ∷ []) ++ map f (drop (i + 1) files)
  names_after files i d h = names_cut files (i + 1) ∙ ap (λ front. front ++ map f (drop (i + 1) files)) (names_more files i d h)
