-- Words, one after the other.
use Rattle.std.proofs.Common.{◌≡◌, ℕ, ◌+◌, ◌<◌, ◌≤◌, List, length, drop, get_or, Option, Some, refl, add-one, Bor}
use Rattle.std.proofs.Math.Seq.{drop-cons}
use Rattle.std.proofs.lemmas.List.{drop_all}
use Rattle.std.specs.Option.{option_and_then}
use Rattle.cfi_text.specs.WordTexts.{texts}
use Rattle.cfi_programs.specs.Words.{each_word}

pub one_more : {A : Type 0} (read : List ℕ → A → Option A) (d : Bor (List ℕ)) (words : List (Bor (List ℕ))) (i : ℕ) (a : A) → i < length words →
    each_word read (texts (drop i words)) a ≡ option_and_then (each_word read (texts (drop (i + 1) words))) (read (get_or words i d).now a)
unfolding each_word
one_more read d words i a h = rw (drop-cons words i d, add-one) refl

pub none_more : {A : Type 0} (read : List ℕ → A → Option A) (words : List (Bor (List ℕ))) (i : ℕ) (a : A) → length words ≤ i → each_word read (texts (drop i words)) a ≡ Some a
unfolding each_word
none_more read words i a h = rw drop_all refl
