-- The frames of a stack, one after the other.
use Rattle.std.proofs.Common.{◌≡◌, ◌∙◌, ℕ, ◌+◌, ◌<◌, List, [], ◌∷◌, ◌++◌, length, get_or, drop, map, add-one, refl, sym, ap, append_assoc, append-nil}
use Rattle.std.proofs.Math.Seq.{drop-cons}
use Rattle.std.proofs.lemmas.List.{map_push}

-- one more item of a sequence is taken, whose view is that of what was pushed
pub one_made : {X T V : Type 0} (view : T → V) (make : X → V) (before next : List T) (made : T) (x : X) (left rest : List X) (all : List V) → left ≡ x ∷ rest → next ≡ before ++ made ∷ [] → view made ≡ make x
    → map view before ++ map make left ≡ all → map view next ++ map make rest ≡ all
one_made view make before next made x left rest all first more is so =
    ap (λ front. map view front ++ map make rest) more
    ∙ ap (λ front. front ++ map make rest) (map_push view before made ∙ ap (λ v. map view before ++ v ∷ []) is)
    ∙ append_assoc (map view before) (make x ∷ []) (map make rest)
    ∙ ap (λ behind. map view before ++ map make behind) (sym first)
    ∙ so

pub left_at : {X : Type 0} (xs : List X) (i : ℕ) (d : X) → i < length xs → drop i xs ≡ get_or xs i d ∷ drop (i + 1) xs
left_at xs i d inside = rw (drop-cons xs i d, add-one) refl

-- none is left
pub all_made : {X V : Type 0} (make : X → V) (before all : List V) (left : List X) → left ≡ [] → before ++ map make left ≡ all → before ≡ all
all_made make before all left none so = sym (append-nil before) ∙ ap (λ behind. before ++ map make behind) (sym none) ∙ so
