-- A list of bytes with a part put in place of what was there.
use Rattle.std.proofs.Common.{◌≡◌, ◌∙◌, ◌≤◌, ◌+◌, ◌-◌, ℕ, List, ◌++◌, length, take, drop, refl, sym, ap, arith, append_assoc, length-append, length-drop, subst}
use Rattle.std.proofs.lemmas.List.{drop-append-le, drop-drop, length-take-le, take-append-le, take-take, take-append-drop}
use Rattle.std.proofs.Math.Seq.{drop-append-add, drop-append_seam, take-append_seam}

-- these bytes from the offset on
abbrev pub spliced : List ℕ → ℕ → List ℕ → List ℕ
spliced bytes offset part = take offset bytes ++ (part ++ drop (offset + length part) bytes)

pub spliced_length : (bytes : List ℕ) (o : ℕ) (xs : List ℕ) → o + length xs ≤ length bytes → length (spliced bytes o xs) ≡ length bytes
spliced_length bytes o xs h =
    simp (length-append, length-drop) (omega (arith, length-take-le o bytes (omega arith)))

drop_before : (o : ℕ) (front others : List ℕ) (i : ℕ) → length front ≡ o → i ≡ o → drop i (front ++ others) ≡ others
drop_before o front others i e e' = subst (λ (n : ℕ). drop n (front ++ others) ≡ others) (e ∙ sym e') (drop-append_seam front others)

pub spliced_part : (bytes : List ℕ) (o : ℕ) (xs : List ℕ) → o + length xs ≤ length bytes → take (length xs) (drop o (spliced bytes o xs)) ≡ xs
spliced_part bytes o xs h =
    rw (drop_before o (take o bytes) (xs ++ drop (o + length xs) bytes) o (length-take-le o bytes (omega arith)) refl) (take-append_seam xs (drop (o + length xs) bytes))

pub spliced_front : (bytes : List ℕ) (o : ℕ) (xs : List ℕ) (n : ℕ) → o + length xs ≤ length bytes → n ≤ o → take n (spliced bytes o xs) ≡ take n bytes
spliced_front bytes o xs n h below =
    take-append-le n (take o bytes) (xs ++ drop (o + length xs) bytes) (omega (arith, length-take-le o bytes (omega arith)))
    ∙ take-take n o bytes below

-- a part of the beginning is one of the whole
pub front_part : (front others : List ℕ) (i n : ℕ) → i + n ≤ length front → take n (drop i (front ++ others)) ≡ take n (drop i front)
front_part front others i n h =
    ap (λ (l : List ℕ). take n l) (drop-append-le i front others (omega arith))
    ∙ take-append-le n (drop i front) others (omega (arith, length-drop i front))

pub spliced_before : (bytes : List ℕ) (o : ℕ) (xs : List ℕ) (i n : ℕ) → o + length xs ≤ length bytes → i + n ≤ o → take n (drop i (spliced bytes o xs)) ≡ take n (drop i bytes)
spliced_before bytes o xs i n h before =
    let within : i + n ≤ length (take o bytes) = omega (arith, length-take-le o bytes (omega arith)) in
    front_part (take o bytes) (xs ++ drop (o + length xs) bytes) i n within
    ∙ (sym (front_part (take o bytes) (drop o bytes) i n within) ∙ ap (λ (l : List ℕ). take n (drop i l)) (take-append-drop o bytes))

drop_behind : (front others : List ℕ) (i k : ℕ) → i ≡ length front + k → drop i (front ++ others) ≡ drop k others
drop_behind front others i k e = subst (λ (n : ℕ). drop n (front ++ others) ≡ drop k others) (sym e) (drop-append-add front others k)

pub spliced_after : (bytes : List ℕ) (o : ℕ) (xs : List ℕ) (i : ℕ) → o + length xs ≤ length bytes → o + length xs ≤ i → drop i (spliced bytes o xs) ≡ drop i bytes
spliced_after bytes o xs i h after =
    let end = o + length xs in
    let fits : o ≤ length bytes = omega arith in
    let size : length (take o bytes ++ xs) ≡ end = length-append (take o bytes) xs ∙ ap (λ (n : ℕ). n + length xs) (length-take-le o bytes fits) in
    let k = i - end in
    let reached : i ≡ length (take o bytes ++ xs) + k = omega (arith, size) in
    ap (λ (l : List ℕ). drop i l) (sym (append_assoc (take o bytes) xs (drop end bytes)))
    ∙ (drop_behind (take o bytes ++ xs) (drop end bytes) i k reached
    ∙ (drop-drop k end bytes ∙ ap (λ (n : ℕ). drop n bytes) (omega arith)))
