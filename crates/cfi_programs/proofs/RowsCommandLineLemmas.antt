-- What the words mean.
use Rattle.std.proofs.Common.{◌≡◌, ℕ, ◌-◌, ◌<◌, ◌≤◌, List, [], ◌∷◌, length, take, drop, get_or, Option, None, refl, ap, arith, Bor}
use Rattle.std.proofs.Math.Seq.{take-length}
use Rattle.std.specs.Option.{option_and_then}
use Rattle.cfi_text.specs.WordTexts.{texts}
use Rattle.cfi_programs.specs.RowsCommandLine.{request_of, first_four_words, option_words}
use Rattle.cfi_programs.specs.declared.rows.command_line.Request.{Request}

pub too_few : (words : List (Bor (List ℕ))) → length words < 4 → None ≡ request_of (texts words)
unfolding request_of
too_few [] h = refl
too_few (a ∷ []) h = refl
too_few (a ∷ b ∷ []) h = refl
too_few (a ∷ b ∷ c ∷ []) h = refl
too_few (a ∷ b ∷ c ∷ d ∷ words) h = absurd (omega arith)

all_taken : {A : Type 0} (n : ℕ) (xs : List A) → n ≡ length xs → take n xs ≡ xs
all_taken n xs e = rw e (take-length xs)

abbrev of_four : Bor (List ℕ) → List (Bor (List ℕ)) → Option Request
of_four d words = first_four_words (get_or words 0 d).now (get_or words 1 d).now (get_or words 2 d).now (get_or words 3 d).now

pub four : (d : Bor (List ℕ)) (words : List (Bor (List ℕ))) → 4 ≤ length words →
    option_and_then (option_words (texts (take (length words - 4) (drop 4 words)))) (of_four d words) ≡ request_of (texts words)
unfolding request_of
four d [] h = absurd (omega arith)
four d (a ∷ []) h = absurd (omega arith)
four d (a ∷ b ∷ []) h = absurd (omega arith)
four d (a ∷ b ∷ c ∷ []) h = absurd (omega arith)
four d (a ∷ b ∷ c ∷ e ∷ words) h =
    ap (λ xs. option_and_then (option_words (texts xs)) (first_four_words a.now b.now c.now e.now)) (all_taken (length (a ∷ b ∷ c ∷ e ∷ words) - 4) words (omega arith))
