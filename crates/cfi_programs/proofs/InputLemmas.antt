-- What is read of the input.
use Rattle.std.proofs.Common.{◌≡◌, ◌≢◌, ◌⊎◌, inl, inr, ℕ, ◌+◌, ◌<◌, ◌≤◌, Bool, true, false, List, [], length, take, drop, get_or, Option, Some, None, Result, Ok, Err, refl, sym, ap, ◌∙◌, arith, add-one, nat_lt}
use Rattle.std.specs.Result.{IsErr}
use Rattle.std.proofs.Math.Seq.{drop-cons}
use Rattle.std.proofs.lemmas.Bool.Decides.{nat_tests}
use Rattle.std.proofs.lemmas.List.{drop_all, get_or-take, length-take-le}
use Rattle.std.proofs.lemmas.List.Sums.{passes_at_first, position_or_len_is}
use Rattle.std.specs.List.{All, after_first, position_or_len}
use Rattle.hex.specs.declared.error.FromHexError.{FromHexError}
use Rattle.hex.specs.declared.error.FromHexError.TheVariants as errors
use Rattle.cfi_text.specs.declared.reading.InputError.{InputError}
use Rattle.cfi_text.specs.declared.reading.InputError.TheVariants.{Unreadable, NotHexadecimal, OutOfMemory}
use Rattle.cfi_programs.specs.Input.{IsDecoded, bytes_by, decoded_bytes, is_line_feed, refusal_of, with_header}

-- ---- two parts

at_place : (xs : List ℕ) (n : ℕ) (b : Bool) → nat_lt n (length xs) ≡ b → (n < length xs → is_line_feed (get_or xs n 0) ≡ true) → decoded_bytes (drop n xs) ≡ decoded_bytes (drop (n + 1) xs)
at_place xs n true e is =
    let inside : n < length xs = grind (arith, nat_tests) in
    let found : is_line_feed (get_or xs n 0) ≡ true = is inside in
    let feed : get_or xs n 0 ≡ 10 = grind (arith, nat_tests) in
    rw (drop-cons xs n 0 inside, feed, add-one) refl
at_place xs n false e is =
    let outside : length xs ≤ n = grind (arith, nat_tests) in
    ap decoded_bytes (drop_all n xs outside ∙ sym (drop_all (n + 1) xs (omega arith)))

-- what stands after the first line means the same with its line feed
pub behind_line : (input : List ℕ) → decoded_bytes (drop (position_or_len is_line_feed input) input) ≡ decoded_bytes (after_first is_line_feed input)
behind_line input = at_place input (position_or_len is_line_feed input) _ refl (λ inside. passes_at_first is_line_feed input 0 inside)

pub line_end : (xs : List ℕ) (n : ℕ) → n ≤ length xs → All (λ byte. byte ≢ 10) (take n xs) → (n < length xs → get_or xs n 0 ≡ 10) → position_or_len is_line_feed xs ≡ n
line_end xs n le before found =
    position_or_len_is is_line_feed xs n 0 le
    (λ k h.
    let other : get_or xs k 0 ≢ 10 = rw get_or-take at (before k 0 (omega (arith, length-take-le n xs le))) in
    grind (arith, nat_tests))
    (λ h. let feed : get_or xs n 0 ≡ 10 = found h in grind (arith, nat_tests))

-- ---- what comes of the parts

-- without a header the text is the section
pub whole_read : (header : Option ℕ) (text section headed : List ℕ) → header ≡ None → decoded_bytes text ≡ Ok section → headed ≡ [] → bytes_by header text ≡ Some (record { section = section; header = headed })
whole_read header text section headed none read empty = rw (none, read, empty) refl

no_bytes : (section header : Result (List ℕ) FromHexError) → IsErr section → with_header section header ≡ None
no_bytes (Ok section) header err = cc
no_bytes (Err e) header err = refl

-- why a text is not decoded
abbrev pub IsRefusedAs : List ℕ → InputError → Type 0
IsRefusedAs text e = (e ≡ OutOfMemory) ⊎ ((e ≡ NotHexadecimal) × IsErr (decoded_bytes text))

pub whole_refused : (header : Option ℕ) (text : List ℕ) (e : InputError) → header ≡ None → IsRefusedAs text e → IsDecoded header text (Err e)
whole_refused header text e none (inl memory) = rw memory tt
whole_refused header text e none (inr (digits, err)) = rw (digits, none) (no_bytes (decoded_bytes text) (Ok []) err)

pub not_unreadable : (text : List ℕ) (e : InputError) → IsRefusedAs text e → e ≢ Unreadable
not_unreadable text e (inl memory) is = cc
not_unreadable text e (inr (digits, err)) is = cc

pub refused_as : (text : List ℕ) (e : FromHexError) → (e ≡ errors.OutOfMemory) ⊎ (decoded_bytes text ≡ Err e) → IsRefusedAs text (refusal_of e)
refused_as text errors.OutOfMemory why = inl refl
refused_as text (errors.InvalidHexCharacter c i) (inl memory) = cc
refused_as text (errors.InvalidHexCharacter c i) (inr is) = inr (refl, rw is refl)
refused_as text errors.OddLength (inl memory) = cc
refused_as text errors.OddLength (inr is) = inr (refl, rw is refl)
refused_as text errors.InvalidStringLength (inl memory) = cc
refused_as text errors.InvalidStringLength (inr is) = inr (refl, rw is refl)
