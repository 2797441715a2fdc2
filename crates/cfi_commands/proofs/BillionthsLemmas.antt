-- The digits of a number with decimals, one part after the other.
use Rattle.std.proofs.Common.{◌≡◌, ◌∙◌, ◌≤◌, ◌&&◌, ℕ, true, refl, ap, ap₂, arith, cond, length, drop, nat_le, codes, List, [], ◌∷◌, ◌++◌, Option, Some, None}
use Rattle.std.specs.Option.{option_and_then}
use Rattle.cfi_flame.specs.Decimals.{decimal_from, decimal_of, with_digit}
use Rattle.cfi_commands.specs.Billionths.{in_billionths}

-- the digits of two parts
in_two : (n : ℕ) (first more : List ℕ) → decimal_from n (first ++ more) ≡ option_and_then (λ (m : ℕ). decimal_from m more) (decimal_from n first)
in_two n [] more = refl
in_two n (digit ∷ digits) more = go (with_digit n digit) (λ m. in_two m digits more)
  where
    go : (o : Option ℕ) → ((m : ℕ) → decimal_from m (digits ++ more) ≡ option_and_then (λ (k : ℕ). decimal_from k more) (decimal_from m digits))
        → option_and_then (λ (m : ℕ). decimal_from m (digits ++ more)) o ≡ option_and_then (λ (m : ℕ). decimal_from m more) (option_and_then (λ (m : ℕ). decimal_from m digits) o)
    go None after = refl
    go (Some m) after = after m

-- and of three, where there is a first one
abbrev pub in_turn : List ℕ → List ℕ → List ℕ → Option ℕ
in_turn first second third = option_and_then (λ (n : ℕ). decimal_from n third) (option_and_then (λ (m : ℕ). decimal_from m second) (decimal_from 0 first))

in_three : (first second third : List ℕ) → 1 ≤ length first → decimal_of (first ++ second ++ third) ≡ in_turn first second third
in_three [] second third le = absurd (omega arith)
in_three (digit ∷ digits) second third le =
    in_two 0 ((digit ∷ digits) ++ second) third ∙ ap (option_and_then (λ (n : ℕ). decimal_from n third)) (in_two 0 (digit ∷ digits) second)

abbrev pub zeros : List ℕ → List ℕ
zeros decimals = drop (length decimals) (codes "000000000")

-- a number by its parts
pub by_parts : (whole decimals : List ℕ) → 1 ≤ length whole → nat_le 1 (length whole) ≡ true → nat_le (length decimals) 9 ≡ true → in_billionths whole decimals ≡ in_turn whole decimals (zeros decimals)
by_parts whole decimals some first second =
    ap₂ (λ b c. cond (b && c) (decimal_of (whole ++ decimals ++ zeros decimals)) None) first second ∙ in_three whole decimals (zeros decimals) some

-- no digit, or none that counts
pub no_first : (first second third : List ℕ) → decimal_from 0 first ≡ None → in_turn first second third ≡ None
no_first first second third e = ap (λ (o : Option ℕ). option_and_then (λ (n : ℕ). decimal_from n third) (option_and_then (λ (m : ℕ). decimal_from m second) o)) e

pub no_second : (first second third : List ℕ) (m : ℕ) → decimal_from 0 first ≡ Some m → decimal_from m second ≡ None → in_turn first second third ≡ None
no_second first second third m e f =
    ap (λ (o : Option ℕ). option_and_then (λ (n : ℕ). decimal_from n third) (option_and_then (λ (m : ℕ). decimal_from m second) o)) e ∙ ap (option_and_then (λ (n : ℕ). decimal_from n third)) f

pub all_parts : (first second third : List ℕ) (m n : ℕ) → decimal_from 0 first ≡ Some m → decimal_from m second ≡ Some n → in_turn first second third ≡ decimal_from n third
all_parts first second third m n e f =
    ap (λ (o : Option ℕ). option_and_then (λ (n : ℕ). decimal_from n third) (option_and_then (λ (m : ℕ). decimal_from m second) o)) e ∙ ap (option_and_then (λ (n : ℕ). decimal_from n third)) f
