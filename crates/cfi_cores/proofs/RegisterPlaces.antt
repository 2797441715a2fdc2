-- The places of the registers of x86-64 in a core file, one by one.
use Rattle.std.proofs.Common.{◌≡◌, ◌≤◌, ℕ, zero, suc, List, [], ◌∷◌, length, map, Option, Some, None, refl, arith}
use Rattle.std.specs.List.{slice_get}
use Rattle.std.specs.Option.{option_and_then}
use Rattle.cfi_processes.specs.Registers.{place_of_name, x86_64_by_dwarf}
use Rattle.cfi_cores.specs.CoreRegisters.{core_place_x86_64, x86_64_in_cores}

-- what comes of the element at an index, by the list of what comes of each
of_each : {A : Type 0} (f : A → Option ℕ) (xs : List A) (ys : List ℕ) → map f xs ≡ map Some ys → (k : ℕ) → option_and_then f (slice_get xs k) ≡ slice_get ys k
of_each f [] [] e k = refl
of_each f [] (y ∷ ys) e k = absurd (cc)
of_each f (x ∷ xs) [] e k = absurd (cc)
of_each f (x ∷ xs) (y ∷ ys) e zero = cc
of_each f (x ∷ xs) (y ∷ ys) e (suc k) = let rest : map f xs ≡ map Some ys = cc in of_each f xs ys rest k

abbrev pub places : List ℕ
places = 10 ∷ 12 ∷ 11 ∷ 5 ∷ 13 ∷ 14 ∷ 4 ∷ 19 ∷ 9 ∷ 8 ∷ 7 ∷ 6 ∷ 3 ∷ 2 ∷ 1 ∷ 0 ∷ 16 ∷ []

each_place : map (place_of_name x86_64_in_cores) x86_64_by_dwarf ≡ map Some places
each_place = refl

pub by_number : (k : ℕ) → core_place_x86_64 k ≡ slice_get places k
unfolding core_place_x86_64
by_number k = of_each (place_of_name x86_64_in_cores) x86_64_by_dwarf places each_place k

pub past_the_end : (xs : List ℕ) (k : ℕ) → length xs ≤ k → slice_get xs k ≡ None
past_the_end [] k past = refl
past_the_end (x ∷ xs) zero past = absurd (omega (arith, past))
past_the_end (x ∷ xs) (suc k) past = past_the_end xs k (omega (arith, past))
