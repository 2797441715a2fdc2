-- perf's numbers of the registers of x86-64, one by one.
use Rattle.std.proofs.Common.{◌≡◌, ◌≤◌, ℕ, zero, suc, List, [], ◌∷◌, length, map, Option, Some, None, refl, arith}
use Rattle.std.specs.List.{slice_get}
use Rattle.std.specs.Option.{option_and_then}
use Rattle.cfi_processes.specs.Registers.{perf_number_x86_64, place_of_name, x86_64_by_dwarf, x86_64_by_perf}

-- what comes of the element at an index, by the list of what comes of each
of_each : {A : Type 0} (f : A → Option ℕ) (xs : List A) (ys : List ℕ) → map f xs ≡ map Some ys → (k : ℕ) → option_and_then f (slice_get xs k) ≡ slice_get ys k
of_each f [] [] e k = refl
of_each f [] (y ∷ ys) e k = absurd (cc)
of_each f (x ∷ xs) [] e k = absurd (cc)
of_each f (x ∷ xs) (y ∷ ys) e zero = cc
of_each f (x ∷ xs) (y ∷ ys) e (suc k) = let rest : map f xs ≡ map Some ys = cc in of_each f xs ys rest k

abbrev pub numbers : List ℕ
numbers = 0 ∷ 3 ∷ 2 ∷ 1 ∷ 4 ∷ 5 ∷ 6 ∷ 7 ∷ 16 ∷ 17 ∷ 18 ∷ 19 ∷ 20 ∷ 21 ∷ 22 ∷ 23 ∷ 8 ∷ []

each_place : map (place_of_name x86_64_by_perf) x86_64_by_dwarf ≡ map Some numbers
each_place = refl

pub by_number : (k : ℕ) → perf_number_x86_64 k ≡ slice_get numbers k
unfolding perf_number_x86_64
by_number k = of_each (place_of_name x86_64_by_perf) x86_64_by_dwarf numbers each_place k

pub past_the_end : (xs : List ℕ) (k : ℕ) → length xs ≤ k → slice_get xs k ≡ None
past_the_end [] k past = refl
past_the_end (x ∷ xs) zero past = absurd (omega (arith, past))
past_the_end (x ∷ xs) (suc k) past = past_the_end xs k (omega (arith, past))
