-- What a search by halving comes to: a boundary row, or the error of a row's start, within the steps of halving.
use Rattle.std.proofs.Common.{◌≡◌, ◌≤◌, ◌<◌, ◌+◌, ◌-◌, ◌/◌, ◌^◌, ℕ, zero, suc, Result, Ok, Err, Bool, true, false, refl, arith, inl, inr, ⊎_elim}
use Rattle.std.specs.Prelude.{◌⊎◌, IsOkAnd, IfOk, IfErr, nat_eq, nat_lt, nat_le, if◌then◌else◌}
use Rattle.std.proofs.Math.Nat.{two-pow-succ}
use borrow.Author.Tests.{leb-true, leb-false, eqb-true, eqb-false, ltb-true, ltb-false}
use Rattle.cfi_read_core.specs.declared.error.Error.{Error}
use Rattle.gimli_cfi.specs.BoundaryRows.{IsBoundaryRow, IsRefusalOfRow}
use Rattle.gimli_cfi.specs.Halving.{Search, search, search_in, by_start, one_read, ends_at}
use Rattle.gimli_cfi.specs.HalvingSteps.{steps}
use Rattle.gimli_cfi.proofs.StepsLemmas.{steps_reach}

-- the rows from first on, len of them, have a boundary row among them
record IsNarrowed (start : ℕ → Result ℕ Error) (count address first len : ℕ) : Type 0 where
  pub some : 0 < len
  pub inside : first + len ≤ count
  pub from : (first ≡ 0) ⊎ IsOkAnd (start first) (λ s. s ≤ address)
  pub up_to : (first + len ≡ count) ⊎ IsOkAnd (start (first + len)) (λ s. address < s)

-- what a search that may read `left` starts comes to
pub record IsSound (start : ℕ → Result ℕ Error) (count address left : ℕ) (s : Search) : Type 0 where
  pub found : IfOk s.found (IsBoundaryRow start count address)
  pub refused : IfErr s.found (IsRefusalOfRow start count)
  pub few : s.reads ≤ left

narrowed_whole : (start : ℕ → Result ℕ Error) (count address : ℕ) → 1 ≤ count → IsNarrowed start count address 0 count
narrowed_whole start count address h = record { some = omega arith; inside = omega arith; from = inl refl; up_to = inl (omega arith) }

module _ (start : ℕ → Result ℕ Error) (count address first len : ℕ) (rows : IsNarrowed start count address first len) where
  -- one row is left
  boundary_left : len ≤ 1 → IsBoundaryRow start count address first
  boundary_left one =
      let single : len ≡ 1 = omega (arith, rows.some) in
      record { inside = omega (arith, rows.some, rows.inside); from = rows.from; up_to = ⊎_elim (λ last. inl (inl last)) inr (rw single at rows.up_to) }

  module _ (half s : ℕ) (is : start (first + half) ≡ Ok s) where
    -- a row after the first one starts below the address
    narrowed_above : half < len → s < address → IsNarrowed start count address (first + half) (len - half)
    narrowed_above less below =
        let upper : first + len ≡ first + half + (len - half) = omega arith in
        record { some = omega arith; inside = omega (arith, rows.inside); from = inr (rw is (omega arith)); up_to = rw upper at rows.up_to }

    -- it starts above the address
    narrowed_below : 0 < half → half < len → address < s → IsNarrowed start count address first half
    narrowed_below some less above = record { some = some; inside = omega (arith, rows.inside); from = rows.from; up_to = inr (rw is above) }

    -- it starts at the address
    boundary_at : half < len → s ≡ address → IsBoundaryRow start count address (first + half)
    boundary_at less same = record { inside = omega (arith, rows.inside); from = inr (rw is (omega arith)); up_to = inl (inr (rw same at is)) }

-- a start is read before
read_before : (start : ℕ → Result ℕ Error) (count address left : ℕ) (s : Search) → IsSound start count address left s → IsSound start count address (suc left) (one_read s)
read_before start count address left s sound = record { found = sound.found; refused = sound.refused; few = omega (arith, sound.few) }

-- Where what follows a turn is sound, that turn is.
module _ (start : ℕ → Result ℕ Error) (count address turns : ℕ)
    (again : (first len left : ℕ) → IsNarrowed start count address first len → len ≤ turns → len ≤ 2 ^ left → IsSound start count address left (search_in turns start address first len))
    (first len : ℕ) (rows : IsNarrowed start count address first len) (enough : len ≤ suc turns) (more : 1 < len) where
  by_order : (left s : ℕ) → start (first + len / 2) ≡ Ok s → len ≤ 2 ^ suc left → (s ≡ address → ⊥) → (t : Bool) → nat_lt s address ≡ t →
      IsSound start count address left (if t then search_in turns start address (first + len / 2) (len - len / 2) else search_in turns start address first (len / 2))
  by_order left s is within other true is_below =
      let within' : len ≤ 2 ^ left + 2 ^ left = rw two-pow-succ at within in
      again (first + len / 2) (len - len / 2) left (narrowed_above start count address first len rows (len / 2) s is (omega arith) (ltb-true s address is_below))
      (omega arith) (omega arith)
  by_order left s is within other false is_above =
      let within' : len ≤ 2 ^ left + 2 ^ left = rw two-pow-succ at within in
      let above : address ≤ s = ltb-false s address is_above in
      again first (len / 2) left (narrowed_below start count address first len rows (len / 2) s is (omega arith) (omega arith) (omega (arith, above, other)))
      (omega arith) (omega arith)

  by_equal : (left s : ℕ) → start (first + len / 2) ≡ Ok s → len ≤ 2 ^ suc left → (t : Bool) → nat_eq s address ≡ t →
      IsSound start count address left
      (if t then ends_at (Ok (first + len / 2))
      else if nat_lt s address then search_in turns start address (first + len / 2) (len - len / 2) else search_in turns start address first (len / 2))
  by_equal left s is within true same =
      record { found = boundary_at start count address first len rows (len / 2) s is (omega arith) (eqb-true s address same); refused = tt; few = omega arith }
  by_equal left s is within false other = by_order left s is within (eqb-false s address other) (nat_lt s address) refl

  by_result : (left : ℕ) → len ≤ 2 ^ suc left → (r : Result ℕ Error) → start (first + len / 2) ≡ r →
      IsSound start count address left (by_start r address first len (len / 2) (search_in turns start address))
  by_result left within (Err e) is = record { found = tt; refused = (first + len / 2, omega (arith, rows.inside), is); few = omega arith }
  by_result left within (Ok s) is = by_equal left s is within (nat_eq s address) refl

  by_left : (left : ℕ) → len ≤ 2 ^ left →
      IsSound start count address left (one_read (by_start (start (first + len / 2)) address first len (len / 2) (search_in turns start address)))
  by_left zero within = absurd (omega arith)
  by_left (suc left) within = read_before start count address left _ (by_result left within (start (first + len / 2)) refl)

-- one turn, by how many rows are left
by_length : (start : ℕ → Result ℕ Error) (count address turns : ℕ)
    (again : (first len left : ℕ) → IsNarrowed start count address first len → len ≤ turns → len ≤ 2 ^ left → IsSound start count address left (search_in turns start address first len))
    (first len left : ℕ) → IsNarrowed start count address first len → len ≤ suc turns → len ≤ 2 ^ left → (t : Bool) → nat_le len 1 ≡ t →
    IsSound start count address left
    (if t then ends_at (Ok first) else one_read (by_start (start (first + len / 2)) address first len (len / 2) (search_in turns start address)))
by_length start count address turns again first len left rows enough within true one =
    record { found = boundary_left start count address first len rows (leb-true len 1 one); refused = tt; few = omega arith }
by_length start count address turns again first len left rows enough within false more =
    by_left start count address turns again first len rows enough (leb-false len 1 more) left within

sound_in : (turns : ℕ) (start : ℕ → Result ℕ Error) (count address first len left : ℕ) → IsNarrowed start count address first len → len ≤ turns → len ≤ 2 ^ left →
    IsSound start count address left (search_in turns start address first len)
unfolding search_in
sound_in zero start count address first len left rows enough within = absurd (omega (arith, rows.some))
sound_in (suc turns) start count address first len left rows enough within =
    by_length start count address turns (sound_in turns start count address) first len left rows enough within (nat_le len 1) refl

pub search_is_sound : (start : ℕ → Result ℕ Error) (count address : ℕ) → 1 ≤ count → IsSound start count address (steps count) (search start count address)
search_is_sound start count address some = sound_in count start count address 0 count (steps count) (narrowed_whole start count address some) (omega arith) (steps_reach count)
