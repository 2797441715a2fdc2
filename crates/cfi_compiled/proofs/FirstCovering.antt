-- Which FDE contains an address, whatever the order in which they are kept.
use Rattle.std.proofs.Common.{◌≡◌, ℕ, ◌<◌, ◌≤◌, Bool, true, false, cond, ◌&&◌, List, [], ◌∷◌, ltb, leb, Option, Some, None, Result, Ok, Err, refl, ap, ◌∙◌, inl, inr, arith}
use Rattle.std.specs.Prelude.{◌⊎◌, if◌then◌else◌}
use Rattle.std.proofs.lemmas.Bool.{cases_lt, lt-ltb, le-ltb, lt-leb, le-leb, leb-true, ltb-true, ltb-false, and_parts}
use Rattle.cfi_read_core.specs.declared.error.Error.{Error}
use Rattle.cfi_entry.specs.Fdes.{Fde, covers, end_of}
use Rattle.cfi_unwind.specs.Scan.{first_covering}
use Rattle.cfi_compiled.specs.CoveringFdes.{covering, outside, first_of}

-- ---- whether an FDE contains an address

pub covered : (fde : Fde) (a : ℕ) → fde.initial ≤ a → a < end_of fde → covers fde a ≡ true
covered fde a from to = ap (λ b. b && ltb a (end_of fde)) (le-leb fde.initial a from) ∙ lt-ltb a (end_of fde) to

pub before_it : (fde : Fde) (a : ℕ) → a < fde.initial → covers fde a ≡ false
before_it fde a before = ap (λ b. b && ltb a (end_of fde)) (lt-leb fde.initial a before)

pub after_it : (fde : Fde) (a : ℕ) → end_of fde ≤ a → covers fde a ≡ false
after_it fde a after = no_end (leb fde.initial a) _ (le-ltb a (end_of fde) after)
  where
    no_end : (b c : Bool) → c ≡ false → (b && c) ≡ false
    no_end true c is = is
    no_end false c is = refl

pub inside_of : (fde : Fde) (a : ℕ) → covers fde a ≡ true → (fde.initial ≤ a) × (a < end_of fde)
inside_of fde a is = let parts = and_parts _ _ is in (leb-true fde.initial a parts.0, ltb-true a (end_of fde) parts.1)

-- ---- what the entries give

covering_step : (a : ℕ) (fde : Fde) (readings : List (Result Fde Error)) (refusal : Option Error) (b : Bool) → ltb fde.initial (end_of fde) ≡ b →
    first_covering a readings refusal ≡ first_of a (covering readings) (Err (outside readings refusal)) →
    (if covers fde a then Ok fde else first_covering a readings refusal) ≡ first_of a (cond b (fde ∷ covering readings) (covering readings)) (Err (outside readings refusal))
covering_step a fde readings refusal true is rest = ap (λ r. if covers fde a then Ok fde else r) rest
covering_step a fde readings refusal false is rest =
    ap (λ b. if b then Ok fde else first_covering a readings refusal) (empty (cases_lt a fde.initial)) ∙ rest
  where
    empty : (a < fde.initial) ⊎ (fde.initial ≤ a) → covers fde a ≡ false
    empty (inl before) = before_it fde a before
    empty (inr from) = let ends : end_of fde ≤ fde.initial = ltb-false _ _ is in after_it fde a (omega arith)

-- the first that covers the address is among those that contain one
pub first_covering_is : (a : ℕ) (readings : List (Result Fde Error)) (refusal : Option Error) → first_covering a readings refusal ≡ first_of a (covering readings) (Err (outside readings refusal))
unfolding first_covering
first_covering_is a [] None = refl
first_covering_is a [] (Some e) = refl
first_covering_is a (Err e ∷ readings) refusal = refl
first_covering_is a (Ok fde ∷ readings) refusal = covering_step a fde readings refusal (ltb fde.initial (end_of fde)) refl (first_covering_is a readings refusal)
