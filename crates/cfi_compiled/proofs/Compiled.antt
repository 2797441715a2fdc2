-- The FDE that a table chooses is the one that going through the section chooses.
use Rattle.std.proofs.Common.{◌≡◌, ℕ, ◌+◌, ◌<◌, List, [], ◌∷◌, Bool, true, false, cond, ltb, Result, Ok, Err, refl, sym, ap, ◌∙◌}
use Rattle.std.proofs.lemmas.Bool.{ltb-true}
use Rattle.std.proofs.lemmas.List.Elements.{All-cons, All-nil}
use Rattle.std.specs.List.{All}
use Rattle.cfi_read_core.specs.declared.error.Error.{Error}
use Rattle.cfi_entry.specs.Entries.{entries}
use Rattle.cfi_entry.specs.Fdes.{Fde, end_of}
use Rattle.cfi_entry.specs.Sections.{Section}
use Rattle.cfi_unwind.specs.Scan.{chosen_fde, fde_readings}
use Rattle.cfi_compiled.specs.declared.pieces.Piece.{Piece}
use Rattle.cfi_compiled.specs.CoveringFdes.{covering, first_of, outside}
use Rattle.cfi_compiled.specs.Pieces.{spans_from}
use Rattle.cfi_compiled.proofs.FirstCovering.{first_covering_is}

-- each FDE that is gathered contains an address
contain_step : (i : ℕ) (fde : Fde) (fdes : List Fde) (b : Bool) → ltb fde.initial (end_of fde) ≡ b → ((j : ℕ) → All (λ (p : Piece). p.from < p.to) (spans_from j fdes))
    → All (λ (p : Piece). p.from < p.to) (spans_from i (cond b (fde ∷ fdes) fdes))
contain_step i fde fdes true is rest =
    All-cons (λ (p : Piece). p.from < p.to) (record { from = fde.initial; to = end_of fde; of = i }) (spans_from (i + 1) fdes) (ltb-true fde.initial (end_of fde) is) (rest (i + 1))
contain_step i fde fdes false is rest = rest i

pub covering_contain : (readings : List (Result Fde Error)) (i : ℕ) → All (λ (p : Piece). p.from < p.to) (spans_from i (covering readings))
covering_contain [] i = All-nil (λ (p : Piece). p.from < p.to)
covering_contain (Err e ∷ readings) i = All-nil (λ (p : Piece). p.from < p.to)
covering_contain (Ok fde ∷ readings) i = contain_step i fde (covering readings) (ltb fde.initial (end_of fde)) refl (λ j. covering_contain readings j)

pub chosen_is : (section : Section) (fdes : List Fde) (other : Error) → fdes ≡ covering (fde_readings section) → other ≡ outside (fde_readings section) (entries section).refusal
    → (a : ℕ) → first_of a fdes (Err other) ≡ chosen_fde section a
chosen_is section fdes other is same a =
    ap (λ (l : List Fde). first_of a l (Err other)) is
    ∙ ap (λ (e : Error). first_of a (covering (fde_readings section)) (Err e)) same
    ∙ sym (first_covering_is a (fde_readings section) (entries section).refusal)
