-- FDEs that are taken piece by piece.
use Rattle.std.proofs.Common.{◌≡◌, ℕ, suc, ◌+◌, ◌-◌, ◌<◌, ◌≤◌, Bool, true, false, cond, List, [], ◌∷◌, length, get_or, Option, Some, None, Result, Ok, refl, sym, ap, subst, ◌∙◌, ⊎_elim, arith}
use Rattle.std.proofs.lemmas.Bool.{cases_lt}
use Rattle.cfi_read_core.specs.declared.error.Error.{Error}
use Rattle.cfi_entry.specs.Fdes.{Fde, covers, end_of}
use Rattle.cfi_compiled.specs.declared.pieces.Piece.{Piece}
use Rattle.cfi_compiled.specs.FrameParts.{FrameParts}
use Rattle.cfi_compiled.specs.CoveringFdes.{first_of}
use Rattle.cfi_compiled.specs.Pieces.{owner, Ascend, spans_from}
use Rattle.cfi_compiled.proofs.FirstCovering.{inside_of}
use Rattle.cfi_compiled.proofs.Overlay.{owner_below, owner_in, owner_past}

-- the first FDE with the address is the one of this number
pub record Found (fdes : List Fde) (other : Result Fde Error) (a i k : ℕ) : Type 0 where
  pub at : ℕ
  pub is : k ≡ i + at
  pub within : at < length fdes
  pub covered : (d : Fde) → covers (get_or fdes at d) a ≡ true
  pub first : (d : Fde) → first_of a fdes other ≡ Ok (get_or fdes at d)

module _ (other : Result Fde Error) (a : ℕ) where
  found_step : (i k : ℕ) (fde : Fde) (fdes : List Fde) (b : Bool) → covers fde a ≡ b → owner a (spans_from i (fde ∷ fdes)) ≡ Some k
      → (owner a (spans_from (i + 1) fdes) ≡ Some k → Found fdes other a (i + 1) k) → Found (fde ∷ fdes) other a i k
  found_step i k fde fdes true is owned later =
      let here : owner a (spans_from i (fde ∷ fdes)) ≡ Some i = ap (λ b. cond b (Some i) (owner a (spans_from (i + 1) fdes))) is in
      let same : ◌≡◌ {A = Option ℕ} (Some i) (Some k) = sym here ∙ owned in
      let number : i ≡ k = cc in
      record {
        at = 0;
        is = omega (arith, number);
        within = omega arith;
        covered = λ d. is;
        first = λ d. ap (λ b. cond b (Ok fde) (first_of a fdes other)) is;
      }
  found_step i k fde fdes false is owned later =
      let rest = later (sym (ap (λ b. cond b (Some i) (owner a (spans_from (i + 1) fdes))) is) ∙ owned) in
      record {
        at = suc rest.at;
        is = omega (arith, rest.is);
        within = omega (arith, rest.within);
        covered = λ d. rest.covered d;
        first = λ d. ap (λ b. cond b (Ok fde) (first_of a fdes other)) is ∙ rest.first d;
      }

  pub found_at : (i k : ℕ) (fdes : List Fde) → owner a (spans_from i fdes) ≡ Some k → Found fdes other a i k
  found_at i k [] owned = absurd (let wrong : ◌≡◌ {A = Option ℕ} None (Some k) = owned in cc)
  found_at i k (fde ∷ fdes) owned = found_step i k fde fdes (covers fde a) refl owned (λ rest. found_at (i + 1) k fdes rest)

  none_step : (i : ℕ) (fde : Fde) (fdes : List Fde) (b : Bool) → covers fde a ≡ b → owner a (spans_from i (fde ∷ fdes)) ≡ None
      → (owner a (spans_from (i + 1) fdes) ≡ None → first_of a fdes other ≡ other) → first_of a (fde ∷ fdes) other ≡ other
  none_step i fde fdes true is owned later =
      let here : owner a (spans_from i (fde ∷ fdes)) ≡ Some i = ap (λ b. cond b (Some i) (owner a (spans_from (i + 1) fdes))) is in
      absurd (let wrong : ◌≡◌ {A = Option ℕ} (Some i) None = sym here ∙ owned in cc)
  none_step i fde fdes false is owned later =
      ap (λ b. cond b (Ok fde) (first_of a fdes other)) is ∙ later (sym (ap (λ b. cond b (Some i) (owner a (spans_from (i + 1) fdes))) is) ∙ owned)

  pub none_found : (i : ℕ) (fdes : List Fde) → owner a (spans_from i fdes) ≡ None → first_of a fdes other ≡ other
  none_found i [] owned = refl
  none_found i (fde ∷ fdes) owned = none_step i fde fdes (covers fde a) refl owned (λ rest. none_found (i + 1) fdes rest)

-- Up to the end of the last piece that was taken the answers are those of all; from there on what is left decides.
pub record Taken (due : ℕ → Result Fde Error → Result FrameParts Error) (all : List Fde) (pieces left : List Piece) (other : Result Fde Error) (end : ℕ) (now : ℕ → Result FrameParts Error) : Type 0 where
  pub ascend : Ascend end left
  pub taken : (a : ℕ) → a < end → now a ≡ due a (first_of a all other)
  pub rest : (a : ℕ) → end ≤ a → owner a pieces ≡ owner a left

module _ (due : ℕ → Result Fde Error → Result FrameParts Error) (all : List Fde) (pieces : List Piece) (other : Result Fde Error) where
  pub taken_none : (now : ℕ → Result FrameParts Error) → Ascend 0 pieces → Taken due all pieces pieces other 0 now
  taken_none now ascend = record { ascend = ascend; taken = λ a below. absurd (omega arith); rest = λ a from. refl }

  module _ (same_owner : (a : ℕ) → owner a pieces ≡ owner a (spans_from 0 all)) (left : List Piece) (end : ℕ) (now : ℕ → Result FrameParts Error) (so_far : Taken due all pieces left other end now) where
    -- nothing is left
    pub taken_all : (newer : ℕ → Result FrameParts Error) → left ≡ [] → ((a : ℕ) → a < end → newer a ≡ now a) → ((a : ℕ) → end ≤ a → newer a ≡ due a other) → (a : ℕ) → newer a ≡ due a (first_of a all other)
    taken_all newer is same after a =
        ⊎_elim
        (λ below. same a below ∙ so_far.taken a below)
        (λ from. after a from ∙ ap (due a) (sym (none_found other a 0 all (sym (same_owner a) ∙ so_far.rest a from ∙ ap (λ (l : List Piece). owner a l) is))))
        (cases_lt a end)

    module _ (piece : Piece) (others : List Piece) (is : left ≡ piece ∷ others) where
      ascend : Ascend end (piece ∷ others)
      ascend = subst (λ (l : List Piece). Ascend end l) is so_far.ascend

      pub begins : end ≤ piece.from
      begins = ascend.0

      pub contains : piece.from < piece.to
      contains = ascend.1

      left_at : (a : ℕ) → end ≤ a → owner a (spans_from 0 all) ≡ owner a (piece ∷ others)
      left_at a from = sym (same_owner a) ∙ so_far.rest a from ∙ ap (λ (l : List Piece). owner a l) is

      in_gap : (a : ℕ) → end ≤ a → a < piece.from → first_of a all other ≡ other
      in_gap a from below = none_found other a 0 all (left_at a from ∙ owner_below piece.from (piece ∷ others) a (omega arith, ascend.1, ascend.2) below)

      found : (a : ℕ) → piece.from ≤ a → a < piece.to → Found all other a 0 piece.of
      found a from to = found_at other a 0 piece.of all (left_at a (omega (arith, ascend.0, from)) ∙ owner_in piece others a from to)

      pub of_within : piece.of < length all
      of_within = let here = found piece.from (omega arith) ascend.1 in omega (arith, here.is, here.within)

      covered : (d : Fde) (a : ℕ) → piece.from ≤ a → a < piece.to → (((get_or all piece.of d).initial ≤ a) × (a < end_of (get_or all piece.of d)))
      covered d a from to =
          let here = found a from to in
          let number : here.at ≡ piece.of = omega (arith, here.is) in
          inside_of (get_or all piece.of d) a (subst (λ (k : ℕ). covers (get_or all k d) a ≡ true) number (here.covered d))

      in_fde : (d : Fde) (a : ℕ) → piece.from ≤ a → a < piece.to → first_of a all other ≡ Ok (get_or all piece.of d)
      in_fde d a from to =
          let here = found a from to in
          let number : here.at ≡ piece.of = omega (arith, here.is) in
          subst (λ (k : ℕ). first_of a all other ≡ Ok (get_or all k d)) number (here.first d)

      module _ (fde : Fde) (there : get_or all piece.of fde ≡ fde) where
        pub starts : fde.initial ≤ piece.from
        starts = subst (λ (f : Fde). f.initial ≤ piece.from) there (covered fde piece.from (omega arith) ascend.1).0

        pub ends : piece.to ≤ end_of fde
        ends =
            let high = subst (λ (f : Fde). (piece.to - 1) < end_of f) there (covered fde (piece.to - 1) (omega (arith, ascend.1)) (omega (arith, ascend.1))).1 in
            omega (arith, high, ascend.1)

        pub taken_next : (gapped newer : ℕ → Result FrameParts Error) → ((a : ℕ) → a < end → gapped a ≡ now a) → ((a : ℕ) → end ≤ a → a < piece.from → gapped a ≡ due a other)
            → ((a : ℕ) → a < piece.from → newer a ≡ gapped a) → ((a : ℕ) → piece.from ≤ a → a < piece.to → newer a ≡ due a (Ok fde)) → Taken due all pieces others other piece.to newer
        taken_next gapped newer same gap kept rows = record {
          ascend = ascend.2;
          taken = λ a to.
              ⊎_elim
              (λ before. kept a before ∙ ⊎_elim
              (λ below. same a below ∙ so_far.taken a below)
              (λ from. gap a from before ∙ ap (due a) (sym (in_gap a from before)))
              (cases_lt a end))
              (λ from. rows a from to ∙ ap (due a) (sym (in_fde fde a from to ∙ ap (λ (f : Fde). Ok f) there)))
              (cases_lt a piece.from);
          rest = λ a from. so_far.rest a (omega (arith, ascend.0, ascend.1, from)) ∙ ap (λ (l : List Piece). owner a l) is ∙ owner_past piece others a from;
        }
