-- Going through the entries of a section: the FDEs that contain an address.
use Rattle.std.proofs.Common.{◌≡◌, ◌<◌, ◌≤◌, cond, List, [], ◌∷◌, ◌++◌, map, ltb, Option, Result, Ok, Err, refl, sym, ap, subst, ◌∙◌, append_assoc}
use Rattle.std.proofs.lemmas.Bool.{lt-ltb, le-ltb}
use Rattle.std.proofs.lemmas.List.{append-nil}
use Rattle.cfi_read_core.specs.declared.error.Error.{Error}
use Rattle.cfi_read_core.specs.ReadFunctions.{Readings, no_values, with_first}
use Rattle.cfi_entry.specs.Cies.{Cie}
use Rattle.cfi_entry.specs.Entries.{Entry, CieEntry, FdeEntry, entries}
use Rattle.cfi_entry.specs.Fdes.{Fde, PartialFde, end_of}
use Rattle.cfi_entry.specs.Sections.{Section}
use Rattle.cfi_unwind.specs.Scan.{partial_fdes, read_fde, fde_readings}
use Rattle.cfi_compiled.specs.CoveringFdes.{covering, outside}

abbrev pub readings_in : Section → Readings Entry → List (Result Fde Error)
readings_in section readings = map (read_fde section) (partial_fdes readings.values)

-- what was found, with what is left, is all
pub record Gathered (section : Section) (found : List Fde) (left : Readings Entry) : Type 0 where
  pub fdes : found ++ covering (readings_in section left) ≡ covering (fde_readings section)
  pub outside : outside (readings_in section left) left.refusal ≡ outside (fde_readings section) (entries section).refusal

module _ (section : Section) where
  pub gathered_none : Gathered section [] (entries section)
  gathered_none = record { fdes = refl; outside = refl }

  module _ (found : List Fde) (left : Readings Entry) (so_far : Gathered section found left) where
    at_left : (readings : Readings Entry) → left ≡ readings → Gathered section found readings
    at_left readings is = subst (λ (x : Readings Entry). Gathered section found x) is so_far

    pub gathered_cie : (cie : Cie) (others : Readings Entry) → left ≡ with_first (CieEntry cie) others → Gathered section found others
    gathered_cie cie others is = let here = at_left _ is in record { fdes = here.fdes; outside = here.outside }

    module _ (partial : PartialFde) (others : Readings Entry) (is : left ≡ with_first (FdeEntry partial) others) where
      here : Gathered section found (with_first (FdeEntry partial) others)
      here = at_left _ is

      module _ (fde : Fde) (read : read_fde section partial ≡ Ok fde) where
        step : found ++ cond (ltb fde.initial (end_of fde)) (fde ∷ covering (readings_in section others)) (covering (readings_in section others)) ≡ covering (fde_readings section)
        step = subst (λ (r : Result Fde Error). found ++ covering (r ∷ readings_in section others) ≡ covering (fde_readings section)) read here.fdes

        left_outside : outside (readings_in section others) others.refusal ≡ outside (fde_readings section) (entries section).refusal
        left_outside = subst (λ (r : Result Fde Error). outside (r ∷ readings_in section others) others.refusal ≡ outside (fde_readings section) (entries section).refusal) read here.outside

        pub gathered_fde : fde.initial < end_of fde → Gathered section (found ++ fde ∷ []) others
        gathered_fde some = record {
          fdes = append_assoc found (fde ∷ []) (covering (readings_in section others))
              ∙ ap (λ b. found ++ cond b (fde ∷ covering (readings_in section others)) (covering (readings_in section others))) (sym (lt-ltb fde.initial (end_of fde) some)) ∙ step;
          outside = left_outside;
        }

        pub gathered_empty : end_of fde ≤ fde.initial → Gathered section found others
        gathered_empty none = record {
          fdes = ap (λ b. found ++ cond b (fde ∷ covering (readings_in section others)) (covering (readings_in section others))) (sym (le-ltb fde.initial (end_of fde) none)) ∙ step;
          outside = left_outside;
        }

      module _ (e : Error) (read : read_fde section partial ≡ Err e) where
        pub all_before_fde : found ≡ covering (fde_readings section)
        all_before_fde = sym (append-nil found) ∙ subst (λ (r : Result Fde Error). found ++ covering (r ∷ readings_in section others) ≡ covering (fde_readings section)) read here.fdes

        pub outside_fde : e ≡ outside (fde_readings section) (entries section).refusal
        outside_fde = subst (λ (r : Result Fde Error). outside (r ∷ readings_in section others) others.refusal ≡ outside (fde_readings section) (entries section).refusal) read here.outside

    -- no entry is left, after the end or a refusal
    module _ (refusal : Option Error) (is : left ≡ no_values refusal) where
      pub all_found : found ≡ covering (fde_readings section)
      all_found = sym (append-nil found) ∙ (at_left _ is).fdes

      pub outside_found : outside [] refusal ≡ outside (fde_readings section) (entries section).refusal
      outside_found = (at_left _ is).outside
