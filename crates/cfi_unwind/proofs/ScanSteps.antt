-- The steps of a scan.
use Rattle.std.proofs.Common.{◌≡◌, ℕ, Bool, true, false, List, [], ◌∷◌, length, take, Option, Some, None, Result, Ok, Err, refl, sym, ap, ◌∙◌, subst}
use Rattle.std.specs.Prelude.{IfOk, if◌then◌else◌}
use Rattle.cfi_read_core.specs.declared.error.Error.{Error}
use Rattle.cfi_read_core.specs.declared.error.Error.TheVariants.{NoUnwindInfoForAddress}
use Rattle.cfi_read_core.specs.ReadFunctions.{Readings, no_values, with_first}
use Rattle.cfi_entry.specs.Sections.{Section}
use Rattle.cfi_entry.specs.Cies.{Cie}
use Rattle.cfi_entry.specs.Fdes.{PartialFde, Fde, covers}
use Rattle.cfi_entry.specs.Entries.{Entry, CieEntry, FdeEntry, cie_at, entries, fde_with}
use Rattle.cfi_unwind.specs.Scan.{IsGiven, chosen_fde, chosen_of_given, answer_if_decided, if_last, partial_fdes}
use Rattle.cfi_unwind.specs.GetCieCalls.{Scans}
use Rattle.cfi_unwind.proofs.ScanLemmas.{own_chosen, own_cies}

module _ {F : Type 0} (gives : F → ℕ → Result Cie Error → F → Type 0) (section : Section) (a : ℕ) where
  pub scans_end : (f : F) → Scans gives section a (no_values None) f (Err NoUnwindInfoForAddress) f
  unfolding chosen_of_given
  scans_end f = ([], refl, refl)

  pub scans_refusal : (e : Error) (f : F) → Scans gives section a (no_values (Some e)) f (Err e) f
  unfolding chosen_of_given
  scans_refusal e f = ([], refl, refl)

  -- a scan of equal entries with an equal answer
  pub scans_at : {xs ys : Readings Entry} {f : F} {r q : Result Fde Error} {g : F} → xs ≡ ys → r ≡ q → Scans gives section a ys f q g → Scans gives section a xs f r g
  scans_at {xs = xs} {ys = ys} {f = f} {r = r} {q = q} {g = g} e k h = subst (λ x. Scans gives section a x f r g) (sym e) (subst (λ x. Scans gives section a ys f x g) (sym k) h)

  -- the same of equal entries
  pub scans_cie_at : {xs : Readings Entry} (cie : Cie) (others : Readings Entry) (f : F) (answer : Result Fde Error) (g : F) → xs ≡ with_first (CieEntry cie) others →
      Scans gives section a others f answer g → Scans gives section a xs f answer g
  scans_cie_at cie others f answer g e behind = scans_at e refl behind

  module _ {xs : Readings Entry} (partial : PartialFde) (others : Readings Entry) (met : xs ≡ with_first (FdeEntry partial) others) (given : Result Cie Error) (f h : F) (asking : gives f partial.cie_offset given h) where
    decides : List (Result Cie Error) → Result Fde Error → Option (Result Fde Error)
    decides more r = answer_if_decided a r more (chosen_of_given a section (partial_fdes others.values) others.refusal more)

    pub scans_refused_fde : (e : Error) (r : Result Fde Error) → r ≡ Err e → fde_with section partial given ≡ Err e → Scans gives section a xs f r h
    unfolding chosen_of_given decides
    scans_refused_fde e r gone is = scans_at met gone (given ∷ [], (h, asking, refl), ap (decides []) is)

    pub scans_found : (fde : Fde) → fde_with section partial given ≡ Ok fde → (b : Bool) → b ≡ covers fde a → b ≡ true → Scans gives section a xs f (Ok fde) h
    unfolding chosen_of_given decides
    scans_found fde is b tested there =
        scans_at met refl (given ∷ [], (h, asking, refl), ap (decides []) is ∙ ap (λ (b : Bool). if b then Some (Ok fde) else chosen_of_given a section (partial_fdes others.values) others.refusal []) (sym tested ∙ there))

    pub scans_passed : (fde : Fde) (answer : Result Fde Error) (g : F) → fde_with section partial given ≡ Ok fde → (b : Bool) → b ≡ covers fde a → b ≡ false →
        Scans gives section a others h answer g → Scans gives section a xs f answer g
    unfolding chosen_of_given decides
    scans_passed fde answer g is b tested elsewhere (more, answers, e) =
        scans_at met refl (given ∷ more, (h, asking, answers), ap (decides more) is ∙ (ap (λ (b : Bool). if b then if_last more (Ok fde) else chosen_of_given a section (partial_fdes others.values) others.refusal more) (sym tested ∙ elsewhere) ∙ e))

-- Where each call gives the CIE to which the FDE points, by what it keeps, the answer is the chosen FDE.
module _ {F : Type 0} (gives : F → ℕ → Result Cie Error → F → Type 0) (section : Section) (I : F → Type 0) (reads : (f : F) (offset : ℕ) (given : Result Cie Error) (g : F) → I f → gives f offset given g → I g × (given ≡ cie_at section offset)) where
  given_own : (partials : List PartialFde) (f : F) (given : List (Result Cie Error)) (g : F) → I f → IsGiven gives partials f given g → given ≡ take (length given) (own_cies section partials)
  given_own partials f [] g holds is = refl
  given_own [] f (cie ∷ given) g holds is = absurd is
  given_own (partial ∷ partials) f (cie ∷ given) g holds (next, asked, others) =
      let read = reads f partial.cie_offset cie next holds asked in
      ap (λ (x : Result Cie Error). x ∷ given) read.1
      ∙ ap (λ (xs : List (Result Cie Error)). cie_at section partial.cie_offset ∷ xs) (given_own partials next given g read.0 others)

  pub scan_reads : (a : ℕ) (f : F) (answer : Result Fde Error) (g : F) → I f → Scans gives section a (entries section) f answer g → answer ≡ chosen_fde section a
  scan_reads a f answer g holds (given, answers, e) =
      let partials = partial_fdes (entries section).values in
      let own : chosen_of_given a section partials (entries section).refusal (take (length given) (own_cies section partials)) ≡ Some answer =
      ap (λ (xs : List (Result Cie Error)). chosen_of_given a section partials (entries section).refusal xs) (sym (given_own partials f given g holds answers)) ∙ e in
      sym (own_chosen a section partials (entries section).refusal (length given) answer own)

-- what holds of each value holds of one that there is
pub if_ok : {A E : Type 0} {P Q : A → Type 0} (r : Result A E) → ((x : A) → P x → Q x) → IfOk r P → IfOk r Q
if_ok (Ok x) each is = each x is
if_ok (Err e) each is = tt
