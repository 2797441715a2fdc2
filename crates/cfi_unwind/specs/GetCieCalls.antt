-- Calls of a closure `get_cie`, which the caller passes, for the CIE of an FDE.
--     AsksForCie calls position number offset section bases      one such call
--     ReadsFdeAt, ReadsFdeOf asks view section      one FDE is read: that at an offset, or the rest
--         of one that is read in part
--     ScansForFde asks view section address      the section is scanned for the FDE of an address
--     IsAnswered, GivesCiesOf      the CIE is one that the closure returned; each such CIE is of
--         the section
use Rattle.std.specs.Prelude.{◌≡◌, ℕ, List, [], ◌∷◌, Some, Result, Ok, Err}
use Rattle.std.specs.Fn.{Called, Mut}
use Rattle.std.specs.Borrow.{Bor}
use Rattle.cfi_read_core.specs.ReaderCalls.{map_ok}
use Rattle.cfi_read_core.specs.ReadFunctions.{Position, Readings}
use Rattle.cfi_read_core.specs.declared.error.Error.{Error}
use Rattle.cfi_parts.specs.declared.pointer.BaseAddresses.{BaseAddresses}
use Rattle.cfi_entry.specs.Sections.{Section}
use Rattle.cfi_entry.specs.Cies.{Cie}
use Rattle.cfi_entry.specs.Fdes.{PartialFde, Fde}
use Rattle.cfi_entry.specs.Entries.{Entry, entries, fde_with, partial_fde_at}
use Rattle.cfi_entry.specs.EntryViews.{IsCieOf, cie_view}
use Rattle.cfi_entry.specs.declared.cie.CieFields.{CieFields}
use Rattle.cfi_unwind.specs.Scan.{IsGiven, chosen_of_given, partial_fdes}

-- A call of f with the section and the bases, for the CIE at the offset `asked`: its answer, and
-- the state g after it.
pub record IsCallFor {F S O C : Type 0}
    (calls : Mut F (Bor S × (Bor BaseAddresses × (O × Unit {0}))) (Result C Error)) (section : S)
    (bases : BaseAddresses) (f : F) (asked : O) (answer : Result C Error) (g : F) : Type 0 where
  pub shown_section : Bor S
  pub shown_bases : Bor BaseAddresses
  pub at_section : shown_section.now ≡ section
  pub at_bases : shown_bases.now ≡ bases
  pub call : Called calls f (shown_section, (shown_bases, (asked, tt))) answer g

-- Such a call, with the offset as a number and what was given as the definitions see it.
pub record GetCieCall {F S O C : Type 0}
    (calls : Mut F (Bor S × (Bor BaseAddresses × (O × Unit {0}))) (Result C Error)) (number : O → ℕ)
    (view : C → Cie) (section : S) (bases : BaseAddresses) (f : F) (offset : ℕ)
    (given : Result Cie Error) (g : F) : Type 0 where
  pub asked : O
  pub answer : Result C Error
  pub at_offset : number asked ≡ offset
  pub seen : map_ok view answer ≡ given
  pub call : IsCallFor calls section bases f asked answer g

-- Calls lead from the state f to the state g; the list has what each was asked and answered, the
-- last one first.
abbrev pub CallsLead :
    {F S O C : Type 0} → Mut F (Bor S × (Bor BaseAddresses × (O × Unit {0}))) (Result C Error) → S →
    BaseAddresses → F → List (O × Result C Error) → F → Type 0
CallsLead calls section bases f [] g = g ≡ f
CallsLead {F} calls section bases f (last ∷ earlier) g =
    (before : F) × CallsLead calls section bases f earlier before
    × IsCallFor calls section bases before last.0 last.1 g

-- The CIE is one that a call with the section and the bases answered, in a state to which such
-- calls lead from `first`, the closure as it was handed in. What it would answer in other states
-- doesn't count.
pub record IsAnswered {F S O C : Type 0}
    (calls : Mut F (Bor S × (Bor BaseAddresses × (O × Unit {0}))) (Result C Error)) (section : S)
    (bases : BaseAddresses) (first : F) (cie : C) : Type 0 where
  pub earlier : List (O × Result C Error)
  pub before : F
  pub led : CallsLead calls section bases first earlier before
  pub asked : O
  pub after : F
  pub call : IsCallFor calls section bases before asked (Ok cie) after

-- From one state of the callback to another, reading an FDE answers this: its refusal, before
-- anything is asked, or what the FDE and the CIE that was given mean.
abbrev pub ReadsWith :
    {F : Type 0} → (F → ℕ → Result Cie Error → F → Type 0) → Section → Result PartialFde Error → F →
    Result Fde Error → F → Type 0
ReadsWith get_cie section (Err e) f answer g = (answer ≡ Err e) × (g ≡ f)
ReadsWith get_cie section (Ok partial) f answer g =
    (given : Result Cie Error) × get_cie f partial.cie_offset given g
    × (answer ≡ fde_with section partial given)

-- From one state of the callback to another, going through these entries answers the FDE or the
-- refusal for the address: the CIEs were given one for each FDE that was asked for, in order, and
-- no more.
abbrev pub Scans :
    {F : Type 0} → (F → ℕ → Result Cie Error → F → Type 0) → Section → ℕ → Readings Entry → F →
    Result Fde Error → F → Type 0
Scans get_cie section a readings f answer g =
    (given : List (Result Cie Error)) × IsGiven get_cie (partial_fdes readings.values) f given g
    × (chosen_of_given a section (partial_fdes readings.values) readings.refusal given
    ≡ Some answer)

-- ---- as the calls of a section and of a table use them

-- From the state f of the closure, a call for the CIE at an offset gives a result, and leaves the
-- state g. The offset that it gets is the section's own, whose number is that of the reader's
-- offset in it.
abbrev pub AsksForCie :
    {F S P R O : Type 0} →
    Mut F (Bor S × (Bor BaseAddresses × (P × Unit {0}))) (Result (CieFields R O) Error) →
    (R → Position) → (O → ℕ) → (P → O) → S → BaseAddresses → F → ℕ → Result Cie Error → F → Type 0
AsksForCie calls position number offset section bases =
    GetCieCall calls (λ o. number (offset o)) (cie_view position number) section bases

-- Each CIE that the closure returns is read from the bytes of the section.
abbrev pub GivesCiesOf :
    {F S P R O : Type 0} →
    Mut F (Bor S × (Bor BaseAddresses × (P × Unit {0}))) (Result (CieFields R O) Error) →
    (R → Position) → Position → S → BaseAddresses → F → Type 0
GivesCiesOf {R = R} {O = O} calls position own section bases first =
    (cie : CieFields R O) → IsAnswered calls section bases first cie → IsCieOf position own cie

module _ {F X : Type 0} (asks : F → ℕ → Result Cie Error → F → Type 0) (view : X → Fde)
    (section : Section) where
  -- the FDE at an offset
  abbrev pub ReadsFdeAt : ℕ → F → Result X Error → F → Type 0
  ReadsFdeAt offset f result g =
      ReadsWith asks section (partial_fde_at section offset) f (map_ok view result) g

  -- the FDE that is read as far as the offset of its CIE
  abbrev pub ReadsFdeOf : PartialFde → F → Result X Error → F → Type 0
  ReadsFdeOf partial f result g = ReadsWith asks section (Ok partial) f (map_ok view result) g

  -- the first FDE that contains the address
  abbrev pub ScansForFde : ℕ → F → Result X Error → F → Type 0
  ScansForFde address f result g =
      Scans asks section address (entries section) f (map_ok view result) g
