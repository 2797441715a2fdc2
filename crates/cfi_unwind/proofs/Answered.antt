-- What holds of each CIE that `get_cie` answers, by what each call keeps.
use Rattle.std.proofs.Common.{◌≡◌, ◌∙◌, ℕ, List, [], ◌∷◌, Result, Ok, Err, ap, subst, sym}
use Rattle.std.specs.Prelude.{IfOk}
use Rattle.std.specs.Fn.{Mut}
use Rattle.std.specs.Borrow.{Bor}
use Rattle.cfi_read_core.specs.declared.error.Error.{Error}
use Rattle.cfi_parts.specs.declared.pointer.BaseAddresses.{BaseAddresses}
use Rattle.cfi_read_core.specs.ReaderCalls.{map_ok}
use Rattle.cfi_entry.specs.Sections.{Section}
use Rattle.cfi_entry.specs.Cies.{Cie}
use Rattle.cfi_entry.specs.Fdes.{Fde, PartialFde}
use Rattle.cfi_entry.specs.Entries.{cie_at, entries, fde_by, fde_with}
use Rattle.cfi_unwind.specs.Scan.{chosen_fde}
use Rattle.cfi_unwind.specs.GetCieCalls.{GetCieCall, CallsLead, IsAnswered, IsCallFor, ReadsWith, Scans}
use Rattle.cfi_unwind.proofs.ScanSteps.{scan_reads}

module _ {F S O C : Type 0} (calls : Mut F (Bor S × (Bor BaseAddresses × (O × Unit {0}))) (Result C Error)) (section : S) (bases : BaseAddresses) where
  -- what holds of the closure at first, and is kept by each call, holds in each state to which calls lead
  kept_to : (I : F → Type 0) → ((f : F) (asked : O) (answer : Result C Error) (g : F) → I f → IsCallFor calls section bases f asked answer g → I g) →
      (earlier : List (O × Result C Error)) (f g : F) → I f → CallsLead calls section bases f earlier g → I g
  kept_to I keeps [] f g at_first same = subst I (sym same) at_first
  kept_to I keeps (last ∷ earlier) f g at_first (before, led, call) = keeps before last.0 last.1 g (kept_to I keeps earlier f before at_first led) call

  -- where I holds, a call keeps it, and answers a CIE of which P holds
  abbrev pub AnswersAll : (F → Type 0) → (C → Type 0) → Type 0
  AnswersAll I P = (f : F) (asked : O) (answer : Result C Error) (g : F) → I f → IsCallFor calls section bases f asked answer g → I g × IfOk answer P

  -- then P holds of each CIE that is answered, where I holds of the closure at first
  pub answered_by : (I : F → Type 0) (P : C → Type 0) (first : F) → I first → AnswersAll I P → (cie : C) → IsAnswered calls section bases first cie → P cie
  answered_by I P first at_first each cie is =
      (each is.before is.asked (Ok cie) is.after
      (kept_to I (λ f asked answer g holds call. (each f asked answer g holds call).0) is.earlier first is.before at_first is.led)
      is.call).1

  -- and of that of an entry, if there is one
  pub ok_answered_by : {A : Type 0} (cie_of : A → C) (I : F → Type 0) (P : C → Type 0) (first : F) → I first → (read : Result A Error) →
      IfOk read (λ entry. IsAnswered calls section bases first (cie_of entry)) → AnswersAll I P → IfOk read (λ entry. P (cie_of entry))
  ok_answered_by cie_of I P first at_first (Ok entry) is each = answered_by I P first at_first each (cie_of entry) is
  ok_answered_by cie_of I P first at_first (Err e) is each = tt

  -- where I holds, a call keeps it, and answers the section's CIE at the offset asked
  abbrev pub AnswersOwn : (O → ℕ) → (C → Cie) → Section → (F → Type 0) → Type 0
  AnswersOwn number view frame I =
      (f : F) (asked : O) (answer : Result C Error) (g : F) → I f → IsCallFor calls section bases f asked answer g → I g × (map_ok view answer ≡ cie_at frame (number asked))

  module _ (number : O → ℕ) (view : C → Cie) (frame : Section) (I : F → Type 0) where
    gives_own : AnswersOwn number view frame I → (f : F) (offset : ℕ) (given : Result Cie Error) (g : F) → I f → GetCieCall calls number view section bases f offset given g → I g × (given ≡ cie_at frame offset)
    gives_own each f offset given g holds asks =
        let own = each f asks.asked asks.answer g holds asks.call in
        (own.0, sym asks.seen ∙ own.1 ∙ ap (cie_at frame) asks.at_offset)

    -- then what is found or read is so with the CIEs to which the FDEs point
    pub chosen_by : (a : ℕ) (first : F) (found : Result Fde Error) (last : F) → I first → Scans (GetCieCall calls number view section bases) frame a (entries frame) first found last →
        AnswersOwn number view frame I → found ≡ chosen_fde frame a
    chosen_by a first found last at_first scans each = scan_reads (GetCieCall calls number view section bases) frame I (gives_own each) a first found last at_first scans

    pub read_by : (partial : Result PartialFde Error) (first : F) (read : Result Fde Error) → I first → (last : F) × ReadsWith (GetCieCall calls number view section bases) frame partial first read last →
        AnswersOwn number view frame I → read ≡ fde_by frame partial
    read_by (Err e) first read at_first (last, reads) each = reads.0
    read_by (Ok partial) first read at_first (last, reads) each =
        reads.2 ∙ ap (fde_with frame partial) (gives_own each first partial.cie_offset reads.0 last at_first reads.1).1
