-- What follows of the row for an address, over any storage.
--     row_by_kept, row_by_run      it is what the kept instructions give, and a run of the machine
--     row_is_due, row_is_due_where_fixed      it is the function's answer or `OutOfMemory`; over a fixed storage it is the function's
--     scan_is_due_where_fixed      the same of the row by going through the section
--     row_contains      it contains the address
use Rattle.std.proofs.Common.{◌≡◌, ◌⊎◌, inl, inr, ℕ, ◌≤◌, ◌<◌, Bool, Option, Result, Ok, Err, false}
use Rattle.std.specs.Bool.{IsTrue}
use Rattle.std.specs.Prelude.{IfOk}
use Rattle.std.proofs.lemmas.Bool.{false≢true}
use Rattle.cfi_read_core.specs.declared.error.Error.{Error}
use Rattle.cfi_read_core.specs.declared.error.Error.TheVariants.{OutOfMemory}
use Rattle.cfi_state.specs.Row.{Row}
use Rattle.cfi_read_core.specs.ListLimits.{IsFixed}
use Rattle.cfi_state.specs.MachineRuns.{AnswersFde}
use Rattle.cfi_state.specs.Allocation.{may_allocate}
use Rattle.cfi_state.specs.AcceptedInstructions.{AnswersByAccepted}
use Rattle.cfi_state.proofs.Laws.{by_kept, by_run, is_due, is_due_where_never, contains_it}
use Rattle.cfi_state.proofs.FixedStorage.{fixed_never}
use Rattle.cfi_entry.specs.Sections.{Section}
use Rattle.cfi_entry.specs.Fdes.{Fde}
use Rattle.cfi_entry.specs.EntryInstructions.{cie_instructions, fde_instructions}
use Rattle.cfi_unwind.specs.Scan.{answer_by, chosen_fde}
use Rattle.cfi_unwind.specs.AddressRow.{setting, row_of_fde, row_by_scan, IsRowOfFound, IsRowByScan}

-- the answer of the FDE that was found, or the refusal in its place
abbrev pub IsOfFound : {A : Type 0} → (Fde → Result A Error → Type 0) → Result Fde Error → Result A Error → Type 0
IsOfFound of_fde (Ok fde) answer = of_fde fde answer
IsOfFound of_fde (Err e) answer = answer ≡ Err e

refusal_found : {is memory : Type 0} → is ⊎ (IsTrue false × memory) → is
refusal_found (inl is) = is
refusal_found (inr out) = absurd (false≢true out.0)

module _ (rule_limit stack_limit : Option ℕ) (copies_free : Bool) (section : Section) (a : ℕ) where
  -- by the instructions that are kept: an instruction is left out whose memory is refused
  abbrev pub KeepsToRowOfFde : Fde → Result (Row ℕ) Error → Type 0
  KeepsToRowOfFde fde row =
      let s = setting rule_limit stack_limit fde in
      AnswersByAccepted (may_allocate s copies_free) s (cie_instructions section fde.cie) (fde_instructions section fde) a row

  -- by a run of the machine
  abbrev pub RunsToRowOfFde : Fde → Result (Row ℕ) Error → Type 0
  RunsToRowOfFde fde row =
      let s = setting rule_limit stack_limit fde in
      AnswersFde (may_allocate s copies_free) s (cie_instructions section fde.cie) (fde_instructions section fde) a row

  abbrev IsRow : Result Fde Error → Result (Row ℕ) Error → Type 0
  IsRow found row = IsRowOfFound rule_limit stack_limit copies_free section a found row

  -- The row is what the kept instructions give.
  pub row_by_kept : (found : Result Fde Error) (row : Result (Row ℕ) Error) → IsRow found row → IsOfFound KeepsToRowOfFde found row
  row_by_kept (Ok fde) row is = let s = setting rule_limit stack_limit fde in by_kept (may_allocate s copies_free) s (cie_instructions section fde.cie) (fde_instructions section fde) a row is
  row_by_kept (Err e) row is = refusal_found is

  -- The row is what a run of the machine gives.
  pub row_by_run : (found : Result Fde Error) (row : Result (Row ℕ) Error) → IsRow found row → IsOfFound RunsToRowOfFde found row
  row_by_run (Ok fde) row is = let s = setting rule_limit stack_limit fde in by_run (may_allocate s copies_free) s (cie_instructions section fde.cie) (fde_instructions section fde) a row is
  row_by_run (Err e) row is = refusal_found is

  -- The row is the function's answer, or memory was refused.
  pub row_is_due : (found : Result Fde Error) (row : Result (Row ℕ) Error) → IsRow found row → (row ≡ answer_by (row_of_fde rule_limit stack_limit section a) found) ⊎ (row ≡ Err OutOfMemory)
  row_is_due (Ok fde) row is = let s = setting rule_limit stack_limit fde in is_due (may_allocate s copies_free) s (cie_instructions section fde.cie) (fde_instructions section fde) a row is
  row_is_due (Err e) row is = inl (refusal_found is)

  -- Over a fixed storage the row is the function's answer.
  pub row_is_due_where_fixed : IsFixed rule_limit stack_limit copies_free → (found : Result Fde Error) (row : Result (Row ℕ) Error) → IsRow found row → row ≡ answer_by (row_of_fde rule_limit stack_limit section a) found
  row_is_due_where_fixed fixed (Ok fde) row is =
      let s = setting rule_limit stack_limit fde in
      is_due_where_never (may_allocate s copies_free) s (cie_instructions section fde.cie) (fde_instructions section fde) a row is (fixed_never s copies_free fixed.0 fixed.1 fixed.2)
  row_is_due_where_fixed fixed (Err e) row is = refusal_found is

  -- The row contains the address.
  pub row_contains : (found : Result Fde Error) (row : Result (Row ℕ) Error) → IsRow found row → IfOk row (λ row. (row.start_address ≤ a) × (a < row.end_address))
  row_contains (Ok fde) row is = let s = setting rule_limit stack_limit fde in contains_it (may_allocate s copies_free) s (cie_instructions section fde.cie) (fde_instructions section fde) a row is
  row_contains (Err e) (Ok row) is = absurd (let wrong : ◌≡◌ {A = Result (Row ℕ) Error} (Ok row) (Err e) = refusal_found is in cc)
  row_contains (Err e) (Err d) is = tt

  -- Over a fixed storage the row by going through the section is the function's answer.
  pub scan_is_due_where_fixed : IsFixed rule_limit stack_limit copies_free → (row : Result (Row ℕ) Error) → IsRowByScan rule_limit stack_limit copies_free section a row → row ≡ row_by_scan rule_limit stack_limit section a
  scan_is_due_where_fixed fixed row is = row_is_due_where_fixed fixed (chosen_fde section a) row is
