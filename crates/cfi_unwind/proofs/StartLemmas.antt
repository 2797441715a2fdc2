-- The table that was made for an FDE.
use Rattle.std.proofs.Common.{◌≡◌, ◌≤◌, ◌<◌, ℕ, Bool, cond, List, [], Option, Result, Ok, Err, refl, sym, ap, subst, ◌∙◌}
use Rattle.std.specs.Prelude.{IfOk, false}
use Rattle.std.specs.List.{AllByRecursion, count_by}
use Rattle.cfi_read_core.specs.declared.error.Error.{Error}
use Rattle.cfi_read_core.specs.ReadFunctions.{Readings}
use Rattle.cfi_read_core.specs.ReaderCalls.{map_ok}
use Rattle.cfi_parts.specs.Instructions.{Instruction}
use Rattle.cfi_read_core.specs.ExpressionPlaces.{LiesIn, HasExpressionIn}
use Rattle.cfi_parts.proofs.ExpressionPlaces.{all_read_in}
use Rattle.cfi_state.specs.MachineSettings.{Setting}
use Rattle.cfi_state.specs.Machine.{State, fresh_state}
use Rattle.cfi_state.specs.Row.{Row, row_contains}
use Rattle.cfi_state.specs.FdeAnswers.{AreConsecutive, rows_of, run_answers}
use Rattle.cfi_state.specs.MappedStates.{row_lent}
use Rattle.cfi_state.specs.RowExpressions.{EachOfTable, HasExpressionsIn}
use Rattle.cfi_state.specs.UnwindTableStates.{TableState, rows_to_come}
use Rattle.cfi_state.specs.MachineRuns.{RunsInitialInstructions}
use Rattle.cfi_state.specs.Allocation.{may_allocate}
use Rattle.cfi_state.proofs.Laws.{run_consecutive, run_in_one_row}
use Rattle.cfi_state.proofs.RowExpressions.{answer_holds, initial_holds}
use Rattle.cfi_unwind.specs.AddressRow.{IsRowOfFde, setting}
use Rattle.cfi_unwind.proofs.Laws.{row_by_run}
use Rattle.cfi_unwind.proofs.RowLemmas.{lent_expressions}
use Rattle.std.specs.Borrow.{Bor}
use Rattle.cfi_entry.specs.Sections.{Section, position_of}
use Rattle.cfi_entry.specs.Cies.{Cie}
use Rattle.cfi_entry.specs.Fdes.{Fde}
use Rattle.cfi_entry.specs.EntryInstructions.{cie_instructions, fde_instructions}
use Rattle.cfi_unwind.specs.UnwindTableCalls.{AcceptsCieProgram, StartsRows}

-- each instruction has its expression in the section
abbrev AllIn : Section → Readings Instruction → Type 0
AllIn section reads = AllByRecursion (HasExpressionIn (λ n. n) (position_of section)) reads.values

cie_inside : (section : Section) (cie : Cie) → section.first ≤ cie.initial_instructions.first → cie.initial_instructions.last ≤ section.source.last → AllIn section (cie_instructions section cie)
cie_inside section cie begins ends = all_read_in (position_of section) _ cie.initial_instructions section.source refl begins ends

fde_inside : (section : Section) (fde : Fde) → section.first ≤ fde.instructions.first → fde.instructions.last ≤ section.source.last → AllIn section (fde_instructions section fde)
fde_inside section fde begins ends = all_read_in (position_of section) _ fde.instructions section.source refl begins ends

module _ {X : Type 0} (place : X → TableState (State ℕ) ℕ) (s : Setting) (free : Bool) (section : Section) (cie fde : Readings Instruction) where
  abbrev State_of : Result X Error → Result (State ℕ) Error
  State_of made = map_ok (λ x. (place x).so_far) made

  come : (x : X) → (place x).has_ended ≡ false → rows_to_come s (place x) ≡ rows_of (run_answers s (place x).so_far (place x).left)
  come x going = ap (λ b. rows_of (cond b [] (run_answers s (place x).so_far (place x).left))) going

  rows_follow : (made : Result X Error) → AcceptsCieProgram s free cie (State_of made) → IfOk made (λ x. (place x).has_ended ≡ false) → IfOk made (λ x. AreConsecutive s.initial_address (rows_to_come s (place x)) s.end_address)
  rows_follow (Ok x) keeps going =
      subst (λ (l : List (Row ℕ)). AreConsecutive s.initial_address l s.end_address) (sym (come x going)) (run_consecutive s (place x).so_far keeps.0 (place x).left keeps.2)
  rows_follow (Err e) keeps going = tt

  in_one : (made : Result X Error) → AcceptsCieProgram s free cie (State_of made) → IfOk made (λ x. (place x).has_ended ≡ false) →
      IfOk made (λ x. (address : ℕ) → s.initial_address ≤ address → address < s.end_address → count_by (row_contains address) (rows_to_come s (place x)) ≡ 1)
  in_one (Ok x) keeps going = λ address low high.
      ap (λ (l : List (Row ℕ)). count_by (row_contains address) l) (come x going) ∙ run_in_one_row s (place x).so_far keeps.0 (place x).left keeps.2 address low high
  in_one (Err e) keeps going = tt

  inside : (made : Result X Error) → RunsInitialInstructions (may_allocate s free) s fresh_state cie (State_of made) → AllIn section cie → IfOk made (λ x. (place x).left ≡ fde) → AllIn section fde →
      IfOk made (λ x. EachOfTable (LiesIn (position_of section)) (place x))
  inside (Ok x) runs all left own = record {
    so_far = initial_holds (LiesIn (position_of section)) (may_allocate s free) s cie (Ok (place x).so_far) runs all;
    left = subst (λ (l : Readings Instruction). AllIn section l) (sym left) own;
  }
  inside (Err e) runs all left own = tt

-- the expressions of a row that is lent, in the reader's offsets
pub row_inside : {T : Type 0} (number : T → ℕ) (rule_limit stack_limit : Option ℕ) (free : Bool) (section : Section) (a : ℕ) (fde : Fde) (result : Result (Bor (Row T)) Error) →
    IsRowOfFde rule_limit stack_limit free section a fde (row_lent number result) →
    section.first ≤ fde.cie.initial_instructions.first → fde.cie.initial_instructions.last ≤ section.source.last →
    section.first ≤ fde.instructions.first → fde.instructions.last ≤ section.source.last → IfOk result (λ row. HasExpressionsIn number (position_of section) row.now.parts)
row_inside number rule_limit stack_limit free section a fde result is begins ends own_begins own_ends =
    let s = setting rule_limit stack_limit fde in
    lent_expressions number (position_of section) result
    (answer_holds (LiesIn (position_of section)) (may_allocate s free) s (cie_instructions section fde.cie) (fde_instructions section fde) a (row_lent number result)
    (row_by_run rule_limit stack_limit free section a (Ok fde) (row_lent number result) is)
    (cie_inside section fde.cie begins ends) (fde_inside section fde own_begins own_ends))

-- made under a setting, over the programs of the two
module _ {X : Type 0} (place : X → TableState (State ℕ) ℕ) (made : Result X Error) (s t : Setting) (setting : s ≡ t) (free : Bool) (section : Section) (fde : Fde)
    (cie : Readings Instruction) (cies : cie ≡ cie_instructions section fde.cie) where
  pub starts_rows : RunsInitialInstructions (may_allocate s free) s fresh_state cie (map_ok (λ x. (place x).so_far) made)
      → AcceptsCieProgram s free cie (map_ok (λ x. (place x).so_far) made)
      → IfOk made (λ x. (place x).left ≡ fde_instructions section fde) → IfOk made (λ x. (place x).has_ended ≡ false)
      → section.first ≤ fde.cie.initial_instructions.first → fde.cie.initial_instructions.last ≤ section.source.last
      → section.first ≤ fde.instructions.first → fde.instructions.last ≤ section.source.last → StartsRows place t free section fde made
  starts_rows runs keeps left going begins ends own_begins own_ends =
      let run : RunsInitialInstructions (may_allocate t free) t fresh_state (cie_instructions section fde.cie) (map_ok (λ x. (place x).so_far) made) = subst (λ x. RunsInitialInstructions (may_allocate t free) t fresh_state x (map_ok (λ x. (place x).so_far) made)) cies
      (subst (λ x. RunsInitialInstructions (may_allocate x free) x fresh_state cie (map_ok (λ x. (place x).so_far) made)) setting runs) in
      let kept : AcceptsCieProgram t free (cie_instructions section fde.cie) (map_ok (λ x. (place x).so_far) made) =
      subst (λ x. AcceptsCieProgram t free x (map_ok (λ x. (place x).so_far) made)) cies
      (subst (λ x. AcceptsCieProgram x free cie (map_ok (λ x. (place x).so_far) made)) setting keeps) in
      record {
        run = run;
        kept = kept;
        left = left;
        has_not_ended = going;
        consecutive = rows_follow place t free section _ (fde_instructions section fde) made kept going;
        each_once = in_one place t free section _ (fde_instructions section fde) made kept going;
        expressions = inside place t free section _ (fde_instructions section fde) made run (cie_inside section fde.cie begins ends) left (fde_inside section fde own_begins own_ends);
      }
