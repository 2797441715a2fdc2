-- How the evaluation of single instructions makes up a run, for loops whose invariant goes backwards: what comes next from
-- where the loop is, also comes next from where it began.
--     LeadsTo, leads-on, next-row      the rows of an FDE
--     LeadsToCie, cie-leads-on, cie-refused, cie-unreadable, cie-ended, cie-end-refused      the program of a CIE
use Rattle.std.proofs.Common.{◌≡◌, true, false, Option, Some, None, Result, Ok, Err, sym, subst}
use Rattle.cfi_read_core.specs.ReadFunctions.{Readings, with_first, no_values}
use Rattle.cfi_read_core.specs.declared.error.Error.{Error}
use Rattle.cfi_read_core.specs.declared.instruction.CallFrameInstruction.{CallFrameInstruction}
use Rattle.cfi_state.specs.Row.{Row}
use Rattle.cfi_state.specs.MachineSettings.{Setting, is_move}
use Rattle.cfi_state.specs.Machine.{State, step, end_of_cie}
use Rattle.cfi_state.specs.AllocatingOperations.{IsRefusal}
use Rattle.cfi_state.specs.UnwindTableStates.{TableState, before_last_row}
use Rattle.cfi_state.specs.MachineRuns.{current_row, NextAnswer, passes, ends_row, RunsInitialInstructions, cie_passes, cie_refuses, cie_cannot_read, cie_ends, cie_end_refused}
use Rattle.cfi_state.specs.Allocation.{MayAllocate}

module _ {T : Type 0} (allocates : MayAllocate T) (s : Setting) where
  -- ---- the rows of an FDE

  -- what comes next at the place q also comes next at the place p
  abbrev pub LeadsTo : TableState (State T) T → TableState (State T) T → Type 0
  LeadsTo p q = (answer : Result (Option (Row T)) Error) (after : TableState (State T) T) → NextAnswer allocates s q answer after → NextAnswer allocates s p answer after

  module _ (p : TableState (State T) T) (x : State T) (left : Readings (CallFrameInstruction T)) (leads : LeadsTo p (before_last_row x left)) where
    at_place : (rest : Readings (CallFrameInstruction T)) (answer : Result (Option (Row T)) Error) (after : TableState (State T) T) → left ≡ rest → NextAnswer allocates s (before_last_row x rest) answer after → NextAnswer allocates s p answer after
    at_place rest answer after is next = leads answer after (subst (λ l. NextAnswer allocates s (before_last_row x l) answer after) (sym is) next)

    module _ (i : CallFrameInstruction T) (rest : Readings (CallFrameInstruction T)) (reads : left ≡ with_first i rest) where
      pub leads-on : (y : State T) → is_move i ≡ false → step s x i ≡ Ok y → LeadsTo p (before_last_row y rest)
      leads-on y still stepped answer after next = at_place _ _ _ reads (passes x y i rest answer after still stepped next)

      pub next-row : (y : State T) → is_move i ≡ true → step s x i ≡ Ok y → NextAnswer allocates s p (Ok (Some (current_row x y.location))) (before_last_row y rest)
      next-row y moves stepped = at_place _ _ _ reads (ends_row x y i rest moves stepped)

  -- ---- the program of a CIE

  abbrev pub LeadsToCie : State T → Readings (CallFrameInstruction T) → State T → Readings (CallFrameInstruction T) → Type 0
  LeadsToCie first all x left = (result : Result (State T) Error) → RunsInitialInstructions allocates s x left result → RunsInitialInstructions allocates s first all result

  module _ (first : State T) (all : Readings (CallFrameInstruction T)) (x : State T) (left : Readings (CallFrameInstruction T)) (leads : LeadsToCie first all x left) where
    at_reads : (rest : Readings (CallFrameInstruction T)) (result : Result (State T) Error) → left ≡ rest → RunsInitialInstructions allocates s x rest result → RunsInitialInstructions allocates s first all result
    at_reads rest result is runs = leads result (subst (λ l. RunsInitialInstructions allocates s x l result) (sym is) runs)

    pub cie-unreadable : (e : Error) → left ≡ no_values (Some e) → RunsInitialInstructions allocates s first all (Err e)
    cie-unreadable e is = at_reads _ _ is (cie_cannot_read x e)

    pub cie-ended : (y : State T) → left ≡ no_values None → end_of_cie s x ≡ Ok y → RunsInitialInstructions allocates s first all (Ok y)
    cie-ended y is ends = at_reads _ _ is (cie_ends x y ends)

    pub cie-end-refused : (e : Error) → left ≡ no_values None → IsRefusal (allocates.at_end x) (end_of_cie s x) e → RunsInitialInstructions allocates s first all (Err e)
    cie-end-refused e is refusal = at_reads _ _ is (cie_end_refused x e refusal)

    module _ (i : CallFrameInstruction T) (rest : Readings (CallFrameInstruction T)) (reads : left ≡ with_first i rest) where
      pub cie-leads-on : (y : State T) → step s x i ≡ Ok y → LeadsToCie first all y rest
      cie-leads-on y stepped result runs = at_reads _ _ reads (cie_passes x y i rest result stepped runs)

      pub cie-refused : (e : Error) → IsRefusal (allocates.at x i) (step s x i) e → RunsInitialInstructions allocates s first all (Err e)
      cie-refused e refusal = at_reads _ _ reads (cie_refuses x i rest e refusal)
