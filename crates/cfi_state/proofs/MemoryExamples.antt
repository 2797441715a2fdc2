-- Memory that is refused where a state is remembered, over a storage that grows: the instruction is left out, so that the
-- next restore has nothing to bring back. And where an answer may run out of memory.
use Rattle.std.proofs.Common.{◌≡◌, ℕ, Bool, true, false, pos, negsuc, List, [], ◌∷◌, Option, Some, None, Result, Ok, Err, refl, inl, inr}
use Rattle.cfi_read_core.specs.ReadFunctions.{Readings}
use Rattle.cfi_read_core.specs.declared.error.Error.{Error}
use Rattle.cfi_read_core.specs.declared.error.Error.TheVariants.{OutOfMemory, PopWithEmptyStack}
use Rattle.cfi_read_core.specs.declared.instruction.CallFrameInstruction.{CallFrameInstruction}
use Rattle.cfi_read_core.specs.declared.instruction.CallFrameInstruction.TheVariants as instruction
use Rattle.cfi_state.specs.declared.table.rules.CfaRule.TheVariants as cfa
use Rattle.cfi_state.specs.Row.{Row}
use Rattle.cfi_state.specs.MachineSettings.{Setting}
use Rattle.cfi_state.specs.Machine.{State, no_rules}
use Rattle.cfi_state.specs.UnwindTableStates.{TableState, before_last_row, after_last_row}
use Rattle.cfi_state.proofs.RuleMaps.{map_values}
use Rattle.cfi_state.specs.MemoryOnTheWay.{may_allocate_on_the_way}
use Rattle.cfi_state.specs.MachineRuns.{NextAnswer, passes, refuses, last_row}
use Rattle.cfi_state.specs.Allocation.{may_allocate}

-- no limits, and copies of rules allocate; the FDE covers 0x1000 up to 0x1020
abbrev growing : Setting
growing = record { address_size = 8; code_alignment_factor = 1; data_alignment_factor = negsuc 7; initial_address = 4096; end_address = 4128; rule_limit = None; stack_limit = None }

abbrev at_offset : ℕ → State ℕ
at_offset offset = record {
  location = 4096;
  parts = record { cfa = cfa.RegisterAndOffset (record { 0 = 7 }) (pos offset); rules = no_rules; args_size = 0 };
  remembered = [];
  initial_rules = Some no_rules;
}

abbrev reads : List (CallFrameInstruction ℕ) → Readings (CallFrameInstruction ℕ)
reads xs = record { values = xs; refusal = None }

abbrev Answers : TableState (State ℕ) ℕ → Result (Option (Row ℕ)) Error → TableState (State ℕ) ℕ → Type 0
Answers = NextAnswer (may_allocate growing false) growing

remember_refused : Answers (before_last_row (at_offset 8) (reads (instruction.RememberState ∷ instruction.DefCfaOffset 32 ∷ instruction.RestoreState ∷ []))) (Err OutOfMemory) (before_last_row (at_offset 8) (reads (instruction.DefCfaOffset 32 ∷ instruction.RestoreState ∷ [])))
remember_refused = refuses _ _ _ _ (inr (refl, refl, refl))

restore_refused : Answers (before_last_row (at_offset 8) (reads (instruction.DefCfaOffset 32 ∷ instruction.RestoreState ∷ []))) (Err PopWithEmptyStack) (before_last_row (at_offset 32) (reads []))
restore_refused = passes _ (at_offset 32) _ _ _ _ refl refl (refuses _ _ _ _ (inl refl))

row_with_offset : Answers (before_last_row (at_offset 32) (reads [])) (Ok (Some (record { start_address = 4096; end_address = 4128; parts = (at_offset 32).parts }))) (after_last_row (at_offset 32) (reads []))
row_with_offset = last_row _

-- a stack with a limit has its room, but a row's copy may take memory
abbrev bounded : Setting
bounded = record growing { stack_limit = Some 4 }

abbrev before_the_end : State ℕ
before_the_end = record (at_offset 8) { initial_rules = None }

copy_refused : NextAnswer (may_allocate bounded false) bounded (before_last_row before_the_end (reads (instruction.RememberState ∷ []))) (Err OutOfMemory) (before_last_row before_the_end (reads []))
copy_refused = refuses _ _ _ _ (inr (refl, refl, refl))

-- ---- where the answer for an address may run out of memory

abbrev may_run_out : Setting → Bool → List (CallFrameInstruction ℕ) → List (CallFrameInstruction ℕ) → ℕ → Bool
may_run_out s free cie fde address = may_allocate_on_the_way (may_allocate s free) s (reads cie) (reads fde) address

-- the row up to 0x1001 is complete before the state is remembered
before_the_row : may_run_out growing false [] (instruction.AdvanceLoc 1 ∷ instruction.RememberState ∷ []) 4097 ≡ true
before_the_row = simp map_values

after_the_row : may_run_out growing false [] (instruction.AdvanceLoc 1 ∷ instruction.RememberState ∷ []) 4096 ≡ false
after_the_row = simp map_values

-- below the FDE no row contains the address
no_row : may_run_out growing false [] (instruction.AdvanceLoc 1 ∷ instruction.RememberState ∷ []) 4095 ≡ true
no_row = simp map_values

after_a_refusal : may_run_out growing false [] (instruction.RestoreState ∷ instruction.RememberState ∷ []) 4096 ≡ false
after_a_refusal = simp map_values

after_the_refusal_of_the_cie : may_run_out growing false (instruction.RestoreState ∷ []) (instruction.RememberState ∷ []) 4096 ≡ false
after_the_refusal_of_the_cie = refl

in_the_cie : may_run_out growing false (instruction.RememberState ∷ []) [] 4096 ≡ true
in_the_cie = refl

-- a rule more, in a list without a limit
rule_added : may_run_out growing false (instruction.Undefined (record { 0 = 3 }) ∷ []) [] 4096 ≡ true
rule_added = simp map_values

over_a_fixed_storage : may_run_out (record growing { rule_limit = Some 192; stack_limit = Some 4 }) true (instruction.Undefined (record { 0 = 3 }) ∷ instruction.RememberState ∷ []) (instruction.RememberState ∷ []) 4096 ≡ false
over_a_fixed_storage = simp map_values
