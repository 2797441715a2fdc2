-- The result of an FDE for an address over any storage: the function's, or `OutOfMemory` where an
-- instruction that may allocate is reached on the way to it.
--     has_passed      a row of the FDE that contains the address has ended
--     reaches_allocation      an instruction that may allocate is reached
--     may_allocate_on_the_way      the same of the programs of a CIE and an FDE
--     AnswersOrRunsOut      the result that is due or, where one may allocate, `OutOfMemory`
use Rattle.std.specs.Prelude.{◌≡◌, ◌⊎◌, ℕ, Bool, false, not, ◌&&◌, ◌||◌, nat_le, nat_lt, List, []}
use Rattle.std.specs.Prelude.{◌∷◌, is_none, IsTrue, Result, Err}
use Rattle.cfi_read_core.specs.ReadFunctions.{Readings}
use Rattle.cfi_read_core.specs.declared.error.Error.{Error}
use Rattle.cfi_read_core.specs.declared.error.Error.TheVariants.{OutOfMemory}
use Rattle.cfi_read_core.specs.declared.instruction.CallFrameInstruction.{CallFrameInstruction}
use Rattle.cfi_state.specs.Row.{Row}
use Rattle.cfi_state.specs.MachineSettings.{Setting}
use Rattle.cfi_state.specs.Program.{Program, in_cie, in_fde, followed_by, location_of, refusal}
use Rattle.cfi_state.specs.FdeAnswers.{cie_refusal, program_state, fde_answer}
use Rattle.cfi_state.specs.Allocation.{MayAllocate}

module _ {T : Type 0} where
  -- the rows that have ended reach from the FDE's initial address up to the location; a CIE's
  -- program has none
  abbrev pub has_passed : Setting → ℕ → Program T → Bool
  has_passed setting address (in_cie cie) = false
  has_passed setting address (in_fde cie fde) =
      nat_le setting.initial_address address
      && nat_lt address (location_of setting (in_fde cie fde))

  -- the instructions before it and itself are accepted, and no row with the address has ended
  abbrev pub reaches_allocation :
      MayAllocate T → Setting → ℕ → Program T → List (CallFrameInstruction T) → Bool
  reaches_allocation allocates setting address program [] = false
  reaches_allocation allocates setting address program (instruction ∷ rest) =
      not (has_passed setting address program) && is_none (refusal setting program instruction)
      && (allocates.at (program_state setting program) instruction
      || reaches_allocation allocates setting address (followed_by program instruction) rest)

  -- in the CIE's initial instructions or, where these are accepted, at their end or in the FDE's
  abbrev pub may_allocate_on_the_way :
      MayAllocate T → Setting → Readings (CallFrameInstruction T)
      → Readings (CallFrameInstruction T) → ℕ → Bool
  may_allocate_on_the_way allocates setting cie fde address =
      reaches_allocation allocates setting address (in_cie []) cie.values
      || is_none (cie_refusal setting cie)
      && (allocates.at_end (program_state setting (in_cie cie.values))
      || reaches_allocation allocates setting address (in_fde cie.values []) fde.values)

  abbrev pub IsDueOrOutOfMemory :
      Result (Row T) Error → Bool → Result (Row T) Error → Type 0
  IsDueOrOutOfMemory due allocates answer =
      (answer ≡ due) ⊎ (IsTrue allocates × (answer ≡ Err OutOfMemory))

  -- the result of an FDE for an address
  abbrev pub AnswersOrRunsOut :
      MayAllocate T → Setting → Readings (CallFrameInstruction T)
      → Readings (CallFrameInstruction T) → ℕ → Result (Row T) Error → Type 0
  AnswersOrRunsOut allocates setting cie fde address =
      IsDueOrOutOfMemory (fde_answer setting cie fde address)
      (may_allocate_on_the_way allocates setting cie fde address)
