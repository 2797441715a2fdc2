-- From a frame to its caller, by the row of the frame's pc (DWARF 5 section 6.4.4).
--     row_address pc is_interrupted      the address by which the row of a frame is found
--     caller_by ra trampoline parts      the CFA, the caller's pc, whether the frame is a signal
--         trampoline's, and the size of the arguments that it has pushed
--     IsStepByParts ra trampoline parts result caller      what a step returns and writes by what a
--         row says; IsStepByRow by the row, or the error in its place
--     IsStepBy .. section a found result caller      the same by the FDE that is found for the
--         address, or the error in its place
use Rattle.std.specs.Prelude.{◌≡◌, ℕ, ◌+◌, ◌-◌, ◌%◌, ◌^◌, Bool, true, false, List, length, Option}
use Rattle.std.specs.Prelude.{Result, Ok, Err, IfOk}
use Rattle.cfi_read_core.specs.declared.common.Register.{Register}
use Rattle.cfi_read_core.specs.declared.error.Error.{Error}
use Rattle.cfi_read_core.specs.ReadFunctions.{Position}
use Rattle.cfi_read_core.specs.ReaderCalls.{map_ok}
use Rattle.cfi_state.specs.Row.{Row}
use Rattle.cfi_state.specs.Machine.{Parts}
use Rattle.cfi_state.specs.MappedStates.{map_row}
use Rattle.cfi_entry.specs.Augmentations.{is_trampoline}
use Rattle.cfi_entry.specs.Sections.{Section}
use Rattle.cfi_entry.specs.Fdes.{Fde}
use Rattle.cfi_unwind.specs.AddressRow.{IsRowOfFde}
use Rattle.cfi_expression.specs.declared.error.FrameError.{FrameError}
use Rattle.cfi_expression.specs.declared.error.FrameError.TheVariants.{NoRow}
use Rattle.cfi_expression.specs.Frames.{Frame}
use Rattle.cfi_step.specs.declared.abi.Abi.{Abi}
use Rattle.cfi_step.specs.declared.step.Caller.{Caller}
use Rattle.cfi_step.specs.Callers.{AreRecovered, cfa_of, on_ok, return_address}

-- The address by which a row is found. A return address is after the call, so it is looked up less
-- one, modulo 2 ^ 64; the pc of a frame that was interrupted as it is.
abbrev pub row_address : ℕ → Bool → ℕ
row_address pc true = pc
row_address pc false = (pc + (2 ^ 64 - 1)) % 2 ^ 64

module _ (frame : Frame) (bytes : Position) (abi : Abi) {T : Type 0} (number : T → ℕ) where
  -- without a pc the frame is the outermost one
  abbrev pub caller_by : Register → Bool → Parts T → Result Caller FrameError
  caller_by ra trampoline parts =
      on_ok
      (λ the_cfa.
      map_ok
      (λ pc. record {
        cfa = the_cfa;
        pc = pc;
        is_interrupted = trampoline;
        args_size = parts.args_size;
      })
      (return_address frame bytes abi number parts the_cfa ra))
      (cfa_of frame bytes abi number parts.cfa)

  abbrev pub IsStepByParts :
      Register → Bool → Parts T → Result Caller FrameError → List (Option ℕ) → Type 0
  IsStepByParts ra trampoline parts result caller =
      (result ≡ caller_by ra trampoline parts)
      × IfOk result (λ c. AreRecovered frame bytes abi number parts c.cfa (length caller) caller)

  abbrev pub IsStepByRow :
      Register → Bool → Result (Row T) Error → Result Caller FrameError → List (Option ℕ) → Type 0
  IsStepByRow ra trampoline (Ok row) result caller =
      IsStepByParts ra trampoline row.parts result caller
  IsStepByRow ra trampoline (Err e) result caller = result ≡ Err (NoRow e)

  -- over a storage with these limits
  abbrev pub IsStepBy :
      Option ℕ → Option ℕ → Bool → Section → ℕ → Result Fde Error → Result Caller FrameError →
      List (Option ℕ) → Type 0
  IsStepBy rule_limit stack_limit copies_free section a (Ok fde) result caller =
      (row : Result (Row T) Error)
      × IsRowOfFde rule_limit stack_limit copies_free section a fde (map_ok (map_row number) row)
      × IsStepByRow fde.cie.return_address_register (is_trampoline fde.cie.augmentation) row result
      caller
  IsStepBy rule_limit stack_limit copies_free section a (Err e) result caller =
      result ≡ Err (NoRow e)
