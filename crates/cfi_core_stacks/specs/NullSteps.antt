-- The call of a null pointer. No code is at the address 0, so that a frame that was interrupted
-- there has done nothing. Its caller's registers are its own, and the caller goes on where the call
-- says: on x86-64 at the number at the stack pointer, which the call pushed (System V psABI,
-- section 3.2.2), on AArch64 at x30 (AAPCS64, section 6.1.1).
--     is_null_call at      whether an innermost frame was interrupted at the address 0
--     caller_of machine memory registers      its caller
--     IsNullStep machine memory IsStep s result caller      what a step returns and writes: by
--         call frames, or where these have nothing and it is such a call by that
use Rattle.std.specs.Prelude.{◌≡◌, ℕ, ◌+◌, ◌%◌, ◌^◌, ◌&&◌, ◌==◌, Bool, true, false, List, length}
use Rattle.std.specs.Prelude.{map, is_none, ok_or, Option, Some, Result, Ok, Err, if◌then◌else◌}
use Rattle.std.specs.List.{range_with_len}
use Rattle.cfi_expression.specs.declared.error.FrameError.{FrameError}
use Rattle.cfi_expression.specs.declared.error.FrameError.TheVariants.{UnknownRegister}
use Rattle.cfi_expression.specs.declared.error.FrameError.TheVariants.{UnreadableMemory}
use Rattle.cfi_expression.specs.Frames.{known}
use Rattle.cfi_read_core.specs.ReaderCalls.{map_ok}
use Rattle.cfi_step.specs.declared.step.Caller.{Caller}
use Rattle.cfi_step.specs.declared.walk.End.{End}
use Rattle.cfi_step.specs.declared.walk.Start.{Start}
use Rattle.cfi_step.specs.Callers.{on_ok}
use Rattle.cfi_step.specs.Walks.{State, checked}
use Rattle.cfi_processes.specs.declared.registers.SampleMachine.{SampleMachine}
use Rattle.cfi_processes.specs.declared.registers.SampleMachine.TheVariants.{X86_64, AArch64}
use Rattle.cfi_processes.specs.Registers.{machine_abi}
use Rattle.cfi_core_stacks.specs.MissingFrames.{has_no_frames}

-- the innermost frame called none
abbrev pub is_null_call : Start → Bool
is_null_call at = is_none at.callee_cfa && (at.pc == 0)

-- by the CFA, which is the caller's stack pointer, and by where the caller goes on
abbrev pub called_from : ℕ → ℕ → Caller
called_from the_cfa pc =
    record { cfa = the_cfa; pc = Some pc; is_interrupted = false; args_size = 0 }

abbrev pub value_in_frame : List (Option ℕ) → ℕ → Result ℕ FrameError
value_in_frame registers k = ok_or (known registers k) (UnknownRegister (record { 0 = k }))

abbrev pub by_pushed : (ℕ → ℕ → Option ℕ) → ℕ → Result Caller FrameError
by_pushed memory sp =
    map_ok (called_from ((sp + 8) % 2 ^ 64)) (ok_or (memory sp 8) (UnreadableMemory sp))

abbrev pub by_link : List (Option ℕ) → ℕ → Result Caller FrameError
by_link registers sp = map_ok (called_from sp) (value_in_frame registers 30)

abbrev pub caller_of :
    SampleMachine → (ℕ → ℕ → Option ℕ) → List (Option ℕ) → Result Caller FrameError
caller_of X86_64 memory registers = on_ok (by_pushed memory) (value_in_frame registers 7)
caller_of AArch64 memory registers = on_ok (by_link registers) (value_in_frame registers 31)

-- its registers are those of the frame but for the stack pointer; where no caller is found, what
-- was there is left
abbrev pub value_in_caller : SampleMachine → List (Option ℕ) → ℕ → ℕ → Option ℕ
value_in_caller machine registers the_cfa k =
    if k == (machine_abi machine).stack_pointer.0 then Some the_cfa else known registers k

abbrev pub caller_registers :
    SampleMachine → List (Option ℕ) → Result Caller FrameError → ℕ → List (Option ℕ) →
    List (Option ℕ)
caller_registers machine registers (Ok c) count left =
    map (value_in_caller machine registers c.cfa) (range_with_len 0 count)
caller_registers machine registers (Err e) count left = left

-- ---- a step

module _ (machine : SampleMachine) (memory : ℕ → ℕ → Option ℕ) where
  abbrev pub is_null : State → Result Caller End → Bool
  is_null s step = has_no_frames step && is_null_call s.at

  -- by the call frames a step is found, and this is written for it
  abbrev pub IsNullOr :
      Bool → State → Result Caller End → List (Option ℕ) → Result Caller End → List (Option ℕ) →
      Type 0
  IsNullOr true s step found result caller =
      let by_call = caller_of machine memory s.registers in
      (result ≡ checked s.at by_call)
      × (caller ≡ caller_registers machine s.registers by_call (length s.caller) found)
  IsNullOr false s step found result caller = (result ≡ step) × (caller ≡ found)

  abbrev pub IsNullStep :
      (State → Result Caller End → List (Option ℕ) → Type 0) → State → Result Caller End →
      List (Option ℕ) → Type 0
  IsNullStep IsStep s result caller =
      (step : Result Caller End) × (found : List (Option ℕ)) × IsStep s step found
      × IsNullOr (is_null s step) s step found result caller
