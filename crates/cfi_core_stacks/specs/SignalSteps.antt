-- Where a signal handler of AArch64 returns to (Linux, arch/arm64: __kernel_rt_sigreturn of the
-- vdso, struct rt_sigframe of kernel/signal.c, struct sigcontext of uapi/asm/sigcontext.h). The
-- vdso has no call frames there, so that unwinders know it by its two instructions, and take the
-- registers of the code that was interrupted from the frame that the kernel wrote.
--     is_signal_trampoline machine memory pc      whether the two instructions are at an address
--     interrupted memory registers      the caller of their frame, which a signal interrupted
--     IsSignalStep machine memory IsStep s result caller      what a step returns and writes:
--         by call frames, or where these have nothing and the trampoline is there by the kernel's
--         frame
use Rattle.std.specs.Prelude.{◌≡◌, ℕ, ◌+◌, ◌*◌, ◌%◌, ◌^◌, ◌&&◌, ◌==◌, Bool, true, false, List}
use Rattle.std.specs.Prelude.{length, map, nat_lt, ok_or, Option, Some, None, Result, Ok, Err}
use Rattle.std.specs.Prelude.{if◌then◌else◌}
use Rattle.std.specs.List.{range_with_len}
use Rattle.std.specs.Option.{option_map_or}
use Rattle.cfi_expression.specs.declared.error.FrameError.{FrameError}
use Rattle.cfi_expression.specs.declared.error.FrameError.TheVariants.{UnknownRegister}
use Rattle.cfi_expression.specs.declared.error.FrameError.TheVariants.{UnreadableMemory}
use Rattle.cfi_expression.specs.Frames.{known}
use Rattle.cfi_read_core.specs.ReaderCalls.{map_ok}
use Rattle.cfi_step.specs.declared.step.Caller.{Caller}
use Rattle.cfi_step.specs.declared.walk.End.{End}
use Rattle.cfi_step.specs.Callers.{on_ok}
use Rattle.cfi_step.specs.Walks.{State, checked}
use Rattle.cfi_processes.specs.declared.registers.SampleMachine.{SampleMachine}
use Rattle.cfi_processes.specs.declared.registers.SampleMachine.TheVariants.{X86_64, AArch64}
use Rattle.cfi_core_stacks.specs.MissingFrames.{has_no_frames}

-- ---- the trampoline

-- mov x8, #139, the number of rt_sigreturn, is 0xd2801168, and svc #0 after it 0xd4000001; a core
-- has the least significant byte first
abbrev pub calls_sigreturn : Option ℕ → Bool
calls_sigreturn code = option_map_or (λ n. n == 0xd4000001d2801168) code false

abbrev pub is_signal_trampoline : SampleMachine → (ℕ → ℕ → Option ℕ) → ℕ → Bool
is_signal_trampoline X86_64 memory pc = false
is_signal_trampoline AArch64 memory pc = calls_sigreturn (memory pc 8)

-- ---- the kernel's frame

-- at the stack pointer is siginfo, of 128 bytes, and then struct ucontext, in which struct
-- sigcontext is after 176
abbrev pub sigcontext_at : ℕ → ℕ
sigcontext_at sp = (sp + (128 + 176)) % 2 ^ 64

-- fault_address, of eight bytes, and then x0 to x30, the stack pointer and the pc, which have the
-- numbers of DWARF's: 0 to 32
abbrev pub register_place : ℕ → ℕ → ℕ
register_place context k = (context + (8 + 8 * k)) % 2 ^ 64

abbrev pub saved_in : (ℕ → ℕ → Option ℕ) → ℕ → ℕ → Option ℕ
saved_in memory context k = if nat_lt k 33 then memory (register_place context k) 8 else None

-- the pc of what was interrupted; the frame's own CFA is where the registers are, which is above
-- the handler's
abbrev pub interrupted_at : ℕ → ℕ → Caller
interrupted_at context pc =
    record { cfa = context; pc = Some pc; is_interrupted = true; args_size = 0 }

abbrev pub pc_saved : (ℕ → ℕ → Option ℕ) → ℕ → Result Caller FrameError
pc_saved memory context =
    map_ok (interrupted_at context)
    (ok_or (saved_in memory context 32) (UnreadableMemory (register_place context 32)))

abbrev pub interrupted : (ℕ → ℕ → Option ℕ) → List (Option ℕ) → Result Caller FrameError
interrupted memory registers =
    on_ok (λ sp. pc_saved memory (sigcontext_at sp))
    (ok_or (known registers 31) (UnknownRegister (record { 0 = 31 })))

-- so many of its registers; where no caller is found, what was there is left
abbrev pub interrupted_registers :
    (ℕ → ℕ → Option ℕ) → Result Caller FrameError → ℕ → List (Option ℕ) → List (Option ℕ)
interrupted_registers memory (Ok c) count left =
    map (saved_in memory c.cfa) (range_with_len 0 count)
interrupted_registers memory (Err e) count left = left

-- ---- a step

module _ (machine : SampleMachine) (memory : ℕ → ℕ → Option ℕ) where
  abbrev pub is_signal : State → Result Caller End → Bool
  is_signal s step = has_no_frames step && is_signal_trampoline machine memory s.at.pc

  -- by the call frames a step is found, and this is written for it
  abbrev pub IsSignalOr :
      Bool → State → Result Caller End → List (Option ℕ) → Result Caller End → List (Option ℕ) →
      Type 0
  IsSignalOr true s step found result caller =
      let by_kernel = interrupted memory s.registers in
      (result ≡ checked s.at by_kernel)
      × (caller ≡ interrupted_registers memory by_kernel (length s.caller) found)
  IsSignalOr false s step found result caller = (result ≡ step) × (caller ≡ found)

  abbrev pub IsSignalStep :
      (State → Result Caller End → List (Option ℕ) → Type 0) → State → Result Caller End →
      List (Option ℕ) → Type 0
  IsSignalStep IsStep s result caller =
      (step : Result Caller End) × (found : List (Option ℕ)) × IsStep s step found
      × IsSignalOr (is_signal s step) s step found result caller
