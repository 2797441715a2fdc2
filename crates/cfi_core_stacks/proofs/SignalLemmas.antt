-- Steps over signal trampolines, where less of the memory is known: they are those where more is, unless something is lacking.
use Rattle.std.proofs.Common.{◌≡◌, ◌∙◌, ◌&&◌, ℕ, Bool, true, false, List, length, Option, Some, None, Result, Ok, Err, refl, sym, ap, subst, true≢false}
use Rattle.std.specs.Prelude.{nat_lt, if◌then◌else◌}
use Rattle.cfi_read_core.specs.ReadFunctions.{Position}
use Rattle.cfi_expression.specs.declared.error.FrameError.{FrameError}
use Rattle.cfi_expression.specs.declared.error.FrameError.TheVariants.{UnknownRegister, UnreadableMemory}
use Rattle.cfi_expression.specs.Frames.{known}
use Rattle.cfi_expression.proofs.LesserFrames.{AreKnown, Extends, lacks}
use Rattle.cfi_step.specs.declared.abi.Abi.{Abi}
use Rattle.cfi_step.specs.declared.module.LoadedModule.{LoadedModule}
use Rattle.cfi_step.specs.declared.step.Caller.{Caller}
use Rattle.cfi_step.specs.declared.walk.End.{End}
use Rattle.cfi_step.specs.declared.walk.StackFrame.{StackFrame}
use Rattle.cfi_step.specs.declared.walk.Start.{Start}
use Rattle.cfi_step.specs.Walks.{IsStepAmong, IsWalkBy, State, checked, written}
use Rattle.cfi_step.proofs.LesserWalks.{AreMore, Goes, Stepped, lacks_by, lacks_end, lacks_step, state}
use Rattle.cfi_processes.specs.declared.registers.SampleMachine.{SampleMachine}
use Rattle.cfi_processes.specs.declared.registers.SampleMachine.TheVariants.{X86_64, AArch64}
use Rattle.cfi_processes.specs.Registers.{machine_abi}
use Rattle.cfi_core_stacks.specs.MissingFrames.{has_no_frames, lacks_frames}
use Rattle.cfi_core_stacks.specs.NullSteps.{IsNullStep}
use Rattle.cfi_core_stacks.specs.KnownCores.{end_lacks, may_be_signal, misses_value}
use Rattle.cfi_core_stacks.specs.SignalSteps.{IsSignalOr, IsSignalStep, calls_sigreturn, interrupted, interrupted_at, interrupted_registers, is_signal, is_signal_trampoline, pc_saved, register_place, saved_in, sigcontext_at}
use Rattle.cfi_core_stacks.specs.ThreadFrames.{IsThreadStep}
use Rattle.cfi_core_stacks.proofs.MissingLemmas.{and_first, and_none, and_second, as_many_mapped, by_mapped, by_value, frames_whole, known_mapped, or_first, or_second, raw_whole, same_misses}

step_whole : (machine : SampleMachine) (step : Result Caller End) → lacks_by (end_lacks machine) step ≡ false → lacks_step step ≡ false
step_whole machine (Ok c) whole = refl
step_whole machine (Err end) whole = same_misses end ∙ or_first (misses_value end) (may_be_signal machine end) whole

-- where a trampoline isn't seen, and nothing is lacking, none is there
not_signal : (machine : SampleMachine) (memory : ℕ → ℕ → Option ℕ) (pc : ℕ) (step : Result Caller End) → lacks_by (end_lacks machine) step ≡ false → (has_no_frames step && is_signal_trampoline machine memory pc) ≡ false
not_signal X86_64 memory pc step whole = and_none (has_no_frames step)
not_signal AArch64 memory pc (Ok c) whole = refl
not_signal AArch64 memory pc (Err end) whole = ap (λ (b : Bool). b && is_signal_trampoline AArch64 memory pc) (or_second (misses_value end) (lacks_frames end) whole)

-- ---- the kernel's frame, of which more is known

module _ {m m' : ℕ → ℕ → Option ℕ} (more : Extends m m') where
  saved_if : (b : Bool) (a n : ℕ) → (if b then m a 8 else None) ≡ Some n → (if b then m' a 8 else None) ≡ Some n
  saved_if true a n is = more.numbers a 8 n is
  saved_if false a n is = absurd (cc)

  saved_more : (context k n : ℕ) → saved_in m context k ≡ Some n → saved_in m' context k ≡ Some n
  saved_more context k n is = saved_if (nat_lt k 33) (register_place context k) n is

  code_more : (o o' : Option ℕ) → ((n : ℕ) → o ≡ Some n → o' ≡ Some n) → calls_sigreturn o ≡ true → calls_sigreturn o' ≡ true
  code_more (Some n) o' same is = ap calls_sigreturn (same n refl) ∙ is
  code_more None o' same is = absurd (true≢false (sym is))

  trampoline_more : (machine : SampleMachine) (pc : ℕ) → is_signal_trampoline machine m pc ≡ true → is_signal_trampoline machine m' pc ≡ true
  trampoline_more X86_64 pc is = is
  trampoline_more AArch64 pc is = code_more (m pc 8) (m' pc 8) (more.numbers pc 8) is

  same_pc : (context : ℕ) → lacks (pc_saved m context) ≡ false → pc_saved m context ≡ pc_saved m' context
  same_pc context whole = by_mapped (interrupted_at context) (saved_in m context 32) (saved_in m' context 32) (UnreadableMemory (register_place context 32)) refl (saved_more context 32) whole

  same_interrupted : (rs rs' : List (Option ℕ)) → AreKnown rs rs' → lacks (interrupted m rs) ≡ false → interrupted m rs ≡ interrupted m' rs'
  same_interrupted rs rs' are whole =
      by_value (λ sp. pc_saved m (sigcontext_at sp)) (λ sp. pc_saved m' (sigcontext_at sp)) (λ sp whole. same_pc (sigcontext_at sp) whole) (known rs 31) (known rs' 31) (UnknownRegister (record { 0 = 31 })) refl (are.each 31) whole

  -- ---- its registers

  goes_saved : (raw : Result Caller FrameError) (at : Start) (result : Result Caller End) (count count' : ℕ) (left left' : List (Option ℕ)) → count ≡ count' → result ≡ checked at raw
      → Goes result (interrupted_registers m raw count left) (interrupted_registers m' raw count' left')
  goes_saved (Ok c) at (Ok d) count count' left left' same is = (
    as_many_mapped (saved_in m c.cfa) (saved_in m' c.cfa) count count' same,
    known_mapped (saved_in m c.cfa) (saved_in m' c.cfa) (saved_more c.cfa) count count' same,
  )
  goes_saved (Ok c) at (Err e) count count' left left' same is = tt
  goes_saved (Err e) at (Ok d) count count' left left' same is = absurd (cc)
  goes_saved (Err e) at (Err f) count count' left left' same is = tt

  -- ---- a step

  module _ (machine : SampleMachine) (IsLess IsAll : State → Result Caller End → List (Option ℕ) → Type 0) (plain : AreMore lacks_end IsLess IsAll) where
    by_kernel : (at : Start) (rs rs' room room' : List (Option ℕ)) → AreKnown rs rs' → length room ≡ length room' → (result step : Result Caller End) (found left : List (Option ℕ)) → lacks_by (end_lacks machine) result ≡ false
        → IsLess (state at rs room) step left → is_signal machine m (state at rs room) step ≡ true
        → result ≡ checked at (interrupted m rs) → found ≡ interrupted_registers m (interrupted m rs) (length room) left
        → Stepped (IsSignalStep machine m' IsAll (state at rs' room') result) result found
    by_kernel at rs rs' room room' are same result step found left whole is signal checks registers =
        let none = and_first (has_no_frames step) (is_signal_trampoline machine m at.pc) signal in
        let there = trampoline_more machine at.pc (and_second (has_no_frames step) (is_signal_trampoline machine m at.pc) signal) in
        let p = plain at rs rs' room room' are same step left (frames_whole step none) is in
        let raw_same = same_interrupted rs rs' are (raw_whole at (interrupted m rs) result checks (step_whole machine result whole)) in
        let raw = interrupted m rs in
        let seen : is_signal machine m' (state at rs' room') step ≡ true = ap (λ (b : Bool). b && is_signal_trampoline machine m' at.pc) none ∙ there in
        record {
          written = interrupted_registers m' raw (length room') p.written;
          is_step = (
            step,
            p.written,
            p.is_step,
            subst (λ (b : Bool). IsSignalOr machine m' b (state at rs' room') step p.written result (interrupted_registers m' raw (length room') p.written)) (sym seen) (
              checks ∙ ap (checked at) raw_same,
              ap (λ (r : Result Caller FrameError). interrupted_registers m' r (length room') p.written) raw_same,
            ),
          );
          goes = subst (λ (c : List (Option ℕ)). Goes result c (interrupted_registers m' raw (length room') p.written)) (sym registers) (goes_saved raw at result (length room) (length room') left p.written same checks);
        }

    by_frames : (at : Start) (rs rs' room room' : List (Option ℕ)) → AreKnown rs rs' → length room ≡ length room' → (result step : Result Caller End) (found left : List (Option ℕ)) → lacks_by (end_lacks machine) step ≡ false
        → IsLess (state at rs room) step left → result ≡ step → found ≡ left
        → Stepped (IsSignalStep machine m' IsAll (state at rs' room') result) result found
    by_frames at rs rs' room room' are same result step found left whole is same_step same_left =
        let p = plain at rs rs' room room' are same step left (step_whole machine step whole) is in
        let unseen : is_signal machine m' (state at rs' room') step ≡ false = not_signal machine m' at.pc step whole in
        record {
          written = p.written;
          is_step = (step, p.written, p.is_step, subst (λ (b : Bool). IsSignalOr machine m' b (state at rs' room') step p.written result p.written) (sym unseen) (same_step, refl));
          goes = subst (λ (r : Result Caller End). Goes r found p.written) (sym same_step) (subst (λ (c : List (Option ℕ)). Goes step c p.written) (sym same_left) p.goes);
        }

    pub signals_more : AreMore (end_lacks machine) (IsSignalStep machine m IsLess) (IsSignalStep machine m' IsAll)
    signals_more at rs rs' room room' are same result found whole (step, left, is, how) = by (is_signal machine m (state at rs room) step) refl how
      where
        by : (b : Bool) → is_signal machine m (state at rs room) step ≡ b → IsSignalOr machine m b (state at rs room) step left result found → Stepped (IsSignalStep machine m' IsAll (state at rs' room') result) result found
        by true signal (checks, registers) = by_kernel at rs rs' room room' are same result step found left whole is signal checks registers
        by false signal (same_step, same_left) = by_frames at rs rs' room room' are same result step found left (sym (ap (lacks_by (end_lacks machine)) same_step) ∙ whole) is same_step same_left

-- ---- the walk of a thread

module _ {R T : Type 0} (position : R → Position) (number : T → ℕ) (rule_limit stack_limit : Option ℕ) (copies_free : Bool) (modules : List (LoadedModule R)) (machine : SampleMachine) (memory : ℕ → ℕ → Option ℕ) where
  abbrev pub WalkOver : ℕ → Abi → State → List StackFrame → End → List (Option ℕ) → List (Option ℕ) → Type 0
  WalkOver size abi = IsWalkBy written (IsSignalStep machine memory (IsNullStep machine memory (IsStepAmong position number memory size abi rule_limit stack_limit copies_free modules)))

  -- of 64 bits, with the ABI of the machine
  pub of_thread : (size : ℕ) (abi : Abi) → size ≡ 8 → abi ≡ machine_abi machine → (s : State) (frames : List StackFrame) (end : End) (registers caller : List (Option ℕ)) → WalkOver size abi s frames end registers caller
      → IsWalkBy written (IsThreadStep position number rule_limit stack_limit copies_free modules machine memory) s frames end registers caller
  of_thread size abi sizes abis s frames end registers caller is =
      subst (λ (n : ℕ). WalkOver n (machine_abi machine) s frames end registers caller) sizes
      (subst (λ (a : Abi). WalkOver size a s frames end registers caller) abis is)
