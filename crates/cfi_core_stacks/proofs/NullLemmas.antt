-- Steps to the call of a null pointer, where less is known: they are those where more is, unless something is lacking.
use Rattle.std.proofs.Common.{◌≡◌, ◌∙◌, ◌+◌, ◌%◌, ◌^◌, ◌==◌, ℕ, Bool, true, false, List, length, Option, Some, Result, Ok, Err, refl, sym, ap, subst}
use Rattle.std.specs.Prelude.{if◌then◌else◌}
use Rattle.cfi_expression.specs.declared.error.FrameError.{FrameError}
use Rattle.cfi_expression.specs.declared.error.FrameError.TheVariants.{UnknownRegister, UnreadableMemory}
use Rattle.cfi_expression.specs.Frames.{known}
use Rattle.cfi_expression.proofs.LesserFrames.{AreKnown, Extends, lacks}
use Rattle.cfi_step.specs.declared.step.Caller.{Caller}
use Rattle.cfi_step.specs.declared.walk.End.{End}
use Rattle.cfi_step.specs.declared.walk.Start.{Start}
use Rattle.cfi_step.specs.Walks.{State, checked}
use Rattle.cfi_step.proofs.LesserWalks.{AreMore, Goes, Stepped, lacks_end, lacks_step, state}
use Rattle.cfi_processes.specs.declared.registers.SampleMachine.{SampleMachine}
use Rattle.cfi_processes.specs.declared.registers.SampleMachine.TheVariants.{X86_64, AArch64}
use Rattle.cfi_processes.specs.Registers.{machine_abi}
use Rattle.cfi_core_stacks.specs.MissingFrames.{has_no_frames}
use Rattle.cfi_core_stacks.specs.NullSteps.{IsNullOr, IsNullStep, by_link, by_pushed, called_from, caller_of, caller_registers, is_null, is_null_call, value_in_caller}
use Rattle.cfi_core_stacks.proofs.MissingLemmas.{and_first, as_many_mapped, by_mapped, by_value, frames_whole, known_mapped, raw_whole}

module _ {m m' : ℕ → ℕ → Option ℕ} (more : Extends m m') where
  -- ---- the caller

  same_pushed : (sp : ℕ) → lacks (by_pushed m sp) ≡ false → by_pushed m sp ≡ by_pushed m' sp
  same_pushed sp whole = by_mapped (called_from ((sp + 8) % 2 ^ 64)) (m sp 8) (m' sp 8) (UnreadableMemory sp) refl (more.numbers sp 8) whole

  module _ (rs rs' : List (Option ℕ)) (are : AreKnown rs rs') where
    same_link : (sp : ℕ) → lacks (by_link rs sp) ≡ false → by_link rs sp ≡ by_link rs' sp
    same_link sp whole = by_mapped (called_from sp) (known rs 30) (known rs' 30) (UnknownRegister (record { 0 = 30 })) refl (are.each 30) whole

    same_caller : (machine : SampleMachine) → lacks (caller_of machine m rs) ≡ false → caller_of machine m rs ≡ caller_of machine m' rs'
    same_caller X86_64 whole = by_value (by_pushed m) (by_pushed m') same_pushed (known rs 7) (known rs' 7) (UnknownRegister (record { 0 = 7 })) refl (are.each 7) whole
    same_caller AArch64 whole = by_value (by_link rs) (by_link rs') same_link (known rs 31) (known rs' 31) (UnknownRegister (record { 0 = 31 })) refl (are.each 31) whole

    -- ---- its registers

    value_if : (b : Bool) (the_cfa k n : ℕ) → (if b then Some the_cfa else known rs k) ≡ Some n → (if b then Some the_cfa else known rs' k) ≡ Some n
    value_if true the_cfa k n is = is
    value_if false the_cfa k n is = are.each k n is

    value_more : (machine : SampleMachine) (the_cfa k n : ℕ) → value_in_caller machine rs the_cfa k ≡ Some n → value_in_caller machine rs' the_cfa k ≡ Some n
    value_more machine the_cfa k n is = value_if (k == (machine_abi machine).stack_pointer.0) the_cfa k n is

    goes_called : (machine : SampleMachine) (raw : Result Caller FrameError) (at : Start) (result : Result Caller End) (count count' : ℕ) (left left' : List (Option ℕ)) → count ≡ count' → result ≡ checked at raw
        → Goes result (caller_registers machine rs raw count left) (caller_registers machine rs' raw count' left')
    goes_called machine (Ok c) at (Ok d) count count' left left' same is = (
      as_many_mapped (value_in_caller machine rs c.cfa) (value_in_caller machine rs' c.cfa) count count' same,
      known_mapped (value_in_caller machine rs c.cfa) (value_in_caller machine rs' c.cfa) (value_more machine c.cfa) count count' same,
    )
    goes_called machine (Ok c) at (Err e) count count' left left' same is = tt
    goes_called machine (Err e) at (Ok d) count count' left left' same is = absurd (cc)
    goes_called machine (Err e) at (Err f) count count' left left' same is = tt

  -- ---- a step

  module _ (machine : SampleMachine) (IsLess IsAll : State → Result Caller End → List (Option ℕ) → Type 0) (plain : AreMore lacks_end IsLess IsAll) where
    by_call : (at : Start) (rs rs' room room' : List (Option ℕ)) → AreKnown rs rs' → length room ≡ length room' → (result step : Result Caller End) (found left : List (Option ℕ)) → lacks_step result ≡ false
        → IsLess (state at rs room) step left → is_null machine m (state at rs room) step ≡ true
        → result ≡ checked at (caller_of machine m rs) → found ≡ caller_registers machine rs (caller_of machine m rs) (length room) left
        → Stepped (IsNullStep machine m' IsAll (state at rs' room') result) result found
    by_call at rs rs' room room' are same result step found left whole is null checks registers =
        let p = plain at rs rs' room room' are same step left (frames_whole step (and_first (has_no_frames step) (is_null_call at) null)) is in
        let raw = caller_of machine m rs in
        let raw_same = same_caller rs rs' are machine (raw_whole at raw result checks whole) in
        record {
          written = caller_registers machine rs' raw (length room') p.written;
          is_step = (
            step,
            p.written,
            p.is_step,
            subst (λ (b : Bool). IsNullOr machine m' b (state at rs' room') step p.written result (caller_registers machine rs' raw (length room') p.written)) (sym null) (
              checks ∙ ap (checked at) raw_same,
              ap (λ (r : Result Caller FrameError). caller_registers machine rs' r (length room') p.written) raw_same,
            ),
          );
          goes = subst (λ (c : List (Option ℕ)). Goes result c (caller_registers machine rs' raw (length room') p.written)) (sym registers) (goes_called rs rs' are machine raw at result (length room) (length room') left p.written same checks);
        }

    by_frames : (at : Start) (rs rs' room room' : List (Option ℕ)) → AreKnown rs rs' → length room ≡ length room' → (result step : Result Caller End) (found left : List (Option ℕ)) → lacks_step step ≡ false
        → IsLess (state at rs room) step left → is_null machine m (state at rs room) step ≡ false → result ≡ step → found ≡ left
        → Stepped (IsNullStep machine m' IsAll (state at rs' room') result) result found
    by_frames at rs rs' room room' are same result step found left whole is null same_step same_left =
        let p = plain at rs rs' room room' are same step left whole is in
        record {
          written = p.written;
          is_step = (step, p.written, p.is_step, subst (λ (b : Bool). IsNullOr machine m' b (state at rs' room') step p.written result p.written) (sym null) (same_step, refl));
          goes = subst (λ (r : Result Caller End). Goes r found p.written) (sym same_step) (subst (λ (c : List (Option ℕ)). Goes step c p.written) (sym same_left) p.goes);
        }

    pub nulls_more : AreMore lacks_end (IsNullStep machine m IsLess) (IsNullStep machine m' IsAll)
    nulls_more at rs rs' room room' are same result found whole (step, left, is, how) = by (is_null machine m (state at rs room) step) refl how
      where
        by : (b : Bool) → is_null machine m (state at rs room) step ≡ b → IsNullOr machine m b (state at rs room) step left result found → Stepped (IsNullStep machine m' IsAll (state at rs' room') result) result found
        by true null (checks, registers) = by_call at rs rs' room room' are same result step found left whole is null checks registers
        by false null (same_step, same_left) = by_frames at rs rs' room room' are same result step found left (sym (ap lacks_step same_step) ∙ whole) is null same_step same_left
