-- The frames of a stack, as C gets them.
--     written_frame frame      a frame, as C gets it
--     IsWalkForC modules stack s frames end registers caller      the frames from s on, and why
--         there are no more
--     IsUnwoundForC live modules stack pc registers frames new count end      what C gets, with a
--         context or none
use Rattle.std.specs.Prelude.{◌≡◌, ℕ, Bool, true, false, List, take, Option, Some, None, Result}
use Rattle.cfi_read_core.specs.declared.error.Error.TheVariants.{UnsupportedAddressSize}
use Rattle.cfi_read_core.specs.Addresses.{IsAddressSize}
use Rattle.gimli_cfi.specs.EhFrameHdr as headers
use Rattle.cfi_expression.specs.declared.error.FrameError.TheVariants as failed
use Rattle.cfi_step.specs.declared.step.Caller.{Caller}
use Rattle.cfi_step.specs.declared.walk.StackFrame.{StackFrame}
use Rattle.cfi_step.specs.declared.walk.Start.{Start}
use Rattle.cfi_step.specs.declared.walk.End.{End}
use Rattle.cfi_step.specs.declared.walk.End.TheVariants as ends
use Rattle.cfi_step.specs.Walks.{AreWritten, IsWalkBy, State, written}
use Rattle.cfi_c.specs.declared.end.CfiEnd.{CfiEnd}
use Rattle.cfi_c.specs.declared.frame.CfiFrame.{CfiFrame}
use Rattle.cfi_c.specs.declared.module.CfiModule.{CfiModule}
use Rattle.cfi_c.specs.declared.stack.CfiStack.{CfiStack}
use Rattle.cfi_c.specs.declared.register.CfiValue.{CfiValue}
use Rattle.cfi_c.specs.PassedRegisters.{known_values}
use Rattle.cfi_c.specs.Ends.{no_context, refused_end, written_end}
use Rattle.cfi_c.specs.ModuleSteps.{IsStepForC}

-- ---- frames

-- without a CFA it is 0
abbrev pub frame_with : StackFrame → Option ℕ → CfiFrame
frame_with frame None =
    record { pc = frame.pc; cfa = 0; has_cfa = false; is_interrupted = frame.is_interrupted }
frame_with frame (Some cfa) =
    record { pc = frame.pc; cfa = cfa; has_cfa = true; is_interrupted = frame.is_interrupted }

abbrev pub written_frame : StackFrame → CfiFrame
written_frame frame = frame_with frame frame.cfa

abbrev pub frame_by : Start → Result Caller End → CfiFrame
frame_by at step = written_frame (written at step)

abbrev pub IsWalkForC :
    List CfiModule → CfiStack → State → List CfiFrame → End → List (Option ℕ) → List (Option ℕ) →
    Type 0
IsWalkForC modules stack = IsWalkBy frame_by (IsStepForC stack modules)

-- ---- a walk

-- the frames from the innermost one on, whose registers are these; behind them nothing is written
abbrev pub IsWalkTo :
    End → List CfiModule → CfiStack → ℕ → List (Option ℕ) → List CfiFrame → List CfiFrame → ℕ →
    Type 0
IsWalkTo end modules stack pc registers frames new count =
    ((left : List (Option ℕ)) × (caller : List (Option ℕ))
    × IsWalkForC modules stack
    (record {
      at = record { pc = pc; is_interrupted = true; callee_cfa = None };
      registers = registers;
      caller = registers;
    })
    (take count new) end left caller)
    × AreWritten (record { count = count; end = end }) frames new

abbrev pub IsWalked :
    List CfiModule → CfiStack → ℕ → List (Option ℕ) → List CfiFrame → List CfiFrame → ℕ → CfiEnd →
    Type 0
IsWalked modules stack pc registers frames new count out =
    (end : End) × IsWalkTo end modules stack pc registers frames new count × (out ≡ written_end end)

-- nothing is walked
abbrev pub IsNotWalked : CfiEnd → List CfiFrame → List CfiFrame → ℕ → CfiEnd → Type 0
IsNotWalked due frames new count out = (count ≡ 0) × (new ≡ frames) × (out ≡ due)

abbrev pub IsUnwoundForC :
    Bool → List CfiModule → CfiStack → ℕ → List CfiValue → List CfiFrame → List CfiFrame → ℕ →
    CfiEnd → Type 0
IsUnwoundForC false modules stack pc registers frames new count out =
    IsNotWalked no_context frames new count out
IsUnwoundForC true modules stack pc registers frames new count out =
    ((IsAddressSize stack.address_size → ⊥) →
    IsNotWalked (refused_end 16 (UnsupportedAddressSize stack.address_size)) frames new count out)
    × (IsAddressSize stack.address_size →
    IsWalked modules stack pc (known_values registers) frames new count out)
