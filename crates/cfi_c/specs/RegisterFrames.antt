-- The frames of a stack with the registers of each, as C gets them: the walk of `cfi_unwind`.
--     FrameWithRegisters      a frame, and its registers
--     IsWalkWith IsStep s frames end      the frames from s on with their registers, and why there
--         are no more
--     frames_of all, registers_written all      what is written of them, one after the other
--     IsUnwoundWith live modules stack pc registers frames new values new_values count end
--         what C gets, with a context or none
use Rattle.std.specs.Prelude.{◌≡◌, ◌⊎◌, ℕ, ◌+◌, ◌*◌, ◌<◌, Bool, true, false, List, [], ◌∷◌, ◌++◌}
use Rattle.std.specs.Prelude.{drop, length, map, take, Option, None, Result, Ok, Err}
use Rattle.cfi_read_core.specs.declared.error.Error.TheVariants.{UnsupportedAddressSize}
use Rattle.cfi_read_core.specs.Addresses.{IsAddressSize}
use Rattle.cfi_step.specs.declared.step.Caller.{Caller}
use Rattle.cfi_step.specs.declared.walk.End.{End}
use Rattle.cfi_step.specs.declared.walk.End.TheVariants.{NoRoom}
use Rattle.cfi_step.specs.declared.walk.Start.{Start}
use Rattle.cfi_step.specs.Walks.{State, resumed}
use Rattle.cfi_c.specs.declared.end.CfiEnd.{CfiEnd}
use Rattle.cfi_c.specs.declared.frame.CfiFrame.{CfiFrame}
use Rattle.cfi_c.specs.declared.module.CfiModule.{CfiModule}
use Rattle.cfi_c.specs.declared.stack.CfiStack.{CfiStack}
use Rattle.cfi_c.specs.declared.register.CfiValue.{CfiValue}
use Rattle.cfi_c.specs.PassedRegisters.{known_values, written_value}
use Rattle.cfi_c.specs.StackFrames.{frame_by}
use Rattle.cfi_c.specs.ModuleSteps.{IsStepForC}
use Rattle.cfi_c.specs.Ends.{no_context, refused_end, written_end}

-- ---- a walk

pub record FrameWithRegisters : Type 0 where
  pub frame : CfiFrame
  pub registers : List CfiValue

-- a frame as it is written by its step, with the registers that it has
abbrev pub framed : State → Result Caller End → FrameWithRegisters
framed s step =
    record { frame = frame_by s.at step; registers = map written_value s.registers }

-- the frames of `IsWalkBy`, each with its registers
module _ (IsStep : State → Result Caller End → List (Option ℕ) → Type 0) where
  abbrev pub IsWalkWith : State → List FrameWithRegisters → End → Type 0
  IsWalkWith s [] end = end ≡ NoRoom
  IsWalkWith s (f ∷ fs) end =
      (step : Result Caller End) × (found : List (Option ℕ)) × IsStep s step found
      × (f ≡ framed s step)
      × (((fs ≡ []) × (resumed step ≡ Err end))
      ⊎ ((next : Start) × (resumed step ≡ Ok next)
      × IsWalkWith (record { at = next; registers = found; caller = found }) fs end))

-- ---- where they are written

abbrev pub frames_of : List FrameWithRegisters → List CfiFrame
frames_of all = map (λ f. f.frame) all

-- one after the other
abbrev pub registers_written : List FrameWithRegisters → List CfiValue
registers_written [] = []
registers_written (f ∷ fs) = f.registers ++ registers_written fs

-- where the first ones are written, and nothing behind them
abbrev pub AreFirst : {A : Type 0} → List A → List A → List A → Type 0
AreFirst written old new =
    (take (length written) new ≡ written)
    × (drop (length written) new ≡ drop (length written) old) × (length new ≡ length old)

-- there is no room for another frame, or for n registers
abbrev pub IsFull : ℕ → ℕ → ℕ → ℕ → Type 0
IsFull n count frames values = (count ≡ frames) ⊎ (values < count * n + n)

-- ---- what C gets

-- the innermost frame, with these registers
abbrev pub innermost : ℕ → List (Option ℕ) → State
innermost pc registers = record {
  at = record { pc = pc; is_interrupted = true; callee_cfa = None };
  registers = registers;
  caller = registers;
}

module _ (IsStep : State → Result Caller End → List (Option ℕ) → Type 0) where
  abbrev pub IsWalkedTo :
      End → ℕ → List (Option ℕ) → List CfiFrame → List CfiFrame → List CfiValue →
      List CfiValue → ℕ → Type 0
  IsWalkedTo end pc registers frames new values new_values count =
      (all : List FrameWithRegisters) × IsWalkWith IsStep (innermost pc registers) all end
      × (count ≡ length all) × AreFirst (frames_of all) frames new
      × AreFirst (registers_written all) values new_values
      × (end ≡ NoRoom → IsFull (length registers) count (length frames) (length values))

abbrev pub IsWalkedWith :
    List CfiModule → CfiStack → ℕ → List (Option ℕ) → List CfiFrame → List CfiFrame →
    List CfiValue → List CfiValue → ℕ → CfiEnd → Type 0
IsWalkedWith modules stack pc registers frames new values new_values count out =
    (end : End)
    × IsWalkedTo (IsStepForC stack modules) end pc registers frames new values new_values count
    × (out ≡ written_end end)

-- nothing is walked
abbrev pub IsNotWalkedWith :
    CfiEnd → List CfiFrame → List CfiFrame → List CfiValue → List CfiValue → ℕ → CfiEnd → Type 0
IsNotWalkedWith due frames new values new_values count out =
    (count ≡ 0) × (new ≡ frames) × (new_values ≡ values) × (out ≡ due)

abbrev pub IsUnwoundWith :
    Bool → List CfiModule → CfiStack → ℕ → List CfiValue → List CfiFrame → List CfiFrame →
    List CfiValue → List CfiValue → ℕ → CfiEnd → Type 0
IsUnwoundWith false modules stack pc registers frames new values new_values count out =
    IsNotWalkedWith no_context frames new values new_values count out
IsUnwoundWith true modules stack pc registers frames new values new_values count out =
    ((IsAddressSize stack.address_size → ⊥) →
    IsNotWalkedWith (refused_end 16 (UnsupportedAddressSize stack.address_size)) frames new values
    new_values count out)
    × (IsAddressSize stack.address_size →
    IsWalkedWith modules stack pc (known_values registers) frames new values new_values count out)
