-- The frames of a stack, from the innermost one out (DWARF 5 section 6.4.4).
--     State      a frame, with its registers and the room for its caller's
--     IsStepFrom process s result caller      what the step from a frame returns and writes, by the
--         first module whose code its address is in
--     IsWalk process s frames end registers caller      the frames from s on, why there are no
--         more, and what is left in the two lists of registers
--     IsStepAmong, IsWalkAmong      the same by modules, a memory and an ABI
--     IsStepOf, IsWalkBy      the same over modules and frames of any form
--     AreWritten walk old new      where a walk's frames are in the room for them
use Rattle.std.specs.Prelude.{◌≡◌, ◌⊎◌, ℕ, ◌≤◌, ◌==◌, ◌||◌, Bool, true, false, List, [], ◌∷◌}
use Rattle.std.specs.Prelude.{drop, length}
use Rattle.std.specs.Prelude.{is_none, nat_lt, Option, Some, None, Result, Ok, Err, OnErr}
use Rattle.std.specs.Prelude.{if◌then◌else◌}
use Rattle.cfi_read_core.specs.ReadFunctions.{Position}
use Rattle.cfi_expression.specs.declared.error.FrameError.{FrameError}
use Rattle.cfi_read_core.specs.AddressSizes.{size_in_bytes}
use Rattle.cfi_step.specs.declared.abi.Abi.{Abi}
use Rattle.cfi_step.specs.declared.step.Caller.{Caller}
use Rattle.cfi_step.specs.declared.module.LoadedModule.{LoadedModule}
use Rattle.cfi_step.specs.declared.process.Process.{Process}
use Rattle.cfi_step.specs.declared.walk.StackFrame.{StackFrame}
use Rattle.cfi_step.specs.declared.walk.Start.{Start}
use Rattle.cfi_step.specs.declared.walk.Walk.{Walk}
use Rattle.cfi_step.specs.declared.walk.End.{End}
use Rattle.cfi_step.specs.declared.walk.End.TheVariants.{Outermost, NoModule, Failed, NotRising}
use Rattle.cfi_step.specs.declared.walk.End.TheVariants.{NoRoom}
use Rattle.cfi_step.specs.Steps.{row_address}
use Rattle.cfi_step.specs.Modules.{IsStepIn, first_module}
use Rattle.cfi_step.specs.ModuleLists.{module_list}

-- where a frame is, its registers, and what is in the room for those of its caller
pub record State : Type 0 where
  pub at : Start
  pub registers : List (Option ℕ)
  pub caller : List (Option ℕ)

-- the CFA of a frame is higher than that of the frame that it called, except across a signal, whose
-- handler may have a stack of its own; of the innermost frame, which called none, nothing is asked
abbrev pub rises_above : Option ℕ → Bool → ℕ → Bool
rises_above None is_interrupted the_cfa = true
rises_above (Some callee) is_interrupted the_cfa = is_interrupted || nat_lt callee the_cfa

-- Where the caller goes on. No call returns to the address 0, which systems and languages put below
-- the first frame of a thread; but a frame may have been interrupted there, after a call of it.
abbrev pub goes_on_at : Bool → Option ℕ → Option ℕ
goes_on_at true pc = pc
goes_on_at false (Some pc) = if pc == 0 then None else Some pc
goes_on_at false None = None

abbrev pub caller_pc : Caller → Option ℕ
caller_pc c = goes_on_at c.is_interrupted c.pc

-- the step that was made, or the end of the walk; of the outermost frame, which may have no bytes
-- on the stack, nothing is asked
abbrev pub checked : Start → Result Caller FrameError → Result Caller End
checked at (Ok c) =
    if is_none (caller_pc c) || rises_above at.callee_cfa at.is_interrupted c.cfa
    then Ok c
    else Err NotRising
checked at (Err e) = Err (Failed e)

-- the frame as it is written
abbrev pub cfa_in : Result Caller End → Option ℕ
cfa_in (Ok c) = Some c.cfa
cfa_in (Err end) = None

abbrev pub written : Start → Result Caller End → StackFrame
written at step = record { pc = at.pc; is_interrupted = at.is_interrupted; cfa = cfa_in step }

-- where the caller's frame is, or the end of the walk
abbrev pub resumed_at : Caller → Option ℕ → Result Start End
resumed_at c (Some pc) =
    Ok (record { pc = pc; is_interrupted = c.is_interrupted; callee_cfa = Some c.cfa })
resumed_at c None = Err Outermost

abbrev pub resumed : Result Caller End → Result Start End
resumed (Ok c) = resumed_at c (caller_pc c)
resumed (Err end) = Err end

-- ---- over modules and frames of any form

-- as many registers are written as there is room for; where no caller is found, nothing is written
module _ {A : Type 0} (IsStepIn : A → State → Result Caller FrameError → List (Option ℕ) → Type 0)
  where
    abbrev pub IsStepOf : Option A → State → Result Caller End → List (Option ℕ) → Type 0
    IsStepOf None s result caller = (result ≡ Err NoModule) × (caller ≡ s.caller)
    IsStepOf (Some loaded) s result caller =
        (step : Result Caller FrameError) × IsStepIn loaded s step caller
        × (length caller ≡ length s.caller) × OnErr step (caller ≡ s.caller)
        × (result ≡ checked s.at step)

-- Each frame is written by its step. The last one is where the walk ends, and its registers are
-- left beside what its step wrote; after another one come the frames from its caller's on.
module _ {F : Type 0} (written : Start → Result Caller End → F)
    (IsStep : State → Result Caller End → List (Option ℕ) → Type 0) where
  abbrev pub IsWalkBy : State → List F → End → List (Option ℕ) → List (Option ℕ) → Type 0
  IsWalkBy s [] end registers caller =
      (end ≡ NoRoom) × (registers ≡ s.registers) × (caller ≡ s.caller)
  IsWalkBy s (f ∷ fs) end registers caller =
      (step : Result Caller End) × (found : List (Option ℕ)) × IsStep s step found
      × (f ≡ written s.at step)
      × (((fs ≡ []) × (resumed step ≡ Err end) × (registers ≡ s.registers) × (caller ≡ found))
      ⊎ ((next : Start) × (resumed step ≡ Ok next)
      × IsWalkBy (record { at = next; registers = found; caller = found }) fs end registers
      caller))

-- the frames are the first ones of the room, and nothing is written behind them; no room is left
-- only if all of it is used
abbrev pub AreWritten : {F : Type 0} → Walk → List F → List F → Type 0
AreWritten walk old new =
    (drop walk.count new ≡ drop walk.count old) × (walk.count ≤ length new)
    × (walk.end ≡ NoRoom → walk.count ≡ length new)

-- ---- over loaded modules

abbrev pub address_of : State → ℕ
address_of s = row_address s.at.pc s.at.is_interrupted

module _ {R T : Type 0} (position : R → Position) (number : T → ℕ) (memory : ℕ → ℕ → Option ℕ)
    (size : ℕ) (abi : Abi) (rule_limit stack_limit : Option ℕ) (copies_free : Bool) where
  abbrev pub IsStepOver :
      LoadedModule R → State → Result Caller FrameError → List (Option ℕ) → Type 0
  IsStepOver loaded s step caller =
      IsStepIn position number (record { registers = s.registers; memory = memory; size = size })
      abi rule_limit stack_limit copies_free loaded (address_of s) step caller

  abbrev pub IsStepAmong :
      List (LoadedModule R) → State → Result Caller End → List (Option ℕ) → Type 0
  IsStepAmong modules s result caller =
      IsStepOf IsStepOver (first_module modules (address_of s)) s result caller

  abbrev pub IsWalkAmong :
      List (LoadedModule R) → State → List StackFrame → End → List (Option ℕ) → List (Option ℕ) →
      Type 0
  IsWalkAmong modules = IsWalkBy written (IsStepAmong modules)

-- ---- in a process

module _ {R M T : Type 0} (position : R → Position) (number : T → ℕ)
    (number_at : M → ℕ → ℕ → Option ℕ) (rule_limit stack_limit : Option ℕ) (copies_free : Bool)
    (process : Process R M) where
  abbrev pub IsStepFrom : State → Result Caller End → List (Option ℕ) → Type 0
  IsStepFrom =
      IsStepAmong position number (number_at process.memory.now)
      (size_in_bytes process.address_size) process.abi rule_limit stack_limit copies_free
      (module_list process.modules)

  abbrev pub IsWalk : State → List StackFrame → End → List (Option ℕ) → List (Option ℕ) → Type 0
  IsWalk = IsWalkBy written IsStepFrom
