-- The frames of a thread of a core file: those of a walk over the memory of its process, from its
-- registers (DWARF 5 section 6.4.4).
--     thread_registers machine thread      its registers under DWARF's numbers
--     IsThreadWalk .. modules machine memory pc registers old walk new      a walk from a pc and
--         the registers of its frame: by call frames, and where there are none from the address 0
--         and over signal trampolines
--     IsUnwound .. modules machine memory thread old result new      what is returned and written
use Rattle.std.specs.Prelude.{◌≡◌, ℕ, Bool, true, List, Option, Some, None, Result, Ok, Err, map}
use Rattle.std.specs.Prelude.{take}
use Rattle.std.specs.List.{range_with_len}
use Rattle.cfi_read_core.specs.ReadFunctions.{Position}
use Rattle.cfi_step.specs.declared.module.LoadedModule.{LoadedModule}
use Rattle.cfi_step.specs.declared.step.Caller.{Caller}
use Rattle.cfi_step.specs.declared.walk.End.{End}
use Rattle.cfi_step.specs.declared.walk.Walk.{Walk}
use Rattle.cfi_step.specs.Walks.{AreWritten, IsStepAmong, IsWalkBy, State, written}
use Rattle.cfi_processes.specs.declared.registers.SampleMachine.{SampleMachine}
use Rattle.cfi_processes.specs.declared.sample_stack.NoFrames.{NoFrames}
use Rattle.cfi_processes.specs.declared.sample_stack.NoFrames.TheVariants.{NoProgramCounter}
use Rattle.cfi_processes.specs.Registers.{machine_abi, pc_number, register_count}
use Rattle.cfi_processes.specs.SampleStacks.{WalkRoom}
use Rattle.cfi_cores.specs.CoreThreads.{CoreThread, thread_register}
use Rattle.cfi_core_stacks.specs.NullSteps.{IsNullStep}
use Rattle.cfi_core_stacks.specs.SignalSteps.{IsSignalStep}

abbrev pub thread_registers : SampleMachine → CoreThread → List (Option ℕ)
thread_registers machine thread =
    map (thread_register machine thread) (range_with_len 0 (register_count machine))

module _ {R T : Type 0} (position : R → Position) (number : T → ℕ)
    (rule_limit stack_limit : Option ℕ) (copies_free : Bool) (modules : List (LoadedModule R))
    (machine : SampleMachine) (memory : ℕ → ℕ → Option ℕ) where
  abbrev pub IsThreadStep : State → Result Caller End → List (Option ℕ) → Type 0
  IsThreadStep =
      IsSignalStep machine memory
      (IsNullStep machine memory
      (IsStepAmong position number memory 8 (machine_abi machine) rule_limit stack_limit copies_free
      modules))

  abbrev pub IsThreadWalk : ℕ → List (Option ℕ) → WalkRoom → Walk → WalkRoom → Type 0
  IsThreadWalk pc registers old walk new =
      IsWalkBy written IsThreadStep
      (record {
        at = record { pc = pc; is_interrupted = true; callee_cfa = None };
        registers = registers;
        caller = old.caller;
      })
      (take walk.count new.frames) walk.end new.registers new.caller
      × AreWritten walk old.frames new.frames

  module _ (thread : CoreThread) (old : WalkRoom) (result : Result Walk NoFrames)
      (new : WalkRoom) where
    -- from its pc, if that is known
    abbrev pub IsUnwoundFrom : Option ℕ → Type 0
    IsUnwoundFrom (Some pc) =
        (walk : Walk) × (result ≡ Ok walk)
        × IsThreadWalk pc (thread_registers machine thread) old walk new
    IsUnwoundFrom None = (result ≡ Err NoProgramCounter) × (new ≡ old)

    abbrev pub IsUnwound : Type 0
    IsUnwound = IsUnwoundFrom (thread_register machine thread (pc_number machine))
