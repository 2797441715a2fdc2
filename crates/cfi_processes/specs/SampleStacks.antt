-- The frames of a sample: those of a walk over its copy of the stack, from its registers
-- (perf_event_open(2), PERF_SAMPLE_REGS_USER and PERF_SAMPLE_STACK_USER; DWARF 5 section 6.4.4).
--     innermost_of machine registers      the pc and the stack pointer
--     known_registers machine registers      the registers under DWARF's numbers
--     beginning_of machine user      the innermost frame of a sample, or why it has none
--     IsWalkOver .. modules machine memory pc registers old walk new      a walk over any memory,
--         from a pc and the registers of its frame
--     IsSampleUnwound .. modules machine user old result new      what is returned and written
use Rattle.std.specs.Prelude.{◌≡◌, ℕ, Bool, true, false, List, take, map, Option, Some}
use Rattle.std.specs.Prelude.{None, Result, Ok, Err, ok_or, ◌==◌, if◌then◌else◌}
use Rattle.std.specs.List.{range_with_len}
use Rattle.std.specs.Option.{option_and_then}
use Rattle.cfi_read_core.specs.ReadFunctions.{Position}
use Rattle.cfi_read_core.specs.SliceReaders.{slice_over}
use Rattle.cfi_expression.specs.Windows.{number_in}
use Rattle.cfi_step.specs.declared.module.LoadedModule.{LoadedModule}
use Rattle.cfi_step.specs.declared.walk.End.{End}
use Rattle.cfi_step.specs.declared.walk.StackFrame.{StackFrame}
use Rattle.cfi_step.specs.declared.walk.Walk.{Walk}
use Rattle.cfi_step.specs.Walks.{State, AreWritten, IsWalkAmong}
use Rattle.cfi_processes.specs.declared.registers.SampleMachine.{SampleMachine}
use Rattle.cfi_processes.specs.declared.sample_stack.Innermost.{Innermost}
use Rattle.cfi_processes.specs.declared.sample_stack.NoFrames.{NoFrames}
use Rattle.cfi_processes.specs.declared.sample_stack.NoFrames.TheVariants.{NoRegisters, OtherAbi}
use Rattle.cfi_processes.specs.declared.sample_stack.NoFrames.TheVariants.{NoProgramCounter}
use Rattle.cfi_processes.specs.declared.sample_stack.NoFrames.TheVariants.{NoStackPointer}
use Rattle.cfi_perf.specs.Results.{and_then}
use Rattle.cfi_perf.specs.Samples.{UserRegisters, UserState, sampled_register}
use Rattle.cfi_processes.specs.Registers.{machine_abi, pc_number, perf_number, register_count}

-- ---- the innermost frame

-- those of a 64-bit program: PERF_SAMPLE_REGS_ABI_64 is 2
abbrev pub of_64_bits : Option UserRegisters → Result UserRegisters NoFrames
of_64_bits None = Err NoRegisters
of_64_bits (Some registers) =
    if registers.abi == 2 then Ok registers else Err (OtherAbi registers.abi)

-- the value of the register with DWARF's number k, if the sample has it
abbrev pub known_register : SampleMachine → UserRegisters → ℕ → Option ℕ
known_register machine registers k =
    option_and_then (sampled_register registers) (perf_number machine k)

abbrev pub known_registers : SampleMachine → UserRegisters → List (Option ℕ)
known_registers machine registers =
    map (known_register machine registers) (range_with_len 0 (register_count machine))

abbrev pub innermost_of : SampleMachine → UserRegisters → Result Innermost NoFrames
innermost_of machine registers =
    and_then (ok_or (known_register machine registers (pc_number machine)) NoProgramCounter) (λ pc.
    and_then
    (ok_or (known_register machine registers (machine_abi machine).stack_pointer.0) NoStackPointer)
    (λ stack_pointer.
    Ok (record { pc = pc; stack_pointer = stack_pointer })))

-- Where a walk begins: the innermost frame and its registers.
pub record Beginning : Type 0 where
  pub innermost : Innermost
  pub registers : List (Option ℕ)

abbrev pub beginning_by : SampleMachine → UserRegisters → Result Beginning NoFrames
beginning_by machine registers =
    and_then (innermost_of machine registers)
    (λ innermost.
    Ok (record { innermost = innermost; registers = known_registers machine registers }))

abbrev pub beginning_of : SampleMachine → UserState → Result Beginning NoFrames
beginning_of machine user = and_then (of_64_bits user.registers) (beginning_by machine)

-- ---- the walk

-- the numbers that can be read: the bytes of the stack from the stack pointer on, the least
-- significant byte first
abbrev pub sample_memory : List ℕ → ℕ → ℕ → ℕ → Option ℕ
sample_memory stack stack_pointer = number_in (slice_over stack false) stack_pointer

-- What a walk reads and writes.
pub record WalkRoom : Type 0 where
  pub registers : List (Option ℕ)
  pub caller : List (Option ℕ)
  pub frames : List StackFrame

module _ {R T : Type 0} (position : R → Position) (number : T → ℕ)
    (rule_limit stack_limit : Option ℕ) (copies_free : Bool) (modules : List (LoadedModule R))
    (machine : SampleMachine) where
  abbrev pub IsWalkFrom :
      (ℕ → ℕ → Option ℕ) → State → List StackFrame → End → List (Option ℕ) → List (Option ℕ) →
      Type 0
  IsWalkFrom memory =
      IsWalkAmong position number memory 8 (machine_abi machine) rule_limit stack_limit copies_free
      modules

  -- from a pc and the registers of its frame, over a memory
  abbrev pub IsWalkOver :
      (ℕ → ℕ → Option ℕ) → ℕ → List (Option ℕ) → WalkRoom → Walk → WalkRoom → Type 0
  IsWalkOver memory pc registers old walk new =
      IsWalkFrom memory
      (record {
        at = record { pc = pc; is_interrupted = true; callee_cfa = None };
        registers = registers;
        caller = old.caller;
      })
      (take walk.count new.frames) walk.end new.registers new.caller
      × AreWritten walk old.frames new.frames

  module _ (stack : List ℕ) (old : WalkRoom) (result : Result Walk NoFrames) (new : WalkRoom) where
    abbrev pub IsWalked : Beginning → Walk → Type 0
    IsWalked start walk =
        IsWalkOver (sample_memory stack start.innermost.stack_pointer) start.innermost.pc
        start.registers old walk new

    abbrev pub IsUnwoundFrom : Result Beginning NoFrames → Type 0
    IsUnwoundFrom (Ok start) = (walk : Walk) × (result ≡ Ok walk) × IsWalked start walk
    IsUnwoundFrom (Err reason) = (result ≡ Err reason) × (new ≡ old)

  abbrev pub IsSampleUnwound : UserState → WalkRoom → Result Walk NoFrames → WalkRoom → Type 0
  IsSampleUnwound user old result new =
      IsUnwoundFrom user.stack old result new (beginning_of machine user)
