-- A walk over any memory, and over the copy of a stack, from the innermost frame of a sample.
use Rattle.std.proofs.Common.{◌≡◌, ◌∙◌, ℕ, Bool, List, Option, Result, Ok, refl, ap, sym, subst}
use Rattle.cfi_read_core.specs.ReadFunctions.{Position}
use Rattle.cfi_step.specs.declared.abi.Abi.{Abi}
use Rattle.cfi_step.specs.declared.module.LoadedModule.{LoadedModule}
use Rattle.cfi_step.specs.declared.walk.End.{End}
use Rattle.cfi_step.specs.declared.walk.StackFrame.{StackFrame}
use Rattle.cfi_step.specs.declared.walk.Walk.{Walk}
use Rattle.cfi_step.specs.Walks.{State, IsWalkAmong}
use Rattle.cfi_processes.specs.declared.registers.SampleMachine.{SampleMachine}
use Rattle.cfi_processes.specs.declared.sample_stack.Innermost.{Innermost}
use Rattle.cfi_processes.specs.declared.sample_stack.NoFrames.{NoFrames}
use Rattle.cfi_perf.specs.Samples.{UserRegisters, UserState}
use Rattle.cfi_processes.specs.Registers.{machine_abi}
use Rattle.cfi_perf.specs.Results.{and_then}
use Rattle.cfi_processes.specs.SampleStacks.{IsSampleUnwound, IsUnwoundFrom, IsWalkFrom, IsWalkOver, WalkRoom, beginning_by, beginning_of, innermost_of, known_registers, sample_memory, of_64_bits}

-- ---- where a walk begins

module _ (machine : SampleMachine) (user : UserState) where
  beginning_at : (registers : UserRegisters) (innermost : Innermost) → of_64_bits user.registers ≡ Ok registers
      → innermost_of machine registers ≡ Ok innermost
      → beginning_of machine user ≡ Ok (record { innermost = innermost; registers = known_registers machine registers })
  beginning_at registers innermost e is =
      ap (λ r. and_then r (beginning_by machine)) e
      ∙ ap (λ (r : Result Innermost NoFrames). and_then r (λ innermost. Ok (record { innermost = innermost; registers = known_registers machine registers }))) is

-- ---- the walk

module _ {R T : Type 0} (position : R → Position) (number : T → ℕ) (rule_limit stack_limit : Option ℕ) (copies_free : Bool) where
  -- a walk over modules, whose memory, size of an address and ABI are these
  abbrev pub WalkOver : List (LoadedModule R) → (ℕ → ℕ → Option ℕ) → ℕ → Abi → State → List StackFrame → End → List (Option ℕ) → List (Option ℕ) → Type 0
  WalkOver modules memory size abi = IsWalkAmong position number memory size abi rule_limit stack_limit copies_free modules

  -- of 64 bits, with the ABI of the machine
  pub of_machine : (modules : List (LoadedModule R)) (machine : SampleMachine) (memory : ℕ → ℕ → Option ℕ) (size : ℕ) (abi : Abi)
      → size ≡ 8 → abi ≡ machine_abi machine → (s : State) (frames : List StackFrame) (end : End) (registers caller : List (Option ℕ))
      → WalkOver modules memory size abi s frames end registers caller
      → IsWalkFrom position number rule_limit stack_limit copies_free modules machine memory s frames end registers caller
  of_machine modules machine memory size abi sizes abis s frames end registers caller is =
      subst (λ (n : ℕ). WalkOver modules memory n (machine_abi machine) s frames end registers caller) sizes
      (subst (λ (a : Abi). WalkOver modules memory size a s frames end registers caller) abis is)

  module _ (modules : List (LoadedModule R)) (machine : SampleMachine) (user : UserState) (old new : WalkRoom) where
    -- where a sample has a beginning, its frames are those from there on
    pub unwound : (registers : UserRegisters) (innermost : Innermost) (known : List (Option ℕ)) (walk : Walk)
        → Ok registers ≡ of_64_bits user.registers → Ok innermost ≡ innermost_of machine registers → known ≡ known_registers machine registers
        → IsWalkOver position number rule_limit stack_limit copies_free modules machine (sample_memory user.stack innermost.stack_pointer) innermost.pc known old walk new
        → IsSampleUnwound position number rule_limit stack_limit copies_free modules machine user old (Ok walk) new
    unwound registers innermost known walk is_64 is_innermost are_known walks =
        subst (IsUnwoundFrom position number rule_limit stack_limit copies_free modules machine user.stack old (Ok walk) new)
        (sym (beginning_at machine user registers innermost (sym is_64) (sym is_innermost))) (
          walk,
          refl,
          subst (λ (rs : List (Option ℕ)). IsWalkOver position number rule_limit stack_limit copies_free modules machine (sample_memory user.stack innermost.stack_pointer) innermost.pc rs old walk new) are_known walks,
        )
