-- The frames of a thread's walk are in the room for them.
use Rattle.std.proofs.Common.{◌≡◌, ℕ, true, List, Option, Some, None, Result, length, sym, subst}
use Rattle.std.specs.List.{refill}
use Rattle.cfi_read_core.specs.ByteOrder.{is_big}
use Rattle.cfi_read_core.specs.SliceReaders.{slice_position}
use Rattle.cfi_step.specs.declared.walk.StackFrame.{StackFrame}
use Rattle.cfi_step.specs.declared.walk.Walk.{Walk}
use Rattle.cfi_processes.specs.SampleStacks.{WalkRoom}
use Rattle.cfi_processes.specs.declared.registers.SampleMachine.{SampleMachine}
use Rattle.cfi_processes.specs.declared.sample_stack.NoFrames.{NoFrames}
use Rattle.cfi_processes.specs.Registers.{pc_number}
use Rattle.cfi_cores.specs.CoreThreads.{CoreThread, thread_register}
use Rattle.cfi_processes.proofs.RoomLemmas.{Fits, Modules, refilled}
use Rattle.cfi_core_stacks.specs.ThreadFrames.{IsUnwound, IsUnwoundFrom}

module _ (modules : Modules) (machine : SampleMachine) (old : WalkRoom) (result : Result Walk NoFrames) (new : WalkRoom) where
  by_pc : (memory : ℕ → ℕ → Option ℕ) (thread : CoreThread) (pc : Option ℕ) → IsUnwoundFrom (slice_position is_big) (λ n. n) (Some 192) (Some 4) true modules machine memory thread old result new pc → Fits new.frames result
  by_pc memory thread (Some pc) (walk, is, (walks, (same, fits, full))) = subst (Fits new.frames) (sym is) fits
  by_pc memory thread None (is, same) = subst (Fits new.frames) (sym is) tt

  pub thread_fits : (memory : ℕ → ℕ → Option ℕ) (thread : CoreThread) (n : ℕ) (before : List StackFrame) → n ≡ length new.frames → IsUnwound (slice_position is_big) (λ n. n) (Some 192) (Some 4) true modules machine memory thread old result new
      → Fits (refill n before new.frames) result
  thread_fits memory thread n before long is = refilled result n before new.frames long (by_pc memory thread (thread_register machine thread (pc_number machine)) is)
