-- The frames of a sample's walk are in the room for them.
use Rattle.std.proofs.Common.{◌≡◌, ℕ, true, List, Some, Result, Ok, Err, length, sym, subst}
use Rattle.std.specs.List.{refill}
use Rattle.cfi_read_core.specs.ByteOrder.{is_big}
use Rattle.cfi_read_core.specs.SliceReaders.{slice_position}
use Rattle.cfi_step.specs.declared.walk.StackFrame.{StackFrame}
use Rattle.cfi_step.specs.declared.walk.Walk.{Walk}
use Rattle.cfi_processes.specs.SampleStacks.{Beginning, IsSampleUnwound, IsUnwoundFrom, WalkRoom, beginning_of}
use Rattle.cfi_perf.specs.Samples.{UserState}
use Rattle.cfi_processes.specs.declared.registers.SampleMachine.{SampleMachine}
use Rattle.cfi_processes.specs.declared.sample_stack.NoFrames.{NoFrames}
use Rattle.cfi_processes.proofs.RoomLemmas.{Fits, Modules, refilled}

module _ (modules : Modules) (machine : SampleMachine) (old : WalkRoom) (result : Result Walk NoFrames) (new : WalkRoom) where
  by_beginning : (stack : List ℕ) (start : Result Beginning NoFrames) → IsUnwoundFrom (slice_position is_big) (λ n. n) (Some 192) (Some 4) true modules machine stack old result new start → Fits new.frames result
  by_beginning stack (Ok start) (walk, is, (walks, (same, fits, full))) = subst (Fits new.frames) (sym is) fits
  by_beginning stack (Err reason) (is, same) = subst (Fits new.frames) (sym is) tt

  pub sample_fits : (user : UserState) (n : ℕ) (before : List StackFrame) → n ≡ length new.frames → IsSampleUnwound (slice_position is_big) (λ n. n) (Some 192) (Some 4) true modules machine user old result new → Fits (refill n before new.frames) result
  sample_fits user n before long is = refilled result n before new.frames long (by_beginning user.stack (beginning_of machine user) is)
