-- The walk of a sample's stack by what is mapped in its process.
--     IsSampleWalked machine files list user result frames      what it returns, and the frames
--         that the room then has
use Rattle.std.specs.Prelude.{true, List, Some, Result}
use Rattle.cfi_read_core.specs.ByteOrder.{is_big}
use Rattle.cfi_read_core.specs.SliceReaders.{slice_position}
use Rattle.cfi_perf.specs.Samples.{UserState}
use Rattle.cfi_step.specs.declared.walk.StackFrame.{StackFrame}
use Rattle.cfi_step.specs.declared.walk.Walk.{Walk}
use Rattle.cfi_mapped.specs.declared.mappings.MappedCode.{MappedCode}
use Rattle.cfi_processes.specs.declared.registers.SampleMachine.{SampleMachine}
use Rattle.cfi_processes.specs.declared.sample_stack.NoFrames.{NoFrames}
use Rattle.cfi_processes.specs.KnownFiles.{KnownFile}
use Rattle.cfi_processes.specs.SampleStacks.{IsSampleUnwound}
use Rattle.cfi_processes.specs.Rooms.{IsWalkedInRoom}

module _ (machine : SampleMachine) (files : List KnownFile) (list : List MappedCode) where
  -- over a storage of 192 rules and 4 rows
  abbrev pub IsSampleWalked : UserState → Result Walk NoFrames → List StackFrame → Type 0
  IsSampleWalked user =
      IsWalkedInRoom machine files list (λ modules.
      IsSampleUnwound
      (slice_position is_big) (λ n. n) (Some 192) (Some 4) true modules machine user)
