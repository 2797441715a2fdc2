-- The walk of a thread's stack by what is mapped in the process of a core file.
--     IsThreadWalked machine files list memory thread result frames      what it returns, and the
--         frames that the room then has
use Rattle.std.specs.Prelude.{ℕ, true, List, Option, Some, Result}
use Rattle.cfi_read_core.specs.ByteOrder.{is_big}
use Rattle.cfi_read_core.specs.SliceReaders.{slice_position}
use Rattle.cfi_step.specs.declared.walk.StackFrame.{StackFrame}
use Rattle.cfi_step.specs.declared.walk.Walk.{Walk}
use Rattle.cfi_mapped.specs.declared.mappings.MappedCode.{MappedCode}
use Rattle.cfi_processes.specs.declared.registers.SampleMachine.{SampleMachine}
use Rattle.cfi_processes.specs.declared.sample_stack.NoFrames.{NoFrames}
use Rattle.cfi_processes.specs.KnownFiles.{KnownFile}
use Rattle.cfi_cores.specs.CoreThreads.{CoreThread}
use Rattle.cfi_processes.specs.Rooms.{IsWalkedInRoom}
use Rattle.cfi_core_stacks.specs.ThreadFrames.{IsUnwound}

module _ (machine : SampleMachine) (files : List KnownFile) (list : List MappedCode) where
  -- over a storage of 192 rules and 4 rows
  abbrev pub IsThreadWalked :
      (ℕ → ℕ → Option ℕ) → CoreThread → Result Walk NoFrames → List StackFrame → Type 0
  IsThreadWalked memory thread =
      IsWalkedInRoom machine files list (λ modules.
      IsUnwound
      (slice_position is_big) (λ n. n) (Some 192) (Some 4) true modules machine memory thread)
