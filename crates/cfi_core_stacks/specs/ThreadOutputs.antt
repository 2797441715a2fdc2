-- The stack of a thread of a core file, as it is printed.
--     Stack, stack_view stack      a stack, and that of the code
--     stack_with name thread result frames      the stack of a thread with these frames
--     thread_object raw stack      the object of JSON of a stack
--     IsFoundText listing files list name thread result room text      a text of what a walk found,
--         where this is mapped
--     IsThreadText listing machine files list memory name thread text      a text of its stack
use Rattle.std.specs.Prelude.{◌≡◌, ℕ, Bool, true, List, ◌++◌, Option, Result, map, not}
use Rattle.std.specs.Prelude.{option_map}
use Rattle.cfi_step.specs.declared.walk.StackFrame.{StackFrame}
use Rattle.cfi_step.specs.declared.walk.Walk.{Walk}
use Rattle.cfi_mapped.specs.declared.mappings.MappedCode.{MappedCode}
use Rattle.cfi_mapped.specs.ThreadNames.{name_bytes}
use Rattle.cfi_processes.specs.declared.registers.SampleMachine.{SampleMachine}
use Rattle.cfi_processes.specs.declared.sample_stack.NoFrames.{NoFrames}
use Rattle.cfi_processes.specs.Frames.{Frame, frame_view, walked_frame}
use Rattle.cfi_processes.specs.KnownFiles.{KnownFile}
use Rattle.cfi_cores.specs.CoreThreads.{CoreThread, thread_view}
use Rattle.cfi_frames.specs.FrameJson.{frames_json, object_end}
use Rattle.cfi_frames.specs.Outputs.{IsSaidIn}
use Rattle.cfi_frames.specs.Reasons.{Reason, reason_for, reason_view}
use Rattle.cfi_processes.specs.Rooms.{found_frames}
use Rattle.cfi_core_stacks.specs.declared.listing.ThreadListing.{ThreadListing}
use Rattle.cfi_core_stacks.specs.declared.thread_stack.ThreadStack.{ThreadStack}
use Rattle.cfi_core_stacks.specs.ThreadMembers.{thread_head}
use Rattle.cfi_core_stacks.specs.ThreadWalks.{IsThreadWalked}

-- ---- the stack of a thread

-- With the name of its process, and why there are no more frames.
pub record Stack : Type 0 where
  pub process : Option (List ℕ)
  pub thread : CoreThread
  pub frames : List Frame
  pub reason : Option Reason

abbrev pub stack_view : ThreadStack → Stack
stack_view stack = record {
  process = name_bytes stack.process;
  thread = thread_view stack.thread.now;
  frames = map frame_view stack.frames.now;
  reason = option_map reason_view stack.reason;
}

abbrev pub stack_with :
    Option (List ℕ) → CoreThread → Result Walk NoFrames → List Frame → Stack
stack_with name thread result frames =
    record { process = name; thread = thread; frames = frames; reason = reason_for result }

-- ---- a stack as an object of JSON

-- the functions are left out if it is raw
abbrev pub thread_object : Bool → Stack → List ℕ
thread_object raw stack =
    thread_head stack.thread stack.process
    ++ (frames_json (record { raw = raw; with_address = true }) stack.frames
    ++ object_end stack.reason)

-- ---- a stack in either form

abbrev pub IsInFormat : ThreadListing → Stack → List ℕ → Type 0
IsInFormat listing stack text =
    IsSaidIn listing.format (text ≡ thread_object listing.raw stack)

module _ (listing : ThreadListing) (files : List KnownFile) (list : List MappedCode)
    (name : Option (List ℕ)) (thread : CoreThread) where
  abbrev pub IsFoundText : Result Walk NoFrames → List StackFrame → List ℕ → Type 0
  IsFoundText result room text =
      let frames = map (walked_frame (not listing.raw) files list) (found_frames result room) in
      IsInFormat listing (stack_with name thread result frames) text

module _ (listing : ThreadListing) (machine : SampleMachine) (files : List KnownFile)
    (list : List MappedCode) (memory : ℕ → ℕ → Option ℕ) (name : Option (List ℕ)) where
  abbrev pub IsThreadText : CoreThread → List ℕ → Type 0
  IsThreadText thread text =
      (result : Result Walk NoFrames) × (frames : List StackFrame)
      × IsThreadWalked machine files list memory thread result frames
      × IsFoundText listing files list name thread result frames text
