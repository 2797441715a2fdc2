-- The value of JSON (RFC 8259) that the object of a thread's stack is the text of.
--     thread_value raw stack      this value
--     ThreadsReadBack      the line of each stack is read as its value
--     CoresReadBack      so is each line of the threads of a core file
use Rattle.std.specs.Prelude.{◌≡◌, ℕ, ◌==◌, Bool, true, List, Option, Some, None, Result, codes}
use Rattle.std.specs.Prelude.{map, if◌then◌else◌}
use Rattle.cfi_text.specs.declared.style.Format.TheVariants as formats
use Rattle.cfi_step.specs.declared.walk.Walk.{Walk}
use Rattle.cfi_processes.specs.declared.sample_stack.NoFrames.{NoFrames}
use Rattle.cfi_processes.specs.declared.registers.SampleMachine.{SampleMachine}
use Rattle.cfi_processes.specs.Frames.{Frame}
use Rattle.cfi_processes.specs.KnownFiles.{KnownFile}
use Rattle.cfi_mapped.specs.declared.mappings.MappedCode.{MappedCode}
use Rattle.cfi_frames.specs.Sequences.{AreOfAll}
use Rattle.cfi_frames.specs.declared.frame_style.FrameStyle.{FrameStyle}
use Rattle.cfi_cores.specs.declared.fault.Fault.{Fault}
use Rattle.cfi_cores.specs.CoreThreads.{CoreThread}
use Rattle.cfi_core_stacks.specs.Signals.{signal_name}
use Rattle.cfi_core_stacks.specs.ThreadOutputs.{IsThreadText, Stack, stack_with}
use Rattle.cfi_core_stacks.specs.ThreadOutputs.{thread_object}
use Rattle.cfi_json.specs.Json.{Json, address, name, number, object, text, Members, member}
use Rattle.cfi_json.specs.Json.{AreLinesOf, IsReadAs}
use Rattle.cfi_json.specs.FrameValues.{stack_members}

-- ---- the members of a thread, before those that follow

abbrev pub with_signal_name : Option (List ℕ) → Members → Members
with_signal_name None members = members
with_signal_name (Some signal) members = member (codes "name") (text signal) members

-- which fault it is, and where
abbrev pub with_fault : Option Fault → Members → Members
with_fault None members = members
with_fault (Some fault) members =
    member (codes "code") (number fault.code)
    (member (codes "fault") (address fault.address) members)

-- where it got none, its number is 0
abbrev pub with_signal : ℕ → Option Fault → Members → Members
with_signal signal fault members =
    if signal == 0 then members
    else member (codes "signal") (number signal)
    (with_signal_name (signal_name signal) (with_fault fault members))

abbrev pub with_process : Option (List ℕ) → Members → Members
with_process None members = members
with_process (Some process) members = member (codes "process") (name process) members

-- ---- a thread

-- raw: without the functions
abbrev pub style_of : Bool → FrameStyle
style_of raw = record { raw = raw; with_address = true }

abbrev pub thread_members : Bool → Stack → Members
thread_members raw stack =
    member (codes "tid") (number stack.thread.tid)
    (with_signal stack.thread.signal stack.thread.fault
    (with_process stack.process
    (stack_members (style_of raw) stack.frames stack.reason)))

abbrev pub thread_value : Bool → Stack → Json
thread_value raw stack = object (thread_members raw stack)

-- of each stack with the reason that a walk, or a thread without one, gives
abbrev pub ThreadsReadBack : Type 0
ThreadsReadBack =
    (raw : Bool) (process : Option (List ℕ)) (thread : CoreThread)
    (result : Result Walk NoFrames) (frames : List Frame) →
    let stack = stack_with process thread result frames in
    IsReadAs (thread_object raw stack) (thread_value raw stack)

-- where the stacks of these threads are printed as objects
abbrev pub CoresReadBack : Type 0
CoresReadBack =
    (raw : Bool) (asked : Option ℕ) (machine : SampleMachine) (files : List KnownFile)
    (list : List MappedCode) (memory : ℕ → ℕ → Option ℕ) (process : Option (List ℕ))
    (threads : List CoreThread) (characters : List ℕ) →
    AreOfAll
    (IsThreadText (record { raw = raw; format = formats.Json; thread = asked }) machine files list
    memory process)
    threads characters →
    (stacks : List Stack) × (map (λ stack. stack.thread) stacks ≡ threads)
    × AreLinesOf characters (map (thread_value raw) stacks)
