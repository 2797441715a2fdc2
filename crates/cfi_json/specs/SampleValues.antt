-- The value of JSON (RFC 8259) that the object of a sample's stack is the text of.
--     sample_value raw stack      this value
--     SamplesReadBack      the line of each stack is read as its value
--     ProfilesReadBack      so is each line of the stacks of a profile
use Rattle.std.specs.Prelude.{ℕ, Bool, false, List, Option, Some, None, Result, codes, map, not}
use Rattle.cfi_text.specs.declared.style.Format.TheVariants as formats
use Rattle.cfi_perf.specs.Events.{Record}
use Rattle.cfi_step.specs.declared.walk.Walk.{Walk}
use Rattle.cfi_processes.specs.declared.sample_stack.NoFrames.{NoFrames}
use Rattle.cfi_processes.specs.declared.registers.SampleMachine.{SampleMachine}
use Rattle.cfi_processes.specs.Frames.{Frame}
use Rattle.cfi_processes.specs.KnownFiles.{KnownFile}
use Rattle.cfi_frames.specs.declared.frame_style.FrameStyle.{FrameStyle}
use Rattle.cfi_stacks.specs.Choices.{Choice}
use Rattle.cfi_stacks.specs.ChosenStacks.{AreStackTexts, AreStacks}
use Rattle.cfi_stacks.specs.SampleHeads.{thread_name_text}
use Rattle.cfi_stacks.specs.SampleMembers.{nanoseconds_text}
use Rattle.cfi_stacks.specs.SampleOutputs.{Stack, sample_object, stack_with}
use Rattle.cfi_stacks.specs.TakenSamples.{Taken}
use Rattle.cfi_json.specs.Json.{Json, name, number, object, text, Members, member, AreLinesOf}
use Rattle.cfi_json.specs.Json.{IsReadAs}
use Rattle.cfi_json.specs.FrameValues.{stack_members}

-- the name of the thread; where none is known what stands in its place
abbrev pub comm_value : ℕ → Option (List ℕ) → Json
comm_value tid (Some bytes) = name bytes
comm_value tid None = text (thread_name_text tid None)

abbrev pub with_cpu : Option ℕ → Members → Members
with_cpu None members = members
with_cpu (Some cpu) members = member (codes "cpu") (number cpu) members

-- raw: without the functions
abbrev pub style_of : Bool → FrameStyle
style_of raw = record { raw = raw; with_address = false }

abbrev pub sample_members : Bool → Stack → Members
sample_members raw stack =
    member (codes "comm") (comm_value stack.sample.tid stack.name)
    (member (codes "pid") (number stack.sample.pid)
    (member (codes "tid") (number stack.sample.tid)
    (with_cpu stack.sample.cpu
    (member (codes "time") (text (nanoseconds_text stack.time))
    (member (codes "period") (number stack.sample.period)
    (member (codes "event") (name stack.sample.event)
    (stack_members (style_of raw) stack.frames stack.reason)))))))

abbrev pub sample_value : Bool → Stack → Json
sample_value raw stack = object (sample_members raw stack)

-- of each stack with the reason that a walk, or a sample without one, gives
abbrev pub SamplesReadBack : Type 0
SamplesReadBack =
    (raw : Bool) (taken : Taken) (result : Result Walk NoFrames) (frames : List Frame) →
    let stack = stack_with taken result frames in
    IsReadAs (sample_object raw stack) (sample_value raw stack)

-- where the stacks of the chosen samples are printed as objects
abbrev pub ProfilesReadBack : Type 0
ProfilesReadBack =
    (raw : Bool) (machine : SampleMachine) (files : List KnownFile) (choice : Choice)
    (records : List Record) (characters : List ℕ) →
    AreStackTexts (record { raw = raw; format = formats.Json }) machine files choice records
    characters →
    (stacks : List Stack) × AreStacks (not raw) machine files choice records stacks
    × AreLinesOf characters (map (sample_value raw) stacks)
