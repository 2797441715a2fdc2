-- The stack of a sample, as it is printed.
--     frames_of with_functions taken result room      its frames
--     Stack, stack_view stack      a stack, and that of the code
--     stack_of with_functions taken result room      the stack of a sample
--     sample_object raw stack      the object of JSON of a stack
--     IsInFormat style stack text      what is said of its text, or its object
--     Shows style old stack new, Begins style old stack new      it was written, or a beginning of
--         it
use Rattle.std.specs.Prelude.{◌≡◌, ℕ, Bool, false, List, ◌++◌, Option, None, Result, map}
use Rattle.std.specs.Prelude.{option_map, if◌then◌else◌}
use Rattle.std.specs.Io.KnownBytes.{Appends}
use Rattle.cfi_perf.specs.Samples.{Sample, kernel_frames, user_frames}
use Rattle.cfi_step.specs.declared.walk.StackFrame.{StackFrame}
use Rattle.cfi_step.specs.declared.walk.Walk.{Walk}
use Rattle.cfi_processes.specs.declared.sample_stack.NoFrames.{NoFrames}
use Rattle.cfi_processes.specs.declared.frames.FrameKind.TheVariants.{Kernel, User}
use Rattle.cfi_processes.specs.Frames.{Frame, called_frame, frame_view, walked_frame}
use Rattle.cfi_processes.specs.Sites.{Site, without_function}
use Rattle.cfi_mapped.specs.ThreadNames.{name_bytes}
use Rattle.cfi_perf.specs.Samples.{sample_view}
use Rattle.cfi_text.specs.WriterOutput.{IsBeginning}
use Rattle.cfi_stacks.specs.declared.listing.StackStyle.{StackStyle}
use Rattle.cfi_stacks.specs.declared.sample_stack.SampleStack.{SampleStack}
use Rattle.cfi_frames.specs.Reasons.{Reason, reason_for, reason_view}
use Rattle.cfi_frames.specs.FrameJson.{frames_json, object_end}
pub use Rattle.cfi_frames.specs.Outputs.{IsSaidIn}
use Rattle.cfi_processes.specs.Rooms.{found_frames}
use Rattle.cfi_stacks.specs.SampleMembers.{sample_head}
use Rattle.cfi_stacks.specs.TakenSamples.{Taken}

-- ---- the stack of a sample

-- a call chain has no reason
abbrev pub sample_reason : Sample → Result Walk NoFrames → Option Reason
sample_reason s result = if s.copies_stack then reason_for result else None

abbrev pub kernel_frame : Bool → (ℕ → Site) → ℕ → Frame
kernel_frame with_functions in_kernel a = record {
  address = a;
  kind = Kernel;
  is_interrupted = false;
  site = if with_functions then in_kernel a else without_function (in_kernel a);
}

-- those of the call chain where the event copies no stacks
abbrev pub user_frames_of : Bool → Taken → Result Walk NoFrames → List StackFrame → List Frame
user_frames_of with_functions taken result room =
    if taken.sample.copies_stack
    then map (walked_frame with_functions taken.files taken.mapped) (found_frames result room)
    else map (called_frame User with_functions taken.files taken.mapped) (user_frames taken.sample)

-- the kernel's, and those of user space, each from the innermost one out
abbrev pub frames_of : Bool → Taken → Result Walk NoFrames → List StackFrame → List Frame
frames_of with_functions taken result room =
    map (kernel_frame with_functions taken.in_kernel) (kernel_frames taken.sample)
    ++ user_frames_of with_functions taken result room

-- With the name of its thread, its time, and why there are no more frames.
pub record Stack : Type 0 where
  pub name : Option (List ℕ)
  pub time : ℕ
  pub sample : Sample
  pub frames : List Frame
  pub reason : Option Reason

abbrev pub stack_view : SampleStack → Stack
stack_view stack = record {
  name = name_bytes stack.name;
  time = stack.time;
  sample = sample_view stack.sample;
  frames = map frame_view stack.frames.now;
  reason = option_map reason_view stack.reason;
}

abbrev pub stack_with : Taken → Result Walk NoFrames → List Frame → Stack
stack_with taken result frames = record {
  name = taken.name;
  time = taken.time;
  sample = taken.sample;
  frames = frames;
  reason = sample_reason taken.sample result;
}

abbrev pub stack_of : Bool → Taken → Result Walk NoFrames → List StackFrame → Stack
stack_of with_functions taken result room =
    stack_with taken result (frames_of with_functions taken result room)

-- ---- a stack as an object of JSON

-- the functions are left out if it is raw
abbrev pub sample_object : Bool → Stack → List ℕ
sample_object raw stack =
    sample_head stack.name stack.time stack.sample
    ++ (frames_json (record { raw = raw; with_address = false }) stack.frames
    ++ object_end stack.reason)

-- ---- a stack in either form

abbrev pub IsInFormat : StackStyle → Stack → List ℕ → Type 0
IsInFormat style stack text = IsSaidIn style.format (text ≡ sample_object style.raw stack)

-- printed, or a beginning of it
abbrev pub Shows : StackStyle → Option (List ℕ) → Stack → Option (List ℕ) → Type 0
Shows style old stack new = (text : List ℕ) × IsInFormat style stack text × Appends old new text

abbrev pub Begins : StackStyle → Option (List ℕ) → Stack → Option (List ℕ) → Type 0
Begins style old stack new =
    (text : List ℕ) × IsInFormat style stack text
    × ((begun : List ℕ) × Appends old new begun × IsBeginning begun text)
