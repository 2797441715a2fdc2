-- A sample as it was taken is what the records before it say.
use Rattle.std.proofs.Common.{◌≡◌, ◌∙◌, ℕ, Bool, List, Option, Result, ap, map, subst}
use Rattle.std.specs.Prelude.{⊤}
use Rattle.cfi_perf.specs.declared.sample.Sample.{Sample}
use Rattle.cfi_perf.specs.Samples.{sample_view}
use Rattle.cfi_step.specs.declared.walk.StackFrame.{StackFrame}
use Rattle.cfi_step.specs.declared.walk.Walk.{Walk}
use Rattle.cfi_mapped.specs.declared.mappings.MappedCode.{MappedCode}
use Rattle.cfi_mapped.specs.declared.names.Name.{Name}
use Rattle.cfi_processes.specs.declared.process_code.ProcessCode.{ProcessCode}
use Rattle.cfi_processes.specs.declared.profile_files.ProfileFile.{ProfileFile}
use Rattle.cfi_processes.specs.declared.replay.Replay.{Replay}
use Rattle.cfi_processes.specs.KernelSites.{kernel_site}
use Rattle.cfi_processes.specs.KnownFiles.{known_view}
use Rattle.cfi_processes.specs.Replays.{named_thread, replay_files, replay_known, replayed}
use Rattle.cfi_mapped.specs.ThreadNames.{name_bytes}
use Rattle.cfi_processes.specs.declared.registers.SampleMachine.{SampleMachine}
use Rattle.cfi_processes.specs.declared.frames.Frame.{Frame}
use Rattle.cfi_processes.specs.declared.sample_stack.NoFrames.{NoFrames}
use Rattle.cfi_processes.specs.Frames.{frame_view}
use Rattle.cfi_stacks.specs.declared.visitor.VisitError.{VisitError}
use Rattle.cfi_stacks.specs.KnownSamples.{known_in}
use Rattle.cfi_stacks.specs.SampleOutputs.{Stack, frames_of, stack_of, stack_with}
use Rattle.cfi_stacks.specs.TakenSamples.{Taken, taken_of, taken_view}
use Rattle.cfi_stacks.specs.Visits.{IsVisited}

-- a sample as it was taken
abbrev pub taken_so : (kernel code : ProcessCode) (name : Option Name) (time : ℕ) (sample : Sample) → Taken
taken_so kernel code name time sample = taken_view (record { kernel = kernel; code = code; name = name; time = time; sample = sample })

-- its stack, by the frames that are lent and those that were walked
pub stack_so : (with_functions : Bool) (taken : Taken) (found : Result Walk NoFrames) (stack : Stack) (lent frames : List Frame) (walked room : List StackFrame) → stack ≡ stack_with taken found (map frame_view lent) → lent ≡ frames
    → map frame_view frames ≡ frames_of with_functions taken found walked → walked ≡ room → stack ≡ stack_of with_functions taken found room
stack_so with_functions taken found stack lent frames walked room is same are walked_in =
    is ∙ (ap (λ (l : List Frame). stack_with taken found (map frame_view l)) same ∙ (ap (stack_with taken found) are ∙ ap (λ (l : List StackFrame). stack_of with_functions taken found l) walked_in))

pub visited_as : {V E : Type 0} (visits : V → Stack → V → Type 0) (refuses : V → Stack → V → E → Type 0) (with_functions : Bool) (machine : SampleMachine) (old new : V) (r : Result ⊤ (VisitError E)) (taken other : Taken) → taken ≡ other
    → IsVisited visits refuses with_functions machine taken old new r → IsVisited visits refuses with_functions machine other old new r
visited_as visits refuses with_functions machine old new r taken other same visited = subst (λ (taken : Taken). IsVisited visits refuses with_functions machine taken old new r) same visited

module _ (replay : Replay) (kernel code : ProcessCode) (name : Option Name) (time : ℕ) (sample : Sample) where
  -- by what is mapped, of which files, and the name
  abbrev said : List ProfileFile → List MappedCode → List ProfileFile → List MappedCode → Option (List ℕ) → Taken
  said kernel_files kernel_mapped files mapped named = record {
    in_kernel = kernel_site (map known_view kernel_files) kernel_mapped;
    files = map known_view files;
    mapped = mapped;
    name = named;
    time = time;
    sample = sample_view sample;
  }

  pub taken_as : kernel.files.now ≡ replay_files replay → kernel.mappings.now ≡ replayed replay 0xffffffff → code.files.now ≡ replay_files replay → code.mappings.now ≡ replayed replay sample.pid → name_bytes name ≡ named_thread replay sample.tid
      → taken_so kernel code name time sample ≡ taken_of (replay_known replay) (record { known = known_in replay; time = time; sample = sample_view sample })
  taken_as same_kernel same_kernel_mapped same same_mapped same_name =
      ap (λ (files : List ProfileFile). said files kernel.mappings.now code.files.now code.mappings.now (name_bytes name)) same_kernel
      ∙ (ap (λ (mapped : List MappedCode). said (replay_files replay) mapped code.files.now code.mappings.now (name_bytes name)) same_kernel_mapped
      ∙ (ap (λ (files : List ProfileFile). said (replay_files replay) (replayed replay 0xffffffff) files code.mappings.now (name_bytes name)) same
      ∙ (ap (λ (mapped : List MappedCode). said (replay_files replay) (replayed replay 0xffffffff) (replay_files replay) mapped (name_bytes name)) same_mapped
      ∙ ap (λ (named : Option (List ℕ)). said (replay_files replay) (replayed replay 0xffffffff) (replay_files replay) (replayed replay sample.pid) named) same_name)))
