-- The stacks of the samples that are chosen: themselves, their texts, and their folded stacks.
--     IsStackOf with_functions machine taken stack      the stack of a sample, as it was taken
--     AreStacks with_functions machine files choice records stacks      those of the chosen samples
--     AreStackTexts style machine files choice records text      their texts, or their objects of
--         JSON, one after the other
--     AreSamples by_period machine files choice records samples      their folded stacks, with what
--         each counts
use Rattle.std.specs.Prelude.{◌≡◌, ℕ, ◌==◌, Bool, true, List, [], ◌∷◌, Result, map, not}
use Rattle.std.specs.Prelude.{if◌then◌else◌}
use Rattle.cfi_perf.specs.Events.{Record}
use Rattle.cfi_perf.specs.Samples.{Sample}
use Rattle.cfi_step.specs.declared.walk.StackFrame.{StackFrame}
use Rattle.cfi_step.specs.declared.walk.Walk.{Walk}
use Rattle.cfi_processes.specs.declared.registers.SampleMachine.{SampleMachine}
use Rattle.cfi_processes.specs.declared.sample_stack.NoFrames.{NoFrames}
use Rattle.cfi_processes.specs.KnownFiles.{KnownFile}
use Rattle.cfi_flame.specs.FoldedStacks.{Stack as FoldedStack}
use Rattle.cfi_stacks.specs.declared.listing.StackStyle.{StackStyle}
use Rattle.cfi_stacks.specs.Choices.{Choice}
use Rattle.cfi_stacks.specs.FoldedTexts.{folded_text}
use Rattle.cfi_stacks.specs.SampleWalks.{IsSampleWalked}
use Rattle.cfi_stacks.specs.SampleOutputs.{IsInFormat, Stack, stack_of}
use Rattle.cfi_stacks.specs.KnownSamples.{KnownSample, chosen}
use Rattle.cfi_frames.specs.Sequences.{AreOfAll}
use Rattle.cfi_stacks.specs.TakenSamples.{Taken, taken_of}

-- ---- stacks

-- by a walk of it
abbrev pub IsStackOf : Bool → SampleMachine → Taken → Stack → Type 0
IsStackOf with_functions machine taken stack =
    (result : Result Walk NoFrames) × (frames : List StackFrame)
    × IsSampleWalked machine taken.files taken.mapped taken.sample.user result frames
    × (stack ≡ stack_of with_functions taken result frames)

module _ (with_functions : Bool) (machine : SampleMachine) (files : List KnownFile) where
  abbrev pub IsSampleStack : KnownSample → List Stack → Type 0
  IsSampleStack of stacks =
      (stack : Stack) × IsStackOf with_functions machine (taken_of files of) stack
      × (stacks ≡ stack ∷ [])

  abbrev pub AreStacks : Choice → List Record → List Stack → Type 0
  AreStacks choice records stacks = AreOfAll IsSampleStack (chosen choice files records) stacks

-- ---- their texts

abbrev pub AreStackTexts :
    StackStyle → SampleMachine → List KnownFile → Choice → List Record → List ℕ → Type 0
AreStackTexts style machine files choice records text =
    (stacks : List Stack) × AreStacks (not style.raw) machine files choice records stacks
    × AreOfAll (IsInFormat style) stacks text

-- ---- the samples by their folded stacks

-- one for each, or its period; one also where the period is 0
abbrev pub sample_weight : Bool → Sample → ℕ
sample_weight by_period s = if by_period then (if s.period == 0 then 1 else s.period) else 1

abbrev pub folded_sample : Bool → Stack → FoldedStack
folded_sample by_period stack =
    record { frames = folded_text stack; count = sample_weight by_period stack.sample }

abbrev pub AreSamples :
    Bool → SampleMachine → List KnownFile → Choice → List Record → List FoldedStack → Type 0
AreSamples by_period machine files choice records samples =
    (stacks : List Stack) × AreStacks true machine files choice records stacks
    × (samples ≡ map (folded_sample by_period) stacks)
