-- What is known of a core file: all of it, or what parts of it have.
--     IsKnownOf known whole      it is known of this core
--     IsMemoryOf memory all      it is known of this memory of the process
--     walk_lacks machine found      whether a walk ended where a register or a number of the memory
--         isn't known, or where a signal trampoline may be that has no call frames
--     IsStackIn memory stack      each number of a part of the stack is that of the memory
use Rattle.std.specs.Prelude.{◌≡◌, ◌||◌, ℕ, Bool, true, false, List, map, Option, Some, None}
use Rattle.std.specs.Prelude.{Result, Ok, Err}
use Rattle.std.specs.Option.{is_none}
use Rattle.cfi_elf.specs.Images.{IsImageOf, image_view}
use Rattle.cfi_cores.specs.CoreFiles.{Core, core_view}
use Rattle.cfi_cores.specs.CoreMemories.{memory_number, memory_view}
use Rattle.cfi_cores.specs.CoreSegments.{CoreSegment, segment_number}
use Rattle.cfi_cores.specs.PartialCores.{head_in, segment_at, with_all}
use Rattle.cfi_expression.specs.declared.error.FrameError.{FrameError}
use Rattle.cfi_expression.specs.declared.error.FrameError.TheVariants.{UnknownRegister}
use Rattle.cfi_expression.specs.declared.error.FrameError.TheVariants.{UnreadableMemory}
use Rattle.cfi_processes.specs.declared.registers.SampleMachine.{SampleMachine}
use Rattle.cfi_processes.specs.declared.registers.SampleMachine.TheVariants.{X86_64, AArch64}
use Rattle.cfi_processes.specs.declared.sample_stack.NoFrames.{NoFrames}
use Rattle.cfi_core_stacks.specs.declared.known_core.KnownCore.{KnownCore}
use Rattle.cfi_core_stacks.specs.declared.known_core.StackParts.{StackParts}
use Rattle.cfi_core_stacks.specs.declared.known_memory.KnownMemory.{KnownMemory}
use Rattle.cfi_core_stacks.specs.declared.known_memory.KnownMemory.TheVariants.{Parts, Whole}
use Rattle.cfi_core_stacks.specs.MissingFrames.{lacks_frames}
use Rattle.cfi_step.specs.declared.walk.End.{End}
use Rattle.cfi_step.specs.declared.walk.End.TheVariants.{Failed}
use Rattle.cfi_step.specs.declared.walk.Walk.{Walk}

-- ---- the core

abbrev pub is_whole : KnownCore → Bool
is_whole known = is_none known.parts

-- parts have the bytes of its memory where the first byte of a file is mapped
abbrev pub IsKnownBy : Option StackParts → Core → Core → Type 0
IsKnownBy None core whole = core ≡ whole
IsKnownBy (Some parts) core whole =
    (bytes : List ℕ) × IsImageOf (image_view parts.image) bytes
    × (core.segments ≡ map (head_in bytes core.mapped) parts.places.now)
    × (with_all bytes core parts.places.now ≡ whole)

abbrev pub IsKnownOf : KnownCore → Core → Type 0
IsKnownOf known whole = IsKnownBy known.parts (core_view known.core.now) whole

-- ---- the memory

abbrev pub memory_by : List CoreSegment → List CoreSegment → ℕ → ℕ → Option ℕ
memory_by dumped lent = memory_number (record { dumped = dumped; mapped = lent })

abbrev pub has_parts : KnownMemory → Bool
has_parts (Whole memory) = false
has_parts (Parts parts) = true

-- whatever the files have of it
abbrev pub IsPartOf : StackParts → (ℕ → ℕ → Option ℕ) → Type 0
IsPartOf parts all =
    (bytes : List ℕ) × (lent : List CoreSegment) × IsImageOf (image_view parts.image) bytes
    × (memory_by (map (segment_at bytes) parts.places.now) lent ≡ all)

abbrev pub IsMemoryOf : KnownMemory → (ℕ → ℕ → Option ℕ) → Type 0
IsMemoryOf (Whole memory) all = memory_number (memory_view memory) ≡ all
IsMemoryOf (Parts parts) all = IsPartOf parts.now all

abbrev pub IsStackIn : (ℕ → ℕ → Option ℕ) → CoreSegment → Type 0
IsStackIn memory stack =
    (a size n : ℕ) → segment_number a size stack ≡ Some n → memory a size ≡ Some n

-- ---- whether more may be found with more of the memory

abbrev pub error_lacks : FrameError → Bool
error_lacks (UnknownRegister r) = true
error_lacks (UnreadableMemory a) = true
error_lacks e = false

abbrev pub misses_value : End → Bool
misses_value (Failed e) = error_lacks e
misses_value end = false

-- the instructions of a trampoline may be in the memory that isn't known
abbrev pub may_be_signal : SampleMachine → End → Bool
may_be_signal X86_64 end = false
may_be_signal AArch64 end = lacks_frames end

abbrev pub end_lacks : SampleMachine → End → Bool
end_lacks machine end = misses_value end || may_be_signal machine end

abbrev pub walk_lacks : SampleMachine → Result Walk NoFrames → Bool
walk_lacks machine (Ok walk) = end_lacks machine walk.end
walk_lacks machine (Err why) = false
