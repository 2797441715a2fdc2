-- The room that stacks are walked in, and the rows that it keeps of the files that are mapped.
--     HasRoom frames      there is room for as many frames as a stack may have
--     KeepsNoRows room      no row is kept
--     AreRowsOf loaded cache      the rows of its file are those of this module
--     AreKeptFor files cache      they are those of any module that one of the files is, wherever
--         it is mapped
--     IsRoomFor files room      there is room for all frames of a stack, and the rows that are kept
--         are right for the files
--     IsWalkedInRoom machine files list IsBy result frames      what a walk of any stack in a room
--         returns, by what is mapped in its process, and the frames that the room then has
--     found_frames result room      those of the walk
use Rattle.std.specs.Prelude.{◌≡◌, ℕ, List, [], Result, Ok, Err, Some, length, map, take, true}
use Rattle.cfi_read_core.specs.declared.endianity.RunTimeEndian.{RunTimeEndian}
use Rattle.cfi_read_core.specs.ByteOrder.{is_big}
use Rattle.cfi_read_core.specs.SliceReaders.{EndianSlice, slice_position}
use Rattle.cfi_step.specs.declared.cached_rows.CachedRow.{CachedRow}
use Rattle.cfi_step.specs.declared.module.LoadedModule.{LoadedModule}
use Rattle.cfi_step.specs.declared.walk.StackFrame.{StackFrame}
use Rattle.cfi_step.specs.declared.walk.Walk.{Walk}
use Rattle.cfi_step.specs.CachedRows.{AreCachedIn, AreEmpty}
use Rattle.cfi_mapped.specs.declared.mappings.MappedCode.{MappedCode}
use Rattle.cfi_processes.specs.declared.profile_files.ProfileFile.{ProfileFile}
use Rattle.cfi_processes.specs.declared.registers.SampleMachine.{SampleMachine}
use Rattle.cfi_processes.specs.declared.room.Room.{Room}
use Rattle.cfi_processes.specs.declared.sample_stack.NoFrames.{NoFrames}
use Rattle.cfi_processes.specs.FileModules.{IsModuleOfFiles}
use Rattle.cfi_processes.specs.KnownFiles.{KnownFile}
use Rattle.cfi_processes.specs.Modules.{loaded_module_view}
use Rattle.cfi_processes.specs.ProcessModules.{modules_in}
use Rattle.cfi_processes.specs.Registers.{register_count}
use Rattle.cfi_processes.specs.SampleStacks.{WalkRoom}

-- how many frames a stack may have
abbrev pub most_frames : ℕ
most_frames = 4096

abbrev pub HasRoom : List StackFrame → Type 0
HasRoom frames = length frames ≡ most_frames

abbrev pub KeepsNoRows : Room → Type 0
KeepsNoRows room = AreEmpty room.cache.items

-- for addresses of 8 bytes, in a storage of 192 rules and 4 rows
abbrev pub AreRowsOf : LoadedModule (EndianSlice RunTimeEndian) → List CachedRow → Type 0
AreRowsOf loaded cache = AreCachedIn (slice_position is_big) 8 (Some 192) (Some 4) true loaded cache

-- in any process, and at any bias
abbrev pub AreKeptFor : List ProfileFile → List CachedRow → Type 0
AreKeptFor files cache =
    (loaded : LoadedModule (EndianSlice RunTimeEndian)) → IsModuleOfFiles files loaded →
    AreRowsOf loaded cache

abbrev pub IsRoomFor : List ProfileFile → Room → Type 0
IsRoomFor files room = HasRoom room.frames.items × AreKeptFor files room.cache.items

-- ---- a walk in the room, with a place for each of the machine's registers

module _ (machine : SampleMachine) (files : List KnownFile) (list : List MappedCode) where
  abbrev pub IsWalkedInRoom :
      (List (LoadedModule (EndianSlice RunTimeEndian)) → WalkRoom → Result Walk NoFrames →
      WalkRoom →
      Type 0) → Result Walk NoFrames → List StackFrame → Type 0
  IsWalkedInRoom IsBy result frames =
      (modules : List (LoadedModule (EndianSlice RunTimeEndian))) × (old : WalkRoom)
      × (new : WalkRoom)
      × (map loaded_module_view modules ≡ modules_in files list) × HasRoom old.frames
      × (length old.caller ≡ register_count machine) × IsBy modules old result new
      × (new.frames ≡ frames) × HasRoom frames

abbrev pub found_frames : Result Walk NoFrames → List StackFrame → List StackFrame
found_frames (Ok walk) room = take walk.count room
found_frames (Err why) room = []
