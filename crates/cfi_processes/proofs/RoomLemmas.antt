-- The room that stacks are walked in: the rows that are kept for the files, and the frames.
use Rattle.std.proofs.Common.{◌≡◌, ◌∙◌, ◌≤◌, ◌++◌, ℕ, true, List, Option, Some, Result, IfOk, length, get_or, take, drop, ap, sym, subst, true≢false}
use Rattle.std.specs.List.{length_refill, refill, slice_get}
use Rattle.std.proofs.Math.Seq.{take-append_seam}
use Rattle.cfi_read_core.specs.declared.endianity.RunTimeEndian.{RunTimeEndian}
use Rattle.cfi_step.specs.declared.module.LoadedModule.{LoadedModule}
use Rattle.cfi_read_core.specs.ByteOrder.{is_big}
use Rattle.cfi_read_core.specs.SliceReaders.{EndianSlice, slice_position}
use Rattle.cfi_step.specs.declared.cached_rows.CachedRow.{CachedRow}
use Rattle.cfi_step.specs.declared.walk.StackFrame.{StackFrame}
use Rattle.cfi_step.specs.declared.walk.Walk.{Walk}
use Rattle.cfi_step.specs.CachedRows.{AreAlike, AreCachedFor, AreNumbered, KeepsFor}
use Rattle.cfi_processes.specs.declared.file_code.FileCode.{FileCode}
use Rattle.cfi_processes.specs.declared.profile_files.ProfileFile.{ProfileFile}
use Rattle.cfi_processes.specs.FileModules.{AreModulesOfFiles, IsModuleOfFiles}
use Rattle.cfi_processes.specs.declared.sample_stack.NoFrames.{NoFrames}
use Rattle.cfi_processes.specs.declared.room.Room.{Room}
use Rattle.cfi_processes.specs.Rooms.{AreKeptFor, HasRoom, IsRoomFor, KeepsNoRows}

-- a room without rows is one for any files
pub room_for_all : (files : List ProfileFile) (room : Room) → HasRoom room.frames.items → KeepsNoRows room → IsRoomFor files room
room_for_all files room long empty = (long, λ loaded is k d inside a holds. absurd (true≢false (sym holds.0 ∙ empty k d inside)))

-- ---- modules of the files

abbrev pub Modules : Type 0
Modules = List (LoadedModule (EndianSlice RunTimeEndian))

abbrev pub AreRowsFor : Modules → List CachedRow → Type 0
AreRowsFor modules rows = AreCachedFor (slice_position is_big) 8 (Some 192) (Some 4) true modules rows

abbrev pub KeepsRowsFor : Modules → List CachedRow → List CachedRow → Type 0
KeepsRowsFor modules old new = KeepsFor (slice_position is_big) 8 (Some 192) (Some 4) true modules old new

-- an option has one value
one_value : {A : Type 0} {x y : A} (o : Option A) → o ≡ Some x → o ≡ Some y → x ≡ y
one_value {A} {x} {y} o is also = let same : Some x ≡ Some y = sym is ∙ also in cc

module _ (files : List ProfileFile) where
  -- a number has one file
  alike : (m n : LoadedModule (EndianSlice RunTimeEndian)) → IsModuleOfFiles files m → IsModuleOfFiles files n → AreAlike m n
  alike m n is_m is_n same =
      let one_file : is_m.0 ≡ is_n.0 = one_value (slice_get files m.file) is_m.1 (ap (slice_get files) same ∙ is_n.1) in
      let one_code : is_m.2.0 ≡ is_n.2.0 = one_value is_m.0.code is_m.2.1 (ap (λ (file : ProfileFile). file.code) one_file ∙ is_n.2.1) in (
        is_m.2.2.1 ∙ (ap (λ (code : FileCode). code.object.frame) one_code ∙ sym is_n.2.2.1),
        is_m.2.2.2 ∙ (ap (λ (code : FileCode). code.object.header) one_code ∙ sym is_n.2.2.2),
        is_m.2.2.3 ∙ (ap (λ (code : FileCode). code.object.bases) one_code ∙ sym is_n.2.2.3),
      )

  numbered : (modules : Modules) → AreModulesOfFiles files modules → AreNumbered modules
  numbered modules are i d inside j e within = alike (get_or modules j e) (get_or modules i d) (are j e within) (are i d inside)

  rows_of_files : (modules : Modules) (rows : List CachedRow) → AreModulesOfFiles files modules → AreKeptFor files rows → AreRowsFor modules rows
  rows_of_files modules rows are kept i d inside = kept (get_or modules i d) (are i d inside)

  kept_for_files : (modules : Modules) (old new : List CachedRow) → AreModulesOfFiles files modules → KeepsRowsFor modules old new → AreKeptFor files old → AreKeptFor files new
  kept_for_files modules old new are keeps kept loaded is = keeps loaded (λ j e within. alike (get_or modules j e) loaded (are j e within) is) (kept loaded is)

-- ---- a walk

-- where frames were written there is room for as many
pub room_after : (n : ℕ) (before frames : List StackFrame) → n ≡ length before → HasRoom before → HasRoom (refill n before frames)
room_after n before frames long has = sym (length_refill n before frames long) ∙ (long ∙ has)

pub refill-same : {A : Type 0} (n : ℕ) (before rows : List A) → n ≡ length rows → refill n before rows ≡ rows
refill-same n before rows same = ap (λ k. take k (rows ++ drop (length rows) before)) same ∙ take-append_seam rows _

-- the modules are those that were checked, and the rows those that are lent
module _ (files : List ProfileFile) (modules checked : Modules) (same : checked ≡ modules) (are : AreModulesOfFiles files modules) where
  are_checked : AreModulesOfFiles files checked
  are_checked = subst (AreModulesOfFiles files) (sym same) are

  pub numbered_before : AreNumbered checked
  numbered_before = numbered files checked are_checked

  pub rows_before : (rows lent : List CachedRow) → lent ≡ rows → AreKeptFor files rows → AreRowsFor checked lent
  rows_before rows lent same_rows kept = rows_of_files files checked lent are_checked (subst (AreKeptFor files) (sym same_rows) kept)

  pub rows_after : (n : ℕ) (rows lent new : List CachedRow) → n ≡ length new → lent ≡ rows → AreKeptFor files rows → KeepsRowsFor checked lent new → AreKeptFor files (refill n rows new)
  rows_after n rows lent new long same_rows kept keeps =
      subst (AreKeptFor files) (sym (refill-same n rows new long))
      (kept_for_files files checked lent new are_checked keeps (subst (AreKeptFor files) (sym same_rows) kept))

-- the files are the same
pub still_room_for : (files now : List ProfileFile) (room : Room) → now ≡ files → IsRoomFor files room → IsRoomFor now room
still_room_for files now room same is = subst (λ (known : List ProfileFile). IsRoomFor known room) (sym same) is

-- ---- the frames of a walk are in the room for them

abbrev pub Fits : List StackFrame → Result Walk NoFrames → Type 0
Fits frames result = IfOk result (λ (walk : Walk). walk.count ≤ length frames)

pub refilled : (result : Result Walk NoFrames) (n : ℕ) (before written : List StackFrame) → n ≡ length written → Fits written result → Fits (refill n before written) result
refilled result n before written long fits = subst (λ (frames : List StackFrame). Fits frames result) (sym (refill-same n before written long)) fits
