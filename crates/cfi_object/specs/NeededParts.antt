-- Which parts of a file have all that is needed of it.
--     HasAll needed file      no byte is lacking for the call frames of the file, nor for what else
--         is needed
--     AreEnough needed image      nor for the headers that lead to these
--     IsEnoughOf known needed image      parts of a file that are enough
--     AreLacking needed image place      the bytes at a place lack for it, by offset and size
--     AreAsked needed image      parts of which each was lacking when it was read, or all bytes
use Rattle.std.specs.Prelude.{◌≡◌, ◌⊎◌, ◌≤◌, ℕ, zero, suc, Bool, true, List, Option, Result, Err}
use Rattle.std.specs.Prelude.{IfOk, IsOkAnd}
use Rattle.cfi_elf.specs.declared.error.ElfError.{ElfError}
use Rattle.cfi_elf.specs.declared.error.ElfError.TheVariants.{NotRead}
use Rattle.cfi_elf.specs.DebugLinks.{debug_link}
use Rattle.cfi_elf.specs.ElfFiles.{File, elf_file_of}
use Rattle.cfi_elf.specs.Images.{Image, IsNotRead, IsRead}
use Rattle.cfi_elf.specs.BuildIds.{build_id}
use Rattle.cfi_elf.specs.PltSections.{plt_parts}
use Rattle.cfi_elf.specs.SymbolTables.{symbol_table}
use Rattle.cfi_object.specs.declared.needed.Needed.{Needed}
use Rattle.cfi_object.specs.CallFrames.{debug_frame_of, eh_frame_of}
use Rattle.cfi_object.specs.FileParts.{AreOfInput, IsBeginning, IsWhole, IsWithPart}

-- that an error is another one than that bytes were not read
abbrev pub IsOther : ElfError → Type 0
IsOther e = IsNotRead e → ⊥

-- the two sections of call frames, with what belongs to them
pub record HasFrames (file : File) : Type 0 where
  pub eh_frame : IsRead (eh_frame_of file)
  pub debug_frame : IsRead (debug_frame_of file)

-- the note of the build and the link to the debug file, where they are needed
pub record HasBuild (build : Bool) (file : File) : Type 0 where
  pub id : build ≡ true → IsRead (build_id file)
  pub link : build ≡ true → IsRead (debug_link file)

abbrev pub HasSymbols : Bool → File → Type 0
HasSymbols symbols file = symbols ≡ true → IsRead (symbol_table file)

-- what the entries of the procedure linkage table need
abbrev pub HasPlt : Bool → File → Type 0
HasPlt plt file = plt ≡ true → IsRead (plt_parts file)

pub record HasAll (needed : Needed) (file : File) : Type 0 where
  pub frames : HasFrames file
  pub build : HasBuild needed.build file
  pub symbols : HasSymbols needed.symbols file
  pub plt : HasPlt needed.plt file

abbrev pub AreEnough : Needed → Image → Type 0
AreEnough needed image = IsRead (elf_file_of image) × IfOk (elf_file_of image) (HasAll needed)

abbrev pub IsEnoughOf : Option (List ℕ) → Needed → Image → Type 0
IsEnoughOf known needed image = AreOfInput known image × AreEnough needed image

-- ---- what lacks, by its offset and size

abbrev pub Lacks : {A : Type 0} → Result A ElfError → ℕ × ℕ → Type 0
Lacks r place = r ≡ Err (NotRead place.0 place.1)

abbrev pub LacksBuild : Bool → File → ℕ × ℕ → Type 0
LacksBuild build file place =
    (build ≡ true) × (Lacks (build_id file) place ⊎ Lacks (debug_link file) place)

abbrev pub LacksFrames : File → ℕ × ℕ → Type 0
LacksFrames file place = Lacks (eh_frame_of file) place ⊎ Lacks (debug_frame_of file) place

abbrev pub LacksSymbols : Bool → File → ℕ × ℕ → Type 0
LacksSymbols symbols file place = (symbols ≡ true) × Lacks (symbol_table file) place

abbrev pub LacksPlt : Bool → File → ℕ × ℕ → Type 0
LacksPlt plt file place = (plt ≡ true) × Lacks (plt_parts file) place

abbrev pub LacksOne : Needed → File → ℕ × ℕ → Type 0
LacksOne needed file place =
    LacksBuild needed.build file place ⊎ (LacksFrames file place
    ⊎ (LacksSymbols needed.symbols file place ⊎ LacksPlt needed.plt file place))

abbrev pub AreLacking : Needed → Image → ℕ × ℕ → Type 0
AreLacking needed image place =
    Lacks (elf_file_of image) place
    ⊎ IsOkAnd (elf_file_of image) (λ file. LacksOne needed file place)

-- ---- the parts that are read

-- the beginning of the file, and n parts, each of which was lacking
abbrev pub AreRead : Needed → ℕ → Image → Type 0
AreRead needed zero image = IsBeginning 4096 image
AreRead needed (suc n) image =
    (old : Image) × (place : ℕ × ℕ) × AreRead needed n old × AreLacking needed old place
    × IsWithPart place.0 place.1 old image

-- after 32 parts or more the whole file
abbrev pub AreAsked : Needed → Image → Type 0
AreAsked needed image =
    ((n : ℕ) × (n ≤ 32) × AreRead needed n image)
    ⊎ (((n : ℕ) × (32 ≤ n) × (old : Image) × AreRead needed n old) × IsWhole image)
