-- What is read of a file for a listing, and why it isn't.
use Rattle.std.specs.Prelude.{◌≡◌, ⊤, ℕ, List, [], ◌++◌, Result, Ok, Err, codes}
use Rattle.cfi_elf.specs.declared.error.ElfError.{ElfError}
use Rattle.cfi_object.specs.Targets.{IsOrNoMemory}
use Rattle.cfi_text.specs.declared.reading.InputError.TheVariants.{OutOfMemory}
use Rattle.cfi_files.specs.declared.error.FileError.{FileError}
use Rattle.cfi_files.specs.declared.error.FileError.TheVariants.{Input, Elf, NoAddress}

-- a word names no address, or these can't be read
abbrev pub IsNoAddress : Result (List ℕ) ElfError → FileError → Type 0
IsNoAddress named NoAddress = named ≡ Ok []
IsNoAddress named (Elf error) = IsOrNoMemory named error
IsNoAddress named _ = ⊥

-- the error of a file that should have been relocated, or memory was refused
abbrev pub IsElfOr : {A : Type 0} → Result A ElfError → FileError → Type 0
IsElfOr relocated (Elf error) = relocated ≡ Err error
IsElfOr relocated (Input OutOfMemory) = ⊤
IsElfOr relocated _ = ⊥

-- `{"section":"NAME"}`
abbrev pub section_member : List ℕ → List ℕ
section_member name = codes "{\"section\":\"" ++ (name ++ codes "\"}\n")
