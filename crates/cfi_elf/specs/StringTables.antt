-- Names in string tables, and the table that has those of sections (System V ABI chapter 4, "String
-- Table").
use Rattle.std.specs.Prelude.{ℕ, Bool, false, List, [], Result, Ok, Err, length, drop, nat_le}
use Rattle.std.specs.Prelude.{nat_eq, ◌==◌, slice_get, if◌then◌else◌}
use Rattle.std.specs.Cmp.Lexicographic.{pointwise}
use Rattle.cfi_elf.specs.declared.error.ElfError.{ElfError}
use Rattle.cfi_elf.specs.declared.error.ElfError.TheVariants.{NoNameSection, NameOutOfBounds}
use Rattle.cfi_elf.specs.declared.error.ElfError.TheVariants.{NameNotTerminated}
use Rattle.cfi_elf.specs.ElfFiles.{File}
use Rattle.cfi_elf.specs.Fields.{before_zero}
use Rattle.cfi_elf.specs.Results.{and_then, or_missing}
use Rattle.cfi_elf.specs.SectionTables.{section_headers, or_by_first}
use Rattle.cfi_elf.specs.SectionContents.{contents}

-- the name at an index of a string table; index 0 is no name
unfoldable pub name_at : List ℕ → ℕ → Result (List ℕ) ElfError
name_at strings index =
    if index == 0 then Ok []
    else if nat_le (length strings) index then Err NameOutOfBounds
    else or_missing NameNotTerminated (before_zero (drop index strings))

-- a name that can't be read is another
abbrev pub is_name : List ℕ → Result (List ℕ) ElfError → Bool
is_name name (Ok found) = pointwise nat_eq found name
is_name name (Err e) = false

-- the index of the section with the names: e_shstrndx, or where it is SHN_XINDEX sh_link of section
-- 0
unfoldable pub name_section : File → Result ℕ ElfError
name_section file =
    let e_shstrndx = file.header.sizes.e_shstrndx in
    or_by_first file e_shstrndx (e_shstrndx == 0xffff) (λ first. first.sh_link)

-- the contents of the section at an index, which is 0 (SHN_UNDEF) where there is none
unfoldable pub names_at : File → List ℕ → ℕ → Result (List ℕ) ElfError
names_at file table index =
    if index == 0 then Ok []
    else and_then (or_missing (NoNameSection index) (slice_get (section_headers file table) index))
    (contents file)

-- the section name string table
unfoldable pub section_names : File → List ℕ → Result (List ℕ) ElfError
section_names file table =
    if length table == 0 then Ok [] else and_then (name_section file) (names_at file table)
