-- The sections of a file, by their names (System V ABI chapter 4, "Sections").
use Rattle.std.specs.Prelude.{ℕ, Bool, false, List, Option, Some, None, Result, Ok, Err, codes}
use Rattle.std.specs.Prelude.{nat_eq, ◌==◌, if◌then◌else◌}
use Rattle.std.specs.Cmp.Lexicographic.{pointwise}
use Rattle.cfi_elf.specs.declared.error.ElfError.{ElfError}
use Rattle.cfi_elf.specs.declared.error.ElfError.TheVariants.{Compressed}
use Rattle.cfi_elf.specs.declared.section_header.SectionHeader.{SectionHeader}
use Rattle.cfi_elf.specs.declared.sections.Section.{Section as SectionOfCode}
use Rattle.cfi_elf.specs.ElfFiles.{File}
use Rattle.cfi_elf.specs.Results.{and_then, if_found}
use Rattle.cfi_elf.specs.Searches.{first_by}
use Rattle.cfi_elf.specs.SectionTables.{section_headers, section_table}
use Rattle.cfi_elf.specs.SectionContents.{contents, address_of}
use Rattle.cfi_elf.specs.StringTables.{name_at, section_names}

-- whether a section has the name; one of type SHT_NULL is none
unfoldable pub is_named : List ℕ → List ℕ → SectionHeader → Result Bool ElfError
is_named names name header =
    if header.sh_type == 0 then Ok false
    else and_then (name_at names header.sh_name) (λ found. Ok (pointwise nat_eq found name))

-- the first section header with the name, if every name before it can be read
unfoldable pub header_named : File → List ℕ → Result (Option SectionHeader) ElfError
header_named file name =
    and_then (section_table file) (λ table.
    and_then (section_names file table) (λ names.
    first_by (is_named names name) (section_headers file table)))

-- A section's address and bytes.
pub record Section : Type 0 where
  pub address : ℕ
  pub bytes : List ℕ

-- what a section of the code is
abbrev pub section_view : SectionOfCode → Section
section_view section = record { address = section.address; bytes = section.bytes.now }

abbrev pub section_by_header : File → SectionHeader → Result Section ElfError
section_by_header file header =
    and_then (contents file header)
    (λ bytes. Ok (record { address = header.sh_addr; bytes = bytes }))

-- the section of this name
unfoldable pub section_named : File → List ℕ → Result (Option Section) ElfError
section_named file name = and_then (header_named file name) (if_found (section_by_header file))

-- the address of the section of this name
unfoldable pub section_address : File → List ℕ → Result (Option ℕ) ElfError
section_address file name = and_then (header_named file name) (if_found (address_of file))

-- a section that was found, or an error if there is a compressed one in its place
abbrev pub unless_compressed : File → Option Section → Result (Option Section) ElfError
unless_compressed file (Some section) = Ok (Some section)
unless_compressed file None =
    and_then (header_named file (codes ".zdebug_frame")) (if_found (λ header. Err Compressed))

unfoldable pub debug_frame : File → Result (Option Section) ElfError
debug_frame file = and_then (section_named file (codes ".debug_frame")) (unless_compressed file)
