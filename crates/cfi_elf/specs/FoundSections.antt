-- Which section a name finds, by the indices of section headers.
--     HasName names name header      it is the header of a section, and the name of that is this
--     IsFirstNamed file table names name section      the section of the first header that has
--         the name
--     FindsSection file name found      where the headers and the names of sections can be read:
--         the section of the first header that has the name, or none where no header has it
use Rattle.std.specs.Prelude.{◌≡◌, ◌≢◌, ◌<◌, ℕ, List, Option, Some, None, Ok, slice_get}
use Rattle.cfi_elf.specs.declared.section_header.SectionHeader.{SectionHeader}
use Rattle.cfi_elf.specs.ElfFiles.{File}
use Rattle.cfi_elf.specs.Sections.{Section}
use Rattle.cfi_elf.specs.SectionContents.{contents}
use Rattle.cfi_elf.specs.StringTables.{name_at, section_names}
use Rattle.cfi_elf.specs.SectionTables.{section_headers, section_table}

-- SHT_NULL is 0
abbrev pub HasName : List ℕ → List ℕ → SectionHeader → Type 0
HasName names name header = (header.sh_type ≢ 0) × (name_at names header.sh_name ≡ Ok name)

pub record IsFirstNamed (file : File) (table names name : List ℕ) (section : Section) : Type 0 where
  pub index : ℕ
  pub header : SectionHeader
  pub at_index : slice_get (section_headers file table) index ≡ Some header
  pub named : HasName names name header
  pub none_before :
      (j : ℕ) (other : SectionHeader) → j < index →
      slice_get (section_headers file table) j ≡ Some other → HasName names name other → ⊥
  pub address_is : section.address ≡ header.sh_addr
  pub bytes_are : contents file header ≡ Ok section.bytes

abbrev pub IsFoundIn : File → List ℕ → List ℕ → List ℕ → Option Section → Type 0
IsFoundIn file table names name (Some section) = IsFirstNamed file table names name section
IsFoundIn file table names name None =
    (j : ℕ) (header : SectionHeader) → slice_get (section_headers file table) j ≡ Some header →
    HasName names name header → ⊥

abbrev pub FindsSection : File → List ℕ → Option Section → Type 0
FindsSection file name found =
    (table names : List ℕ) → section_table file ≡ Ok table → section_names file table ≡ Ok names →
    IsFoundIn file table names name found
