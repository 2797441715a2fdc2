-- The records of ELF files (System V ABI chapter 4, "ELF Header", "Section Header", "Symbol Table",
-- "Relocation"; chapter 5, "Program Header"). Of each field: its offset and width in files of 32
-- bits, and in files of 64 bits.
use Rattle.std.specs.Prelude.{ℕ, Bool, List, [], ◌∷◌, codes, if◌then◌else◌}
use Rattle.std.specs.Int.{Width, w8, w16, w32, w64}
use Rattle.cfi_elf.specs.declared.file_header.Class.{Class}
use Rattle.cfi_elf.specs.declared.file_header.Class.TheVariants.{Elf32, Elf64}
use Rattle.cfi_elf.specs.Fields.{Field}

abbrev pub by_class : {A : Type 0} → Class → A → A → A
by_class Elf32 x y = x
by_class Elf64 x y = y

-- at the same offset in both, with the same width
abbrev pub fixed : List ℕ → ℕ → Width → Field
fixed name offset width = record { name = name; offset = offset; width = width }

-- at another offset in files of 64 bits, with the same width
abbrev pub moved : Class → List ℕ → ℕ → ℕ → Width → Field
moved class name offset_32 offset_64 width = fixed name (by_class class offset_32 offset_64) width

-- an address, an offset or a size of something: four bytes in files of 32 bits, eight in others
abbrev pub widened : Class → List ℕ → ℕ → ℕ → Field
widened class name offset_32 offset_64 =
    fixed name (by_class class offset_32 offset_64) (by_class class w32 w64)

-- Elf32_Ehdr, Elf64_Ehdr; the 16 bytes of e_ident by EI_MAG0 to EI_MAG3 and so on
abbrev pub file_header_fields : Class → List Field
file_header_fields class =
    fixed (codes "EI_MAG") 0 w32
    ∷ fixed (codes "EI_CLASS") 4 w8
    ∷ fixed (codes "EI_DATA") 5 w8
    ∷ fixed (codes "EI_VERSION") 6 w8
    ∷ fixed (codes "EI_OSABI") 7 w8
    ∷ fixed (codes "EI_PAD") 8 w64
    ∷ fixed (codes "e_type") 16 w16
    ∷ fixed (codes "e_machine") 18 w16
    ∷ fixed (codes "e_version") 20 w32
    ∷ widened class (codes "e_entry") 24 24
    ∷ widened class (codes "e_phoff") 28 32
    ∷ widened class (codes "e_shoff") 32 40
    ∷ moved class (codes "e_flags") 36 48 w32
    ∷ moved class (codes "e_ehsize") 40 52 w16
    ∷ moved class (codes "e_phentsize") 42 54 w16
    ∷ moved class (codes "e_phnum") 44 56 w16
    ∷ moved class (codes "e_shentsize") 46 58 w16
    ∷ moved class (codes "e_shnum") 48 60 w16
    ∷ moved class (codes "e_shstrndx") 50 62 w16
    ∷ []

-- Elf32_Shdr, Elf64_Shdr
abbrev pub section_header_fields : Class → List Field
section_header_fields class =
    fixed (codes "sh_name") 0 w32
    ∷ fixed (codes "sh_type") 4 w32
    ∷ widened class (codes "sh_flags") 8 8
    ∷ widened class (codes "sh_addr") 12 16
    ∷ widened class (codes "sh_offset") 16 24
    ∷ widened class (codes "sh_size") 20 32
    ∷ moved class (codes "sh_link") 24 40 w32
    ∷ moved class (codes "sh_info") 28 44 w32
    ∷ widened class (codes "sh_addralign") 32 48
    ∷ widened class (codes "sh_entsize") 36 56
    ∷ []

-- Elf32_Phdr, Elf64_Phdr
abbrev pub program_header_fields : Class → List Field
program_header_fields class =
    fixed (codes "p_type") 0 w32
    ∷ moved class (codes "p_flags") 24 4 w32
    ∷ widened class (codes "p_offset") 4 8
    ∷ widened class (codes "p_vaddr") 8 16
    ∷ widened class (codes "p_paddr") 12 24
    ∷ widened class (codes "p_filesz") 16 32
    ∷ widened class (codes "p_memsz") 20 40
    ∷ widened class (codes "p_align") 28 48
    ∷ []

-- Elf32_Nhdr, Elf64_Nhdr
abbrev pub note_header_fields : List Field
note_header_fields =
    fixed (codes "n_namesz") 0 w32
    ∷ fixed (codes "n_descsz") 4 w32
    ∷ fixed (codes "n_type") 8 w32
    ∷ []

-- Elf32_Sym, Elf64_Sym
abbrev pub symbol_fields : Class → List Field
symbol_fields class =
    fixed (codes "st_name") 0 w32
    ∷ widened class (codes "st_value") 4 8
    ∷ widened class (codes "st_size") 8 16
    ∷ moved class (codes "st_info") 12 4 w8
    ∷ moved class (codes "st_other") 13 5 w8
    ∷ moved class (codes "st_shndx") 14 6 w16
    ∷ []

-- Elf32_Rel and Elf64_Rel, which have no r_addend; Elf32_Rela, Elf64_Rela
abbrev pub relocation_fields : Class → Bool → List Field
relocation_fields class has_addend =
    widened class (codes "r_offset") 0 0
    ∷ widened class (codes "r_info") 4 8
    ∷ (if has_addend then widened class (codes "r_addend") 8 16 ∷ [] else [])
