-- Headers and symbols by the bytes of their records, whose order is that of the file.
use Rattle.std.specs.Prelude.{ℕ, Bool, List, codes}
use Rattle.cfi_elf.specs.declared.file_header.Class.{Class}
use Rattle.cfi_elf.specs.declared.file_header.FileHeader.{FileHeader}
use Rattle.cfi_elf.specs.declared.section_header.SectionHeader.{SectionHeader}
use Rattle.cfi_elf.specs.declared.program_header.ProgramHeader.{ProgramHeader}
use Rattle.cfi_elf.specs.declared.symbol.Symbol.{Symbol}
use Rattle.cfi_elf.specs.Fields.{field, record_size}
use Rattle.cfi_elf.specs.Layouts.{file_header_fields, section_header_fields, program_header_fields}
use Rattle.cfi_elf.specs.Layouts.{symbol_fields}

abbrev pub file_header : Class → Bool → List ℕ → FileHeader
file_header class big bytes =
    let value = field big bytes (file_header_fields class) in
    record {
      kind = record {
        e_type = value (codes "e_type");
        e_machine = value (codes "e_machine");
        e_version = value (codes "e_version");
      };
      offsets = record { e_phoff = value (codes "e_phoff"); e_shoff = value (codes "e_shoff") };
      sizes = record {
        e_phentsize = value (codes "e_phentsize");
        e_phnum = value (codes "e_phnum");
        e_shentsize = value (codes "e_shentsize");
        e_shnum = value (codes "e_shnum");
        e_shstrndx = value (codes "e_shstrndx");
      };
    }

abbrev pub section_header : Class → Bool → List ℕ → SectionHeader
section_header class big bytes =
    let value = field big bytes (section_header_fields class) in
    record {
      sh_name = value (codes "sh_name");
      sh_type = value (codes "sh_type");
      sh_flags = value (codes "sh_flags");
      sh_addr = value (codes "sh_addr");
      sh_offset = value (codes "sh_offset");
      sh_size = value (codes "sh_size");
      sh_link = value (codes "sh_link");
      sh_info = value (codes "sh_info");
    }

abbrev pub program_header : Class → Bool → List ℕ → ProgramHeader
program_header class big bytes =
    let value = field big bytes (program_header_fields class) in
    record {
      p_type = value (codes "p_type");
      p_flags = value (codes "p_flags");
      p_offset = value (codes "p_offset");
      p_vaddr = value (codes "p_vaddr");
      p_filesz = value (codes "p_filesz");
      p_memsz = value (codes "p_memsz");
    }

abbrev pub symbol : Class → Bool → List ℕ → Symbol
symbol class big bytes =
    let value = field big bytes (symbol_fields class) in
    record {
      st_name = value (codes "st_name");
      st_value = value (codes "st_value");
      st_size = value (codes "st_size");
      st_info = value (codes "st_info");
      st_shndx = value (codes "st_shndx");
    }

-- ---- sizes in bytes

abbrev pub file_header_bytes : Class → ℕ
file_header_bytes class = record_size (file_header_fields class)

abbrev pub section_header_bytes : Class → ℕ
section_header_bytes class = record_size (section_header_fields class)

abbrev pub program_header_bytes : Class → ℕ
program_header_bytes class = record_size (program_header_fields class)

abbrev pub symbol_bytes : Class → ℕ
symbol_bytes class = record_size (symbol_fields class)
