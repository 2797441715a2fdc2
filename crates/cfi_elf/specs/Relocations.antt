-- The relocations of a section (System V ABI chapter 4, "Relocation").
use Rattle.std.specs.Prelude.{ℕ, ◌+◌, ◌/◌, ◌%◌, Bool, List, map, codes, Some, None, nat_lt}
use Rattle.std.specs.Prelude.{if◌then◌else◌}
use Rattle.cfi_elf.specs.declared.file_header.Class.{Class}
use Rattle.cfi_elf.specs.declared.relocation.Relocation.{Relocation}
use Rattle.cfi_elf.specs.ElfFiles.{File, class_of_file, is_big_file}
use Rattle.cfi_elf.specs.Fields.{entries, field, record_size}
use Rattle.cfi_elf.specs.Layouts.{by_class, relocation_fields}

abbrev pub relocation_bytes : Class → Bool → ℕ
relocation_bytes class has_addend = record_size (relocation_fields class has_addend)

-- as 64 bits in two's complement
abbrev pub sign_extended : ℕ → ℕ
sign_extended number =
    if nat_lt number 0x80000000 then number else number + 0xffffffff00000000

-- the addend in two's complement
abbrev pub addend_of : Class → ℕ → ℕ
addend_of class addend = by_class class (sign_extended addend) addend

-- ELF32_R_SYM and ELF32_R_TYPE, ELF64_R_SYM and ELF64_R_TYPE: r_info has the type in its low 8 bits
-- or in its low 32
abbrev pub types : Class → ℕ
types class = by_class class 0x100 0x100000000

abbrev pub relocation : Class → Bool → Bool → List ℕ → Relocation
relocation class has_addend big bytes =
    let value = field big bytes (relocation_fields class has_addend) in
    let info = value (codes "r_info") in
    record {
      r_offset = value (codes "r_offset");
      symbol = info / types class;
      kind = info % types class;
      r_addend =
          if has_addend then Some (addend_of class (value (codes "r_addend"))) else None;
    }

abbrev pub relocations : File → Bool → List ℕ → List Relocation
relocations file has_addend bytes =
    map (relocation (class_of_file file) has_addend (is_big_file file))
    (entries (relocation_bytes (class_of_file file) has_addend) bytes)
