-- The addresses that the sections and symbols of a relocatable file get: each section is where it
-- is in the file (System V ABI chapter 4, "Symbol Values").
use Rattle.std.specs.Prelude.{ℕ, ◌+◌, ◌*◌, List, Option, Some, None, Result, Ok, Err, ◌==◌, bit_and}
use Rattle.std.specs.Prelude.{slice_get, if◌then◌else◌}
use Rattle.std.specs.Int.{w32, w64}
use Rattle.cfi_elf.specs.declared.error.ElfError.{ElfError}
use Rattle.cfi_elf.specs.declared.error.ElfError.TheVariants.{NoRelocationSymbol}
use Rattle.cfi_elf.specs.declared.error.ElfError.TheVariants.{ExtendedSectionIndex}
use Rattle.cfi_elf.specs.declared.section_header.SectionHeader.{SectionHeader}
use Rattle.cfi_elf.specs.declared.symbol.Symbol.{Symbol}
use Rattle.cfi_elf.specs.ElfFiles.{File, class_of_file, is_big_file}
use Rattle.cfi_elf.specs.Headers.{section_header_bytes, symbol_bytes}
use Rattle.cfi_elf.specs.Layouts.{by_class}
use Rattle.cfi_elf.specs.Results.{and_then, or_missing}
use Rattle.cfi_elf.specs.SectionTables.{section_headers}
use Rattle.cfi_elf.specs.Modular.{plus}
use Rattle.cfi_elf.specs.SymbolTables.{symbols_of_bytes}
use Rattle.cfi_elf.specs.RelocatedFields.{write_number}

-- the address of a section in memory (SHF_ALLOC is 2): its offset in the file, or the file's length
-- for one without bytes (SHT_NOBITS is 8), so that all of these share one address. Any other has 0,
-- and what is in it is told by offsets
abbrev pub section_base : File → SectionHeader → ℕ
section_base file header =
    if bit_and header.sh_flags 2 == 0 then 0
    else if header.sh_type == 8 then file.image.length
    else header.sh_offset

abbrev pub base_of : File → Option SectionHeader → ℕ
base_of file None = 0
base_of file (Some header) = section_base file header

-- the address of a symbol (S): in its section by st_value, if it has one (SHN_XINDEX is 0xffff); of
-- one without a section, as of an absolute (SHN_ABS) or a common one (SHN_COMMON, whose st_value is
-- an alignment: no call frames refer to one), st_value itself
unfoldable pub symbol_value : File → List ℕ → Symbol → Result ℕ ElfError
symbol_value file table s =
    if s.st_shndx == 0xffff then Err ExtendedSectionIndex
    else Ok (plus s.st_value (base_of file (slice_get (section_headers file table) s.st_shndx)))

-- that of the symbol at an index, which is 0 (STN_UNDEF) where there is none
unfoldable pub symbol_value_at : File → List ℕ → List ℕ → ℕ → Result ℕ ElfError
symbol_value_at file table symbols index =
    if index == 0 then Ok 0
    else and_then
    (or_missing (NoRelocationSymbol index) (slice_get (symbols_of_bytes file symbols) index))
    (symbol_value file table)

-- the bytes of the file with its address for sh_addr of the section header at an index
abbrev pub write_section_address : File → ℕ → SectionHeader → List ℕ → Result (List ℕ) ElfError
write_section_address file index header bytes =
    let class = class_of_file file in
    let record_at = file.header.offsets.e_shoff + index * section_header_bytes class in
    write_number (is_big_file file) (by_class class w32 w64)
    (record_at + by_class class 12 16) (section_base file header) bytes

-- the same with its address for st_value of the symbol at an index of a table at an offset
abbrev pub write_symbol_value : File → List ℕ → ℕ → ℕ → Symbol → List ℕ → Result (List ℕ) ElfError
write_symbol_value file table offset index s bytes =
    let class = class_of_file file in
    let record_at = offset + index * symbol_bytes class in
    and_then (symbol_value file table s) (λ address.
    write_number (is_big_file file) (by_class class w32 w64) (record_at + by_class class 4 8)
    address bytes)
