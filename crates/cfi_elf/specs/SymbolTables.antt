-- The symbol table of a file (System V ABI chapter 4, "Symbol Table").
use Rattle.std.specs.Prelude.{ℕ, Bool, List, [], Option, Some, None, Result, Ok, find, map}
use Rattle.std.specs.Prelude.{option_map, ◌==◌}
use Rattle.cfi_elf.specs.declared.error.ElfError.{ElfError}
use Rattle.cfi_elf.specs.declared.section_header.SectionHeader.{SectionHeader}
use Rattle.cfi_elf.specs.declared.symbol.Symbol.{Symbol}
use Rattle.cfi_elf.specs.declared.symbol_table.SymbolTable.{SymbolTable as SymbolTableOfCode}
use Rattle.cfi_elf.specs.ElfFiles.{File, class_of_file, is_big_file}
use Rattle.cfi_elf.specs.Fields.{entries}
use Rattle.cfi_elf.specs.FunctionEntries.{function_descriptors, located}
use Rattle.cfi_elf.specs.Headers.{symbol, symbol_bytes}
use Rattle.cfi_elf.specs.Options.{or_else}
use Rattle.cfi_elf.specs.Results.{and_then}
use Rattle.cfi_elf.specs.Sections.{Section, section_view}
use Rattle.cfi_elf.specs.SectionContents.{contents}
use Rattle.cfi_elf.specs.StringTables.{names_at}
use Rattle.cfi_elf.specs.SectionTables.{section_headers, section_table}

-- The bytes of the symbols, the string table with their names, and the section of the descriptors
-- of functions, where there is one.
pub record SymbolTable : Type 0 where
  pub bytes : List ℕ
  pub names : List ℕ
  pub descriptors : Option Section

-- what a table of symbols of the code is
abbrev pub symbol_table_view : SymbolTableOfCode → SymbolTable
symbol_table_view table = record {
  bytes = table.bytes.now;
  names = table.names.now;
  descriptors = option_map section_view table.descriptors;
}

-- ---- the symbol table: the first section of type SHT_SYMTAB (2), or else of type SHT_DYNSYM (11)

abbrev pub is_of_type : ℕ → SectionHeader → Bool
is_of_type sh_type header = header.sh_type == sh_type

abbrev pub symbol_section : File → List ℕ → Option SectionHeader
symbol_section file table =
    let headers =
    section_headers file table in or_else (find (is_of_type 2) headers)
    (find (is_of_type 11) headers)

-- its bytes, and its names, which are in the section of the index sh_link
unfoldable pub symbols_in : File → List ℕ → SectionHeader → Result SymbolTable ElfError
symbols_in file table header =
    and_then (contents file header) (λ bytes.
    and_then (names_at file table header.sh_link) (λ names.
    and_then (function_descriptors file) (λ descriptors.
    Ok (record { bytes = bytes; names = names; descriptors = descriptors }))))

abbrev pub symbols_if_any : File → List ℕ → Option SectionHeader → Result SymbolTable ElfError
symbols_if_any file table None = Ok (record { bytes = []; names = []; descriptors = None })
symbols_if_any file table (Some header) = symbols_in file table header

-- no symbols where there is no such section
unfoldable pub symbol_table : File → Result SymbolTable ElfError
symbol_table file =
    and_then (section_table file) (λ table. symbols_if_any file table (symbol_section file table))

-- the symbols in their order, as many as fit the section whole
abbrev pub symbols_of_bytes : File → List ℕ → List Symbol
symbols_of_bytes file bytes =
    map (symbol (class_of_file file) (is_big_file file))
    (entries (symbol_bytes (class_of_file file)) bytes)

-- the same, where the value of a function is its address
abbrev pub symbols : File → SymbolTable → List Symbol
symbols file table =
    map (located file table.descriptors) (symbols_of_bytes file table.bytes)
