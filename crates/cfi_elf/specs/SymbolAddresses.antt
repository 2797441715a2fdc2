-- The addresses of symbols, by their names (System V ABI chapter 4, "Symbol Table").
--     symbol_address file name      that of the first defined symbol with the name
--     symbol_addresses file name      those of the defined symbols with the name, in their order,
--         each address once
use Rattle.std.specs.Prelude.{ℕ, Bool, false, List, [], Option, Result, Ok, option_map, nat_eq}
use Rattle.std.specs.Prelude.{◌==◌, if◌then◌else◌, ◌&&◌}
use Rattle.std.specs.Cmp.Lexicographic.{pointwise}
use Rattle.cfi_elf.specs.declared.error.ElfError.{ElfError}
use Rattle.cfi_elf.specs.declared.symbol.Symbol.{Symbol}
use Rattle.cfi_elf.specs.ElfFiles.{File}
use Rattle.cfi_elf.specs.Results.{and_then}
use Rattle.cfi_elf.specs.Searches.{first_by}
use Rattle.cfi_elf.specs.StringTables.{name_at}
use Rattle.std.specs.List.{fold, list_any, push}
use Rattle.cfi_elf.specs.Symbols.{is_defined}
use Rattle.cfi_elf.specs.SymbolTables.{symbol_table, symbols}
use Rattle.cfi_elf.specs.StringTables.{is_name}

-- whether a symbol is defined and has the name
unfoldable pub is_symbol_named : List ℕ → List ℕ → Symbol → Result Bool ElfError
is_symbol_named names name s =
    if s.st_shndx == 0
    then Ok false
    else and_then (name_at names s.st_name) (λ found. Ok (pointwise nat_eq found name))

-- the address of the first defined symbol with the name
unfoldable pub symbol_address : File → List ℕ → Result (Option ℕ) ElfError
symbol_address file name =
    and_then (symbol_table file) (λ table.
    and_then (first_by (is_symbol_named table.names name) (symbols file table))
    (λ found. Ok (option_map (λ s. s.st_value) found)))

abbrev pub defines_name : List ℕ → List ℕ → Symbol → Bool
defines_name names name s = is_defined s && is_name name (name_at names s.st_name)

abbrev pub with_address : List ℕ → ℕ → List ℕ
with_address found address =
    if list_any (λ a. a == address) found then found else push found address

abbrev pub with_symbol : List ℕ → List ℕ → List ℕ → Symbol → List ℕ
with_symbol names name found s =
    if defines_name names name s then with_address found s.st_value else found

abbrev pub addresses_with_name : List ℕ → List ℕ → List Symbol → List ℕ
addresses_with_name names name symbols = fold (with_symbol names name) [] symbols

unfoldable pub symbol_addresses : File → List ℕ → Result (List ℕ) ElfError
symbol_addresses file name =
    and_then (symbol_table file)
    (λ table. Ok (addresses_with_name table.names name (symbols file table)))
