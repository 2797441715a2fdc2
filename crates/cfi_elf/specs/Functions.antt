-- The functions of a file, by their symbols (System V ABI chapter 4, "Symbol Table").
--     function_at file address      the first whose bytes have the address
--     named_functions file      those that have names, in the order of their symbols
use Rattle.std.specs.Prelude.{ℕ, ◌/◌, List, [], Option, Some, None, Result, Ok, find, if◌then◌else◌}
use Rattle.std.specs.Prelude.{◌∷◌, Err}
use Rattle.cfi_elf.specs.declared.error.ElfError.{ElfError}
use Rattle.cfi_elf.specs.declared.symbol.Symbol.{Symbol}
use Rattle.cfi_elf.specs.declared.functions.Function.{Function as FunctionOfCode}
use Rattle.cfi_elf.specs.ElfFiles.{File}
use Rattle.cfi_elf.specs.Results.{and_then, if_found}
use Rattle.cfi_elf.specs.StringTables.{name_at}
use Rattle.cfi_elf.specs.Symbols.{is_function_at, is_function}
use Rattle.std.specs.List.{filter_map}
use Rattle.cfi_elf.specs.SymbolTables.{SymbolTable, symbol_table, symbols}

-- A function's name, address and size, and how far its name is seen.
pub record Function : Type 0 where
  pub name : List ℕ
  pub address : ℕ
  pub size : ℕ
  pub binding : ℕ

-- what a function of the code is
abbrev pub function_view : FunctionOfCode → Function
function_view f =
    record { name = f.name.now; address = f.address; size = f.size; binding = f.binding }

-- the symbol as a function with a name (the binding is in the high four bits of st_info)
abbrev pub function_of_symbol : Symbol → List ℕ → Function
function_of_symbol s name =
    record { name = name; address = s.st_value; size = s.st_size; binding = s.st_info / 16 }

abbrev pub read_function : List ℕ → Symbol → Result Function ElfError
read_function names s =
    and_then (name_at names s.st_name) (λ name. Ok (function_of_symbol s name))

-- the first function that has the address
unfoldable pub function_at : File → ℕ → Result (Option Function) ElfError
function_at file address =
    and_then (symbol_table file)
    (λ table.
    if_found (read_function table.names) (find (is_function_at address) (symbols file table)))

-- a name that is empty or can't be read is none
abbrev pub with_name : Symbol → Result (List ℕ) ElfError → Option Function
with_name s (Err e) = None
with_name s (Ok []) = None
with_name s (Ok (c ∷ cs)) = Some (function_of_symbol s (c ∷ cs))

abbrev pub named_function : List ℕ → Symbol → Option Function
named_function names s = if is_function s then with_name s (name_at names s.st_name) else None

-- none where the symbols can't be read
abbrev pub functions_in : File → Result SymbolTable ElfError → List Function
functions_in file (Ok table) = filter_map (named_function table.names) (symbols file table)
functions_in file (Err e) = []

unfoldable pub named_functions : File → List Function
named_functions file = functions_in file (symbol_table file)
