-- The names of functions by their addresses (System V ABI chapter 4, "Symbol Table").
--     function_name file address      the best name of those that begin at the address
--     function_place file address      the name of the one whose bytes have the address, and how
--         far into it that is
use Rattle.std.specs.Prelude.{ℕ, zero, suc, List, Option, find, map, option_and_then, option_map}
use Rattle.std.specs.Prelude.{◌==◌}
use Rattle.std.specs.List.{filter}
use Rattle.cfi_elf.specs.declared.function_names.FunctionNames.{FunctionNames}
use Rattle.cfi_elf.specs.ElfFiles.{File}
use Rattle.cfi_elf.specs.BestNames.{best}
use Rattle.cfi_elf.specs.FunctionPlaces.{Place, place_in_function}
use Rattle.cfi_elf.specs.Options.{or_else}
use Rattle.cfi_elf.specs.Functions.{Function, function_view, named_functions}

-- ---- functions that begin at an address

abbrev pub first_at : List Function → ℕ → Option Function
first_at functions address = find (λ f. f.address == address) functions

-- the one that gives the name
abbrev pub best_at : List Function → ℕ → Option Function
best_at functions address = best (filter (λ f. f.address == address) functions)

abbrev pub best_name : List Function → ℕ → Option (List ℕ)
best_name functions address = option_map (λ f. f.name) (best_at functions address)

abbrev pub function_name : File → ℕ → Option (List ℕ)
function_name file address = best_name (named_functions file) address

-- ---- functions that have an address in their bytes

-- the function that begins at the address, or else nearest before it
abbrev pub nearest : (ℕ → Option Function) → ℕ → Option Function
nearest first zero = first zero
nearest first (suc address) = or_else (first (suc address)) (nearest first address)

-- by the one that gives the name there
abbrev pub place_at : List Function → ℕ → Function → Option Place
place_at functions address f =
    option_and_then (place_in_function address) (best_at functions f.address)

abbrev pub place_among : List Function → ℕ → Option Place
place_among functions address =
    option_and_then (place_at functions address) (nearest (first_at functions) address)

abbrev pub function_place : File → ℕ → Option Place
function_place file address = place_among (named_functions file) address

-- ---- the same of the names of the code

abbrev pub sorted_functions : FunctionNames → List Function
sorted_functions names = map function_view names.functions.items

abbrev pub best_in : FunctionNames → ℕ → Option Function
best_in names address = best_at (sorted_functions names) address

abbrev pub name_in : FunctionNames → ℕ → Option (List ℕ)
name_in names address = best_name (sorted_functions names) address

abbrev pub place_by_names : FunctionNames → ℕ → Option Place
place_by_names names address = place_among (sorted_functions names) address
