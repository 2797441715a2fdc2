-- An address by the function whose bytes have it (System V ABI chapter 4, "Symbol Table").
use Rattle.std.specs.Prelude.{ℕ, ◌-◌, List, Option, Some, None, nat_lt, if◌then◌else◌}
use Rattle.cfi_elf.specs.declared.function_place.FunctionPlace.{FunctionPlace}
use Rattle.cfi_elf.specs.Functions.{Function}

-- the name of a function, and how many bytes an address is after its first
pub record Place : Type 0 where
  pub name : List ℕ
  pub offset : ℕ

-- of an address at or after the first, where it is one of the bytes
abbrev pub place_in_function : ℕ → Function → Option Place
place_in_function address f =
    if nat_lt (address - f.address) f.size
    then Some (record { name = f.name; offset = address - f.address })
    else None

-- a place of the code
abbrev pub place_view : FunctionPlace → Place
place_view place = record { name = place.name.now; offset = place.offset }
