-- Symbols, one by one (System V ABI chapter 4, "Symbol Table").
use Rattle.std.specs.Prelude.{ℕ, ◌+◌, ◌%◌, Bool, not, ◌&&◌, ◌||◌, nat_le, nat_lt, ◌==◌}
use Rattle.cfi_elf.specs.declared.symbol.Symbol.{Symbol}

-- whether the symbol is defined in a section (SHN_UNDEF is 0)
abbrev pub is_defined : Symbol → Bool
is_defined s = not (s.st_shndx == 0)

-- whether it is of a function by its type, the low four bits of st_info: STT_FUNC is 2, and
-- STT_GNU_IFUNC 10, of a function that says which one is called for it
abbrev pub has_type_of_function : Symbol → Bool
has_type_of_function s = (s.st_info % 16 == 2) || (s.st_info % 16 == 10)

-- whether it is a defined function
abbrev pub is_function : Symbol → Bool
is_function s = has_type_of_function s && is_defined s

-- that has the address
abbrev pub is_function_at : ℕ → Symbol → Bool
is_function_at address s =
    is_function s && (nat_le s.st_value address && nat_lt address (s.st_value + s.st_size))
