-- The auxiliary vector (getauxval(3)): pairs of a type and a value, numbers of eight bytes.
--     value_in kind pairs      the value of the first pair of a type
use Rattle.std.specs.Prelude.{ℕ, false, List, [], ◌∷◌, Option, Some, None, ◌==◌, if◌then◌else◌}
use Rattle.std.specs.Int.{w64}
use Rattle.cfi_elf.specs.Fields.{number_at}

-- AT_NULL, which is 0, ends them
abbrev pub value_in : ℕ → List (List ℕ) → Option ℕ
value_in kind [] = None
value_in kind (pair ∷ pairs) =
    if number_at false pair 0 w64 == 0 then None
    else if number_at false pair 0 w64 == kind then Some (number_at false pair 8 w64)
    else value_in kind pairs
