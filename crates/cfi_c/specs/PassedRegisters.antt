-- The registers of a frame, as C passes and gets them.
--     known_values registers      the values of the registers by their numbers, where they are
--         known
--     written_value value      the value of a register, as C gets it
--     AreValues values registers      the registers are those with these values
--     plain_of registers      registers, of which none that isn't known has a value
use Rattle.std.specs.Prelude.{◌≡◌, ℕ, ◌<◌, true, false, List, length, map, take, Option, Some, None}
use Rattle.std.specs.Prelude.{slice_index_or, if◌then◌else◌}
use Rattle.cfi_expression.specs.Frames.{known}
use Rattle.cfi_c.specs.declared.register.CfiValue.{CfiValue}

abbrev pub known_value : CfiValue → Option ℕ
known_value register = if register.known then Some register.value else None

-- there is room for 256 registers
abbrev pub known_values : List CfiValue → List (Option ℕ)
known_values registers = map known_value (take 256 registers)

-- the values of registers that are passed
abbrev pub values_of : List CfiValue → List (Option ℕ)
values_of registers = map known_value registers

abbrev pub written_value : Option ℕ → CfiValue
written_value (Some n) = record { value = n; known = true }
written_value None = record { value = 0; known = false }

abbrev pub AreValues : List (Option ℕ) → List CfiValue → Type 0
AreValues values registers =
    (k : ℕ) → k < length registers →
    slice_index_or registers k (written_value None) ≡ written_value (known values k)

-- the same registers, with 0 for the value of each that isn't known
abbrev pub plain_of : List CfiValue → List CfiValue
plain_of registers = map (λ register. written_value (known_value register)) registers
