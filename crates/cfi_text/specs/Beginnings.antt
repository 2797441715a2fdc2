-- Inputs that are read on only if they begin as a file that is asked about does.
--     may_be_either bytes      whether a file that begins with these bytes can be an ELF file or a
--         profile
--     IsReadAsEither read all      what is read of an input with these bytes
use Rattle.std.specs.Prelude.{◌≡◌, ◌⊎◌, ℕ, Bool, false, ◌||◌, List, [], ◌∷◌, ◌++◌, length, codes}
use Rattle.std.specs.Prelude.{nat_eq, nat_lt}
use Rattle.std.specs.List.{starts_with}

-- EI_MAG0 to EI_MAG3 of an ELF file. Fewer bytes don't tell
abbrev pub begins_as_elf : List ℕ → Bool
begins_as_elf bytes =
    nat_lt (length bytes) 4 || starts_with nat_eq bytes (0x7f ∷ 0x45 ∷ 0x4c ∷ 0x46 ∷ [])

-- the magic number of perf.data, in either byte order
abbrev pub begins_as_profile : List ℕ → Bool
begins_as_profile bytes =
    nat_lt (length bytes) 8
    || (starts_with nat_eq bytes (codes "PERFILE2")
    || starts_with nat_eq bytes (codes "2ELIFREP"))

abbrev pub may_be_either : List ℕ → Bool
may_be_either bytes = begins_as_elf bytes || begins_as_profile bytes

-- all bytes, or the first ones where they show that it is of another format
abbrev pub IsReadAsEither : List ℕ → List ℕ → Type 0
IsReadAsEither read all =
    (rest : List ℕ) × (all ≡ read ++ rest) × ((rest ≡ []) ⊎ (may_be_either read ≡ false))
