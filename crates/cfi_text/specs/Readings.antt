-- Inputs that are read to their end.
--     AreLeft known bytes      all bytes that a reader has left
--     IsAppended old new before after more      some bytes of the input were appended to those that
--         were read before; there are none only at its end
--     IsReadRefused error      a read fails, or there is no memory for the bytes
use Rattle.std.specs.Prelude.{◌≡◌, ◌⊎◌, ℕ, Bool, false, List, ◌++◌, Option, IfSome}
use Rattle.std.specs.Io.KnownBytes.{Consumes, IsAtEnd}
use Rattle.cfi_text.specs.declared.reading.InputError.{InputError}
use Rattle.cfi_text.specs.declared.reading.InputError.TheVariants.{Unreadable, OutOfMemory}

abbrev pub AreLeft : Option (List ℕ) → List ℕ → Type 0
AreLeft known bytes = IfSome known (λ left. bytes ≡ left)

abbrev pub IsAppended :
    Option (List ℕ) → Option (List ℕ) → List ℕ → List ℕ → Bool → Type 0
IsAppended old new before after more =
    (read : List ℕ) × Consumes old new read × (after ≡ before ++ read)
    × (more ≡ false → IsAtEnd new)

abbrev pub IsReadRefused : InputError → Type 0
IsReadRefused e = (e ≡ Unreadable) ⊎ (e ≡ OutOfMemory)
