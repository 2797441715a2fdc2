-- The FDEs of a section that contain an address, up to the first error.
--     covering readings      those FDEs, in the order of the entries
--     outside readings refusal      the error for an address that none of them contains
--     first_of a fdes other      the first that contains the address, or the other result where
--         there is none
use Rattle.std.specs.Prelude.{ℕ, List, [], ◌∷◌, nat_lt, if◌then◌else◌, Option, Result, Ok, Err}
use Rattle.std.specs.Prelude.{unwrap_or}
use Rattle.cfi_read_core.specs.declared.error.Error.{Error}
use Rattle.cfi_read_core.specs.declared.error.Error.TheVariants.{NoUnwindInfoForAddress}
use Rattle.cfi_entry.specs.Fdes.{Fde, covers, end_of}

abbrev pub covering : List (Result Fde Error) → List Fde
covering [] = []
covering (Err e ∷ readings) = []
covering (Ok fde ∷ readings) =
    if nat_lt fde.initial (end_of fde) then fde ∷ covering readings else covering readings

abbrev pub outside : List (Result Fde Error) → Option Error → Error
outside [] refusal = unwrap_or refusal NoUnwindInfoForAddress
outside (Err e ∷ readings) refusal = e
outside (Ok fde ∷ readings) refusal = outside readings refusal

abbrev pub first_of : ℕ → List Fde → Result Fde Error → Result Fde Error
first_of a [] other = other
first_of a (fde ∷ fdes) other = if covers fde a then Ok fde else first_of a fdes other
