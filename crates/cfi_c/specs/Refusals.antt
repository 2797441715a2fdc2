-- Errors as C sees them. Their numbers and names are those of `RefusalNames`.
--     error_status e      the status; 0 is that of a row
--     status_name status      the name of a status; of that of an error it is the name of the error
use Rattle.std.specs.Prelude.{ℕ, ◌-◌, ℤ, pos, negsuc, List, [], ◌∷◌, map, codes, slice_index_or}
use Rattle.std.specs.Prelude.{nat_lt, if◌then◌else◌}
use Rattle.cfi_read_core.specs.RefusalNames.{errors, name_of, number_of}
use Rattle.cfi_read_core.specs.declared.error.Error.{Error}

abbrev pub error_status : Error → ℤ
error_status e = pos (number_of e)

-- those of C alone, from 64 on: without a context, without a table, and without a module
abbrev pub own_names : List (List ℕ)
own_names =
    codes "NoContext" ∷ codes "NoTable" ∷ codes "NoSegments" ∷ codes "NoHeader"
    ∷ codes "NoSection" ∷ codes "NotInMemory" ∷ []

-- from 0 on, which is the status of a row
abbrev pub refusal_names : List (List ℕ)
refusal_names = codes "Ok" ∷ map name_of errors

abbrev pub status_name : ℤ → List ℕ
status_name (pos n) =
    if nat_lt n 64 then slice_index_or refusal_names n (codes "Unknown")
    else slice_index_or own_names (n - 64) (codes "Unknown")
status_name (negsuc n) = codes "Unknown"
