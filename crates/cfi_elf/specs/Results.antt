-- Results one after the other.
use Rattle.std.specs.Prelude.{Bool, List, [], ◌∷◌, Option, Some, None, Result, Ok, Err}
use Rattle.std.specs.Prelude.{if◌then◌else◌}
pub use Rattle.cfi_read_core.specs.Results.{and_then}

-- this error where there is nothing
abbrev pub or_missing : {A E : Type 0} → E → Option A → Result A E
or_missing error (Some x) = Ok x
or_missing error None = Err error

-- what comes of a thing, if one was found
abbrev pub if_found :
    {A B E : Type 0} → (A → Result B E) → Option A → Result (Option B) E
if_found next None = Ok None
if_found next (Some x) = and_then (next x) (λ y. Ok (Some y))

-- the first error whose test is true, or the value
abbrev pub unless : {A E : Type 0} → List (Bool × E) → A → Result A E
unless [] x = Ok x
unless (row ∷ rows) x = if row.0 then Err row.1 else unless rows x
