-- What comes of an option or a result, by its case.
--     on_option on_none on_some, on_result on_ok on_err      one of the two
--     or_refused      the value, or the error if there is one
use Rattle.std.specs.Prelude.{Option, Some, None, Result, Ok, Err}
use Rattle.cfi_read_core.specs.declared.error.Error.{Error}

abbrev pub on_option : {A B : Type 0} → B → (A → B) → Option A → B
on_option on_none on_some None = on_none
on_option on_none on_some (Some value) = on_some value

abbrev pub on_result : {A E B : Type 0} → (A → B) → (E → B) → Result A E → B
on_result on_ok on_err (Ok value) = on_ok value
on_result on_ok on_err (Err error) = on_err error

abbrev pub or_refused : {A : Type 0} → Option Error → A → Result A Error
or_refused None value = Ok value
or_refused (Some error) value = Err error
