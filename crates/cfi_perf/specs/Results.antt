-- Results one after the other.
use Rattle.std.specs.Prelude.{Result, Ok, Err}
pub use Rattle.cfi_read_core.specs.Results.{and_then}
use Rattle.cfi_perf.specs.declared.error.PerfError.{PerfError}

-- this error in place of each other one
abbrev pub or_error : {A E : Type 0} → PerfError → Result A E → Result A PerfError
or_error error (Ok x) = Ok x
or_error error (Err e) = Err error
