-- Results one after the other.
use Rattle.std.specs.Prelude.{Result, Ok, Err}

-- the first error, or what comes of the value
abbrev pub and_then : {A B E : Type 0} → Result A E → (A → Result B E) → Result B E
and_then (Ok x) next = next x
and_then (Err e) next = Err e
