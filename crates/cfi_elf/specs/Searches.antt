-- The first that passes a test which can fail.
use Rattle.std.specs.Prelude.{Bool, true, false, List, [], ◌∷◌, Option, Some, None, Result, Ok, Err}

abbrev pub if_passed :
    {A E : Type 0} → Result Bool E → A → Result (Option A) E → Result (Option A) E
if_passed (Ok true) x others = Ok (Some x)
if_passed (Ok false) x others = others
if_passed (Err e) x others = Err e

-- the first that passes, or the first error before it
abbrev pub first_by : {A E : Type 0} → (A → Result Bool E) → List A → Result (Option A) E
first_by test [] = Ok None
first_by test (x ∷ xs) = if_passed (test x) x (first_by test xs)
