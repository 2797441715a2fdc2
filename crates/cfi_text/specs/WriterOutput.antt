-- What a writer was given.
use Rattle.std.specs.Prelude.{◌≡◌, List, ℕ, ◌++◌, Option, Result, MatchResult, IfOk}
use Rattle.cfi_text.specs.Lines.{Line}
use Rattle.std.specs.Io.KnownBytes.{Appends}

abbrev pub IsBeginning : List ℕ → List ℕ → Type 0
IsBeginning front text = (rest : List ℕ) × (front ++ rest ≡ text)

-- All of the text where the writer took it, and else a beginning of it. The writer's bytes are
-- `old` and then `new`, where they are known.
abbrev pub Writes :
    {T E : Type 0} → Option (List ℕ) → Option (List ℕ) → Result T E → List ℕ → Type 0
Writes old new result text = MatchResult result
    (λ _. Appends old new text)
    (λ _. (front : List ℕ) × Appends old new front × IsBeginning front text)

-- the line is written, and its status answered
abbrev pub Prints : {E : Type 0} → Line → Option (List ℕ) → Option (List ℕ) → Result ℕ E → Type 0
Prints printed old new result =
    Writes old new result printed.text × IfOk result (λ status. status ≡ printed.status)

-- an output of which something holds, all of it or a beginning
abbrev pub PrintsSome :
    {E : Type 0} → (Line → Type 0) → Option (List ℕ) → Option (List ℕ) → Result ℕ E → Type 0
PrintsSome Is old new result = (printed : Line) × Prints printed old new result × Is printed
