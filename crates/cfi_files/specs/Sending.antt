-- Lines that go to an output by way of a text in which they wait. A text that was refused memory is
-- never written.
--     Sends old new written now result part      the part goes that way, after what went before it
--     Grows old new      the output has more, and what it had
use Rattle.std.specs.Prelude.{◌≡◌, List, [], ℕ, ◌++◌, Option, Result, MatchResult}
use Rattle.std.specs.Io.KnownBytes.{Appends}
use Rattle.cfi_text.specs.Texts.{IsWhole, contents}
use Rattle.cfi_text.specs.WriterOutput.{IsBeginning}
use Rattle.cfi_text.specs.declared.text.Text.{Text}

-- nothing waits in it
abbrev pub IsEmpty : Text → Type 0
IsEmpty text = IsWhole text × (contents text ≡ [])

-- a beginning of what was sent was written
abbrev pub HasBegun : Option (List ℕ) → Option (List ℕ) → List ℕ → Type 0
HasBegun first now sent = (front : List ℕ) × Appends first now front × IsBeginning front sent

-- and the rest of it waits, unless memory was refused
pub record IsSent (first now : Option (List ℕ)) (waiting : Text) (sent : List ℕ) : Type 0 where
  pub begun : HasBegun first now sent
  pub waits : IsWhole waiting →
      (front : List ℕ) × Appends first now front × (front ++ contents waiting ≡ sent)

-- whatever was sent before
abbrev pub Sends :
    {T E : Type 0} → Text → Text → Option (List ℕ) → Option (List ℕ) → Result T E → List ℕ → Type 0
Sends old new written now result part =
    (first : Option (List ℕ)) → (sent : List ℕ) → IsSent first written old sent →
    MatchResult result
    (λ _. IsSent first now new (sent ++ part))
    (λ _. HasBegun first now (sent ++ part))

abbrev pub Grows : Option (List ℕ) → Option (List ℕ) → Type 0
Grows old new = (more : List ℕ) × Appends old new more
