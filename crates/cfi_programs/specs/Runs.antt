-- Which output is right for the words and the input of a program, and what a run writes.
--     LineOfWords tool words input printed      the output that is right for words and input
--     IsLineFor tool request bytes printed      the output of a request, or that memory was refused
--     IsOwedBy tool request input printed      the same of words that may be wrong, or that the
--         input can't be read
--     IsRun tool words input written status      what a run writes, and its status
--     PrintsRunOf tool words input old new status      the same for a reader and a writer
use Rattle.std.specs.Prelude.{◌≡◌, ◌⊎◌, ℕ, ◌≤◌, ◌<◌, ◌==◌, false, get_or, Option, Some, None, List}
use Rattle.std.specs.Prelude.{Result, IfSome, IsSome}
use Rattle.std.specs.Io.KnownBytes.{Appends}
use Rattle.std.specs.Option.{option_and_then}
use Rattle.cfi_programs.specs.Input.{Bytes}
use Rattle.cfi_programs.specs.WrongLines.{wrong_hexadecimal, wrong_input, wrong_words}
use Rattle.cfi_text.specs.Lines.{Line}
use Rattle.cfi_text.specs.Refusals.{out_of_memory}
use Rattle.cfi_text.specs.Texts.{IsWhole, Puts, contents}
use Rattle.cfi_text.specs.WriterOutput.{IsBeginning, Prints}
use Rattle.cfi_text.specs.declared.text.Text.{Text}

-- An executable: what its words ask for, or none where they are wrong; what its input means, or
-- none where it is not hexadecimal; and the outputs that are right for what it means.
pub record Tool : Type 1 where
  pub Request : Type 0
  pub request_of : List (List ℕ) → Option Request
  pub meaning : Request → List ℕ → Option Bytes
  pub IsLine : Request → Bytes → Line → Type 0

-- The output of an answer does not begin with a w, as the lines do that say that words or input are
-- wrong, and its status is 0 or 1.
pub record IsNoWrongLine (printed : Line) : Type 0 where
  pub beginning : (get_or printed.text 0 0 == 119) ≡ false
  pub low : printed.status ≤ 1

-- ---- the output

abbrev pub LineOfInput : (tool : Tool) → tool.Request → Option Bytes → Line → Type 0
LineOfInput tool request None printed = printed ≡ wrong_hexadecimal
LineOfInput tool request (Some bytes) printed = tool.IsLine request bytes printed

abbrev pub LineOfRequest : (tool : Tool) → Option tool.Request → List ℕ → Line → Type 0
LineOfRequest tool None input printed = printed ≡ wrong_words
LineOfRequest tool (Some request) input printed =
    LineOfInput tool request (tool.meaning request input) printed

-- what is asked for by the words after the program's name, or none where they are wrong or can't be
-- had
abbrev pub requested : (tool : Tool) → Option (List (List ℕ)) → Option tool.Request
requested tool words = option_and_then tool.request_of words

-- for those words, and all bytes of the input
abbrev pub LineOfWords : Tool → Option (List (List ℕ)) → List ℕ → Line → Type 0
LineOfWords tool words input printed = LineOfRequest tool (requested tool words) input printed

-- ---- what a run prints

-- the output of an answer for the bytes of the input, or that memory was refused
abbrev pub IsLineFor : (tool : Tool) → tool.Request → Bytes → Line → Type 0
IsLineFor tool request bytes printed = tool.IsLine request bytes printed ⊎ (printed ≡ out_of_memory)

-- the writer was given the output of a request, all of it or a beginning
abbrev pub PrintsAnswer :
    {E : Type 0} → (tool : Tool) → tool.Request → Bytes → Option (List ℕ) → Option (List ℕ) →
    Result ℕ E → Type 0
PrintsAnswer tool request bytes old new result =
    (printed : Line) × Prints printed old new result × IsLineFor tool request bytes printed

-- the line is put, and its status answered
abbrev pub PutsLine : Line → Text → Text → ℕ → Type 0
PutsLine printed old new status = Puts printed.text old new × (status ≡ printed.status)

-- the text was given the output of a request
abbrev pub PutsAnswer : (tool : Tool) → tool.Request → Bytes → Text → Text → ℕ → Type 0
PutsAnswer tool request bytes old new status =
    (printed : Line) × PutsLine printed old new status × IsLineFor tool request bytes printed

-- the line is the text with the status, or that memory was refused
abbrev pub IsPut : Text → ℕ → Line → Type 0
IsPut text status printed =
    (IsWhole text × (printed ≡ record { text = contents text; status = status }))
    ⊎ (printed ≡ out_of_memory)

-- an output that is right, or that there was no memory or no input
abbrev pub IsOwedBy : (tool : Tool) → Option tool.Request → List ℕ → Line → Type 0
IsOwedBy tool request input printed =
    LineOfRequest tool request input printed
    ⊎ (IsSome request × ((printed ≡ out_of_memory) ⊎ (printed ≡ wrong_input)))

-- where the bytes of the input are known, the writer was given what is owed for them, all of it or
-- a beginning
abbrev pub PrintsOwedBy :
    {E : Type 0} → (tool : Tool) → Option tool.Request → Option (List ℕ) → Option (List ℕ) →
    Option (List ℕ) → Result ℕ E → Type 0
PrintsOwedBy tool request input old new result =
    IfSome input
    (λ bytes.
    (printed : Line) × Prints printed old new result × IsOwedBy tool request bytes printed)

-- What was written by a run that ends with the status, for the words and all bytes of the input.
pub record IsRun (tool : Tool) (words : Option (List (List ℕ))) (input written : List ℕ)
    (status : ℕ) : Type 0 where
  pub printed : Line
  pub owed : IsOwedBy tool (requested tool words) input printed
  -- all of it, with its status; or, where the output failed, a beginning of it
  pub ends :
      ((written ≡ printed.text) × (status ≡ printed.status))
      ⊎ (IsBeginning written printed.text × (status ≡ 2))
  -- Where there is an answer, the words are right, and it is all that is written. Memory may have
  -- been refused.
  pub answered :
      status ≤ 1 →
      IsSome (requested tool words)
      × (LineOfWords tool words input (record { text = written; status = status })
      ⊎ (record { text = written; status = status } ≡ out_of_memory))
  pub otherwise : 1 < status → status ≡ 2
  -- where the words or the input are said to be wrong, they are
  pub words_wrong :
      status ≡ 2 → written ≡ wrong_words.text → LineOfWords tool words input wrong_words
  pub hexadecimal_wrong :
      status ≡ 2 → written ≡ wrong_hexadecimal.text → LineOfWords tool words input wrong_hexadecimal

-- where the bytes of the input are known, what the writer was given and the status are those of a
-- run
abbrev pub PrintsRunOf :
    Tool → Option (List (List ℕ)) → Option (List ℕ) → Option (List ℕ) → Option (List ℕ) → ℕ → Type 0
PrintsRunOf tool words input old new status =
    IfSome input
    (λ bytes.
    (written : List ℕ) × Appends old new written × IsRun tool words bytes written status)
