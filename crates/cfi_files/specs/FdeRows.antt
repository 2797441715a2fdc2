-- The rows of an FDE.
--     fde_rows section fde      the rows of an FDE, and the refusals among them, in order
--     answer_lines wording answers      a line for each
use Rattle.std.specs.Prelude.{ℕ, Some, List, [], ◌∷◌, ◌++◌, Result, Err}
use Rattle.cfi_read_core.specs.declared.error.Error.{Error}
use Rattle.cfi_state.specs.MachineSettings.{Setting}
use Rattle.cfi_state.specs.Program.{in_fde}
use Rattle.cfi_state.specs.Row.{Row}
use Rattle.cfi_state.specs.FdeAnswers.{answers, cie_refusal}
use Rattle.cfi_state.specs.Cases.{on_option}
use Rattle.cfi_unwind.specs.AddressRow.{setting}
use Rattle.cfi_entry.specs.EntryInstructions.{cie_instructions, fde_instructions}
use Rattle.cfi_entry.specs.Fdes.{Fde}
use Rattle.cfi_entry.specs.Sections.{Section}
use Rattle.cfi_row_text.specs.AnswerLines.{answer_line}
use Rattle.cfi_row_text.specs.Wordings.{Wording}

-- in a storage of 192 rules and 4 rows
abbrev pub setting_of_fde : Fde → Setting
setting_of_fde fde = setting (Some 192) (Some 4) fde

-- the error of the CIE's initial instructions; else the rows and errors of the FDE's
abbrev pub fde_rows : Section → Fde → List (Result (Row ℕ) Error)
fde_rows section fde =
    on_option
    (answers (setting_of_fde fde) (in_fde (cie_instructions section fde.cie).values [])
    (fde_instructions section fde))
    (λ error. Err error ∷ [])
    (cie_refusal (setting_of_fde fde) (cie_instructions section fde.cie))

abbrev pub answer_lines : Wording → List (Result (Row ℕ) Error) → List ℕ
answer_lines wording [] = []
answer_lines wording (answer ∷ answers) =
    (answer_line wording answer).text ++ answer_lines wording answers
