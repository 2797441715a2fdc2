-- The line of an answer, by its wording.
use Rattle.std.specs.Prelude.{ℕ, List, Result, Ok, Err}
use Rattle.cfi_read_core.specs.declared.error.Error.{Error}
use Rattle.cfi_state.specs.Row.{Row}
use Rattle.cfi_text.specs.declared.register_names.RegisterNames.{RegisterNames}
use Rattle.cfi_text.specs.Lines.{Line, line}
use Rattle.cfi_text.specs.Refusals.{refusal_end, refusal_line, refusal_told}
use Rattle.cfi_row_text.specs.JsonRows.{json_members, json_row}
use Rattle.cfi_row_text.specs.RowLines.{row_saying, row_text}
use Rattle.cfi_row_text.specs.Wordings.{Wording}
use Rattle.cfi_text.specs.declared.style.Format.{Format}
use Rattle.cfi_text.specs.declared.style.Format.TheVariants.{Text, Json}

-- in text, where an expression is said by its place
abbrev pub plain_line : RegisterNames → Result (Row ℕ) Error → Line
plain_line names (Ok row) = line (row_text names row) 0
plain_line names (Err e) = refusal_line e

abbrev pub row_by_format : Format → Wording → Row ℕ → List ℕ
row_by_format Text wording row = row_saying wording.words wording.names row
row_by_format Json wording row = json_row wording row

abbrev pub answer_line : Wording → Result (Row ℕ) Error → Line
answer_line wording (Ok row) = line (row_by_format wording.format wording row) 0
answer_line wording (Err e) = refusal_told wording.format e

-- ---- after what was asked for, with which an object of JSON has begun

abbrev pub row_end : Format → Wording → Row ℕ → List ℕ
row_end Text wording row = row_saying wording.words wording.names row
row_end Json wording row = json_members wording row

abbrev pub answer_end : Wording → Result (Row ℕ) Error → Line
answer_end wording (Ok row) = line (row_end wording.format wording row) 0
answer_end wording (Err e) = refusal_end wording.format e
