-- Which line of `cfi_rows` is right for words and input.
use Rattle.std.specs.Prelude.{◌≡◌, ℕ, Bool, true, false, Option, Some, None, Result}
use Rattle.cfi_read_core.specs.declared.error.Error.{Error}
use Rattle.cfi_state.specs.Row.{Row}
use Rattle.gimli_cfi.specs.SectionSources.{IsGivenRow}
use Rattle.cfi_text.specs.declared.register_names.RegisterNames.TheVariants.{Numbers}
use Rattle.cfi_programs.specs.declared.rows.command_line.Storage.{Storage}
use Rattle.cfi_programs.specs.declared.rows.command_line.Storage.TheVariants.{OnHeap, Growing}
use Rattle.cfi_programs.specs.declared.rows.command_line.Request.{Request}
use Rattle.cfi_programs.specs.RowsCommandLine.{request_of}
use Rattle.cfi_programs.specs.Input.{Bytes, bytes_by}
use Rattle.cfi_programs.specs.Runs.{Tool}
use Rattle.cfi_programs.specs.SectionOfWords.{given_by}
use Rattle.cfi_row_text.specs.AnswerLines.{plain_line}

-- ---- the limits of the storage of an unwind

pub record StorageLimits : Type 0 where
  pub rules : Option ℕ  -- the most rules of a row; none where only memory bounds them
  pub rows : Option ℕ  -- the most rows at once, likewise
  pub copies_free : Bool  -- a row's rules are copied without taking memory

abbrev pub limits : Option ℕ → Option ℕ → Bool → StorageLimits
limits rules rows copies_free = record { rules = rules; rows = rows; copies_free = copies_free }

abbrev pub limits_of : Storage → StorageLimits
limits_of OnHeap = limits (Some 192) (Some 4) true
limits_of Growing = limits None None false

-- ---- the answer

-- What may be answered to a request: the row for the address in the section, by the table of the
-- header where there is one, or the first refusal on the way. Only an instruction that may allocate
-- may be refused for lack of it; where the storage is fixed none is.
abbrev pub IsRequestedRow : StorageLimits → Request → Bytes → Result (Row ℕ) Error → Type 0
IsRequestedRow limits request bytes answer =
    IsGivenRow limits.rules limits.rows limits.copies_free
    (given_by request.words bytes.section bytes.header) request.address answer

-- ---- the line

-- the rows of sections, where the storage for a request has these limits
abbrev pub rows_tool_with : (Request → StorageLimits) → Tool
rows_tool_with limits_for = record {
  Request = Request;
  request_of = request_of;
  meaning = λ request input. bytes_by request.words.header input;
  IsLine =
      λ request bytes printed.
      (answer : Result (Row ℕ) Error) × IsRequestedRow (limits_for request) request bytes answer
      × (printed ≡ plain_line Numbers answer);
}

-- the program
abbrev pub rows_tool : Tool
rows_tool = rows_tool_with (λ request. limits_of request.storage)
