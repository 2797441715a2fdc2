-- The answer to a request is the row that the section gives.
use Rattle.std.proofs.Common.{◌≡◌, ◌∙◌, ℕ, List, Result, sym, subst}
use Rattle.cfi_read_core.specs.declared.error.Error.{Error}
use Rattle.cfi_state.specs.Row.{Row}
use Rattle.gimli_cfi.specs.SectionSources.{GivenSection, IsGivenRow}
use Rattle.cfi_text.specs.Lines.{Line}
use Rattle.cfi_programs.specs.Input.{Bytes}
use Rattle.cfi_programs.specs.Runs.{IsLineFor}
use Rattle.cfi_programs.specs.SectionOfWords.{given_by}
use Rattle.cfi_programs.specs.declared.rows.command_line.Request.{Request}
use Rattle.cfi_programs.specs.declared.rows.command_line.Storage.{Storage}
use Rattle.cfi_programs.specs.RowsProgramOutput.{IsRequestedRow, StorageLimits, limits_of, rows_tool, rows_tool_with}

-- the code's section is that of words and bytes
pub answered : (r : Request) (bytes : Bytes) (shown headed : List ℕ) (limits : StorageLimits) (given : GivenSection) (answer : Result (Row ℕ) Error) → given ≡ given_by r.words shown headed → shown ≡ bytes.section → headed ≡ bytes.header
    → IsGivenRow limits.rules limits.rows limits.copies_free given r.address answer → IsRequestedRow limits r bytes answer
answered r bytes shown headed limits given answer means whole all is =
    subst (λ given. IsGivenRow limits.rules limits.rows limits.copies_free given r.address answer) (means ∙ (λ i. given_by r.words (whole i) (all i))) is

-- the line of the storage that is asked for
pub in_storage : (Q : Line → Type 0) (r : Request) (s : Storage) (bytes : Bytes) → r.storage ≡ s
    → ((printed : Line) × Q printed × IsLineFor (rows_tool_with (λ _. limits_of s)) r bytes printed) → (printed : Line) × Q printed × IsLineFor rows_tool r bytes printed
in_storage Q r s bytes e h =
    subst (λ storage. (printed : Line) × Q printed × IsLineFor (rows_tool_with (λ _. limits_of storage)) r bytes printed) (sym e) h
