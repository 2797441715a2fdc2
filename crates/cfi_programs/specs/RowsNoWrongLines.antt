-- No line of an answer begins as those that say that words or input are wrong.
use Rattle.std.specs.Prelude.{ℕ, Ok, Err, Result, refl}
use Rattle.std.proofs.Common.{lit≤, subst, sym}
use Rattle.cfi_read_core.specs.declared.error.Error.{Error}
use Rattle.cfi_state.specs.Row.{Row}
use Rattle.cfi_text.specs.declared.register_names.RegisterNames.TheVariants.{Numbers}
use Rattle.cfi_programs.specs.Input.{Bytes}
use Rattle.cfi_text.specs.Lines.{Line}
use Rattle.cfi_row_text.specs.AnswerLines.{plain_line}
use Rattle.cfi_programs.specs.Runs.{IsNoWrongLine}
use Rattle.cfi_programs.specs.declared.rows.command_line.Request.{Request}
use Rattle.cfi_programs.specs.RowsProgramOutput.{rows_tool}

no_wrong_answer : (answer : Result (Row ℕ) Error) → IsNoWrongLine (plain_line Numbers answer)
no_wrong_answer (Ok row) = record { beginning = refl; low = lit≤ tt }
no_wrong_answer (Err e) = record { beginning = refl; low = lit≤ tt }

pub no_wrong_line :
    (request : Request) (bytes : Bytes) (printed : Line) → rows_tool.IsLine request bytes printed →
    IsNoWrongLine printed
no_wrong_line request bytes printed (answer, is, e) =
    subst (λ line. IsNoWrongLine line) (sym e) (no_wrong_answer answer)
