use Rattle.std.proofs.lemmas.Option.{IfSome_then}
use Rattle.cfi_programs.specs.RowsNoWrongLines.{no_wrong_line}
use Rattle.cfi_programs.specs.RowsProgramOutput.{rows_tool}
use Rattle.cfi_programs.proofs.RunLemmas.{run_ends, run_fails}
use Rattle.cfi_programs.proofs.run.run.Goals as goal

pub returns-in-Ok-Ok-clause-printed : goal.returns-in-Ok-Ok-clause-printed
returns-in-Ok-Ok-clause-printed g c = IfSome_then (g.R.Read.remaining c.args.input.now) c.print_line-printed.ensures.printed (λ bytes prints.
    run_ends rows_tool no_wrong_line _ bytes _ _ _ _ c.in-Ok-Ok.status c.in-Ok-Ok.is-0 c.flush-flushed.ensures.bytes (rw c.requested.ensures at prints))

pub returns-in_default-clause-printed : goal.returns-in_default-clause-printed
returns-in_default-clause-printed g c = IfSome_then (g.R.Read.remaining c.args.input.now) c.print_line-printed.ensures.printed (λ bytes prints.
    run_fails rows_tool no_wrong_line _ bytes _ _ _ _ c.flush-flushed.ensures.bytes (rw c.requested.ensures at prints))

pub returns-in_default-2-clause-printed : goal.returns-in_default-2-clause-printed
returns-in_default-2-clause-printed g c = IfSome_then (g.R.Read.remaining c.args.input.now) c.print_line-printed.ensures.printed (λ bytes prints.
    run_fails rows_tool no_wrong_line _ bytes _ _ _ _ c.flush-flushed.ensures.bytes (rw c.requested.ensures at prints))
