use Rattle.std.proofs.Common.{refl}
use Rattle.std.proofs.lemmas.Option.{IfSome_then}
use Rattle.cfi_text.specs.Refusals.{out_of_memory}
use Rattle.cfi_programs.specs.RowsProgramOutput.{rows_tool}
use Rattle.cfi_programs.proofs.RunLemmas.{owes_memory}
use Rattle.cfi_programs.proofs.run.print_line.Goals as goal

pub returns-in_default-clause-unread : goal.returns-in_default-clause-unread
returns-in_default-clause-unread g c = λ none. refl

pub returns-in-Err-OutOfMemory-clause-printed : goal.returns-in-Err-OutOfMemory-clause-printed
returns-in-Err-OutOfMemory-clause-printed g c = IfSome_then (g.R.Read.remaining c.args.input.now) c.read_sections.ensures (λ bytes is.
    (out_of_memory, c.write_refusal.ensures, owes_memory rows_tool _ _ bytes c.in-Some.is))
