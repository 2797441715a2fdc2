use Rattle.cfi_programs.specs.Input.{bytes_of_sections}
use Rattle.cfi_programs.specs.RowsProgramOutput.{rows_tool}
use Rattle.cfi_text.specs.WriterOutput.{Prints}
use Rattle.cfi_programs.proofs.RunLemmas.{answer_shown}
use Rattle.cfi_programs.proofs.run.print_answer.Goals as goal

pub returns : goal.returns
returns g c =
    answer_shown (λ printed. Prints printed (g.W.Write.contents c.args.output.now) (g.W.Write.contents c.print_text.new.output) c.print_text.result)
    rows_tool c.args.request.now (bytes_of_sections c.args.sections.now) _ _ _ c.new-line.ensures.empty c.put_answer-status.ensures c.print_text.ensures
