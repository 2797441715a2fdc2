use Rattle.cfi_programs.specs.Input.{bytes_of_sections}
use Rattle.cfi_programs.specs.Runs.{PutsLine}
use Rattle.cfi_programs.proofs.RowsAnswerLemmas.{in_storage}
use Rattle.cfi_programs.proofs.rows.row_lookup.put_answer.Goals as goal

pub returns-in-OnHeap : goal.returns-in-OnHeap
returns-in-OnHeap c =
    in_storage (λ printed. PutsLine printed c.args.text.now c.put_row.new.text c.put_row.result)
    c.args.request.now _ (bytes_of_sections c.args.sections.now) c.in-OnHeap.is c.put_row.ensures

pub returns-in-Growing : goal.returns-in-Growing
returns-in-Growing c =
    in_storage (λ printed. PutsLine printed c.args.text.now c.put_row-in-Growing.new.text c.put_row-in-Growing.result)
    c.args.request.now _ (bytes_of_sections c.args.sections.now) c.in-Growing.is c.put_row-in-Growing.ensures
