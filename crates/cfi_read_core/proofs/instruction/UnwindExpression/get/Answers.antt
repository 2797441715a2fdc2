use Rattle.std.proofs.Common.{◌∙◌, ap, sym}
use Rattle.cfi_read_core.specs.ReadFunctions.{Extent, Outcome}
use Rattle.cfi_read_core.specs.MappedInstructions.{map_expression}
use Rattle.std.proofs.lemmas.Result.{err_from_is_err_and}
use Rattle.cfi_read_core.proofs.ExpressionBytes.{bytes_are_there, bytes_lie_in, bytes_read}
use Rattle.cfi_read_core.proofs.instruction.UnwindExpression.get.Goals as goal

pub returns-in_err-split_expression-clause-there :
    goal.returns-in_err-split_expression-clause-there
returns-in_err-split_expression-clause-there g c lies =
    let there = bytes_are_there (map_expression g.T.ReaderOffset.number c.args.self.now) c.section.ensures lies in
    let read = ap (λ (o : Outcome Extent). o.value) c.in_err-split_expression.ensures.read.0 in
    absurd (cc (read, there))

pub returns-clause-there : goal.returns-clause-there
returns-clause-there g c lies =
    let there = bytes_are_there (map_expression g.T.ReaderOffset.number c.args.self.now) c.section.ensures lies in
    sym (ap (λ (o : Outcome Extent). o.value) c.in_ok-split_expression.ensures.read.0) ∙ there

pub returns-clause-part : goal.returns-clause-part
returns-clause-part g c =
    let sound = g.met.R.Reader.sound c.section.result.now in
    bytes_lie_in (map_expression g.T.ReaderOffset.number c.args.self.now) c.section.ensures sound.ordered c.in_ok-split_expression.ensures.read.0 c.in_ok-split_expression.ensures.part

pub returns-in_err-split_expression-clause-bytes :
    goal.returns-in_err-split_expression-clause-bytes
returns-in_err-split_expression-clause-bytes g c =
    let p = err_from_is_err_and c.from_residual.result c.from_residual.ensures.1 in
    rw (p.1, p.2) (bytes_read (map_expression g.T.ReaderOffset.number c.args.self.now) c.section.ensures c.in_err-split_expression.ensures.read.0)

pub returns-clause-bytes : goal.returns-clause-bytes
returns-clause-bytes g c =
    bytes_read (map_expression g.T.ReaderOffset.number c.args.self.now) c.section.ensures c.in_ok-split_expression.ensures.read.0
