use Rattle.std.proofs.lemmas.Result.{err_from_is_err_and}
use Rattle.cfi_read_core.specs.MappedInstructions.{map_expression}
use Rattle.cfi_read_core.specs.ReaderCalls.{extent_of, map_ok}
use Rattle.cfi_read_core.proofs.ExpressionBytes.{skip_passed, skip_refused}
use Rattle.cfi_read_core.proofs.instruction.split_expression.Goals as goal

pub returns-in_err-skip-clause-read : goal.returns-in_err-skip-clause-read
returns-in_err-skip-clause-read g c =
    let p = err_from_is_err_and c.from_residual.result c.from_residual.ensures.1 in
    rw (p.1, p.2) (skip_refused (map_expression g.R.Offset.ReaderOffset.number c.args.expression.now) (g.R.Reader.position c.args.input.now) (g.R.Reader.position c.skip.new.self) _ c.in_err-skip.ensures)

pub returns-clause-read : goal.returns-clause-read
returns-clause-read g c =
    skip_passed (map_expression g.R.Offset.ReaderOffset.number c.args.expression.now) (g.R.Reader.position c.args.input.now) (g.R.Reader.position c.skip.new.self) (g.R.Reader.position c.split.new.self) (map_ok (λ r. extent_of (g.R.Reader.position r)) c.split.result) c.in_ok-skip.ensures c.split.ensures.read
