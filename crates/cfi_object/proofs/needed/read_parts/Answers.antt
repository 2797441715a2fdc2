use Rattle.std.proofs.Common.{arith}
use Rattle.cfi_object.specs.FileParts.{image_of}
use Rattle.cfi_object.proofs.Lacking.{all_asked}
use Rattle.cfi_object.proofs.WholeParts.{enough_result}
use Rattle.cfi_object.proofs.needed.read_parts.Goals as goal

pub returns-clause-read : goal.returns-clause-read
returns-clause-read g c = enough_result (g.I.FileInput.bytes c.args.input.now) c.args.needed c.read_whole.result (rw (c.loop.invariant.1) at c.read_whole.ensures.read)

pub returns-clause-asked : goal.returns-clause-asked
returns-clause-asked g c =
    all_asked (g.I.FileInput.bytes c.args.input.now) c.args.needed c.loop.counter (image_of c.loop.parts) c.read_whole.result (omega (arith, c.loop-test.false)) c.loop.invariant.2
    (rw (c.loop.invariant.1) at c.read_whole.ensures.read)
