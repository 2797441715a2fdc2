use Rattle.cfi_object.proofs.ReadParts.{whole_result}
use Rattle.cfi_object.proofs.input.read_whole.Goals as goal

pub returns-clause-read : goal.returns-clause-read
returns-clause-read g c =
    whole_result (λ part. part.items) (g.I.FileInput.bytes c.args.input.now) c.in_ok-length.length c.read_part.result c.in_ok-length.ensures.length
    (rw c.length.ensures.same at c.read_part.ensures.read)
