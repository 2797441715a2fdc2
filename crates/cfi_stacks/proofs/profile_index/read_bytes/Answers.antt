use Rattle.std.proofs.Common.{◌∙◌, ◌+◌, ℕ, ap}
use Rattle.cfi_object.specs.FileInputs.{IsPartRead}
use Rattle.cfi_stacks.specs.ProfileIndexes.{IsRecordsPart}
use Rattle.cfi_stacks.proofs.FoundLemmas.{if_ok, part_of}
use Rattle.cfi_stacks.proofs.profile_index.read_bytes.Goals as goal

pub returns-in-Some-clause-read : goal.returns-in-Some-clause-read
returns-in-Some-clause-read g c =
    let known = g.I.FileInput.bytes c.args.input.now in
    let at = c.in-Some.ensures.1 ∙ ap (λ (n : ℕ). n + c.args.offset) c.place.ensures in
    if_ok c.read_part.result (λ part. IsPartRead known c.in-Some.place c.args.size part.items) (λ part. IsRecordsPart known c.args.walk.now c.args.offset c.args.size part.items)
    (λ part read. part_of known c.args.walk.now c.args.offset c.args.size c.in-Some.place part.items at read) c.read_part.ensures.read
