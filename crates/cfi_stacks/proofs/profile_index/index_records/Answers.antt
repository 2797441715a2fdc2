use Rattle.cfi_stacks.proofs.SortedPieces.{index_sorted, told_of}
use Rattle.cfi_stacks.proofs.profile_index.index_records.Goals as goal

pub returns-in-Ok-clause-indexed : goal.returns-in-Ok-clause-indexed
returns-in-Ok-clause-indexed g c =
    let (pieces, rest, is) = c.in_ok-index.ensures.found in
    index_sorted c.in_ok-index.index c.sort_by_time.new.self pieces rest c.sort_by_time.ensures.moved c.in-Ok.ensures.by_time c.sort_by_time.ensures.kept c.in-Ok.ensures.indexed (g.I.FileInput.bytes c.args.input.now) is

pub returns-in-Ok-clause-told : goal.returns-in-Ok-clause-told
returns-in-Ok-clause-told g c = let (pieces, rest, is) = c.in_ok-index.ensures.found in told_of c.in_ok-index.index pieces rest (g.I.FileInput.bytes c.args.input.now) is
