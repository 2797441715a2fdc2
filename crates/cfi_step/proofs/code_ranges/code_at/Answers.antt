use Rattle.std.proofs.Common.{◌∙◌, ◌<◌, Some, ap, length, arith, rules}
use Rattle.cfi_step.proofs.SortedCode.{all_ended, begins_later, has_begun, in_one_at_most}
use Rattle.cfi_step.proofs.code_ranges.code_at.Goals as goal

pub returns-then-index-list-clause-item : goal.returns-then-index-list-clause-item
returns-then-index-list-clause-item g c =
    all_ended g.A.HasCode.start g.A.HasCode.end c.args.list.now c.args.address c.ended_by-index.result c.ended_by-index.ensures c.if-index-list.true

pub returns-then-index-list-clause-only : goal.returns-then-index-list-clause-only
returns-then-index-list-clause-only g c = in_one_at_most g.A.HasCode.start g.A.HasCode.end c.args.list.now c.args.address c.requires

pub returns-then-start-address-clause-only : goal.returns-then-start-address-clause-only
returns-then-start-address-clause-only g c = in_one_at_most g.A.HasCode.start g.A.HasCode.end c.args.list.now c.args.address c.requires

pub returns-else-start-address-clause-only : goal.returns-else-start-address-clause-only
returns-else-start-address-clause-only g c = in_one_at_most g.A.HasCode.start g.A.HasCode.end c.args.list.now c.args.address c.requires

pub returns-then-start-address-clause-item : goal.returns-then-start-address-clause-item
returns-then-start-address-clause-item g c =
    let inside : c.ended_by-index.result < length c.args.list.now = omega (arith, c.ended_by-index.ensures.inside, c.if-index-list.false) in
    ap Some c.index-list-index.is
    ∙ has_begun g.A.HasCode.start g.A.HasCode.end c.args.list.now c.args.address c.ended_by-index.result c.ended_by-index.ensures c.requires
    c.index-list-index.result inside (search rules)

pub returns-else-start-address-clause-item : goal.returns-else-start-address-clause-item
returns-else-start-address-clause-item g c =
    let inside : c.ended_by-index.result < length c.args.list.now = omega (arith, c.ended_by-index.ensures.inside, c.if-index-list.false) in
    begins_later g.A.HasCode.start g.A.HasCode.end c.args.list.now c.args.address c.ended_by-index.result c.ended_by-index.ensures c.requires
    c.index-list-index.result inside (search rules)
