use Rattle.std.proofs.Common.{◌≤◌, length, rules}
use Rattle.cfi_c.proofs.Faithful.{scanned}
use Rattle.cfi_c.proofs.rows.cfi_row_by_table.Goals as goal

pub returns-clause-faithful : goal.returns-clause-faithful
returns-clause-faithful c = λ faithful sized live.
    let fits : length c.args.section.now ≤ 0xffffffffffffffff = search rules in
    scanned c.args.context.now.live c.args.bases.now c.args.section.now c.args.header.now c.args.address c.answer_one.new.row c.answer_one.new.rules 0 (length c.answer_one.new.rules) fits live sized faithful
    c.answer_one.ensures.answered
