use Rattle.std.proofs.Common.{ap}
use Rattle.cfi_c.specs.PassedSections.{lent}
use Rattle.cfi_c.proofs.TableAnswers.{by_row}
use Rattle.cfi_c.proofs.compiled.answer.Goals as goal

pub returns-in-Some : goal.returns-in-Some
returns-in-Some c = by_row (lent c.args.table) c.in-Some.table.now c.args.address _ _ _ (ap lent c.in-Some.is) c.row.ensures.row c.write_row.ensures
