use Rattle.std.proofs.Common.{refl, rules}
use Rattle.std.proofs.lemmas.Result.{err_from_is_err_and}
use Rattle.cfi_unwind.proofs.TableSteps.{table-ended, table-refuses, comes-due, keeps-expressions, keeps-on}
use Rattle.cfi_unwind.proofs.unwind_table.UnwindTable.advance.Goals as goal

pub returns-then-self-clause-next : goal.returns-then-self-clause-next
returns-then-self-clause-next g c = table-ended _ _ _ c.if-self.true

pub returns-in_err-moved-clause-next : goal.returns-in_err-moved-clause-next
returns-in_err-moved-clause-next g c =
    let p = err_from_is_err_and c.from_residual.result c.from_residual.ensures.1 in
    rw (p.1, p.2) (table-refuses _ _ _ _ c.args.self.now.context.now c.run_to_move.new.context _ _ _ c.run_to_move.result
    c.if-self.false c.run_to_move.ensures.next _ c.in_err-moved.was)

pub returns-clause-next : goal.returns-clause-next
returns-clause-next g c = search rules

pub returns-then-self-clause-kept : goal.returns-then-self-clause-kept
returns-then-self-clause-kept g c = keeps-on _ _ _ _ _ (returns-then-self-clause-next g c)

pub returns-in_err-moved-clause-kept : goal.returns-in_err-moved-clause-kept
returns-in_err-moved-clause-kept g c = keeps-on _ _ _ _ _ (returns-in_err-moved-clause-next g c)

pub returns-clause-kept : goal.returns-clause-kept
returns-clause-kept g c = keeps-on _ _ _ _ _ (returns-clause-next g c)

pub returns-then-self-clause-due : goal.returns-then-self-clause-due
returns-then-self-clause-due g c = comes-due _ _ _ _ _ (returns-then-self-clause-next g c)

pub returns-in_err-moved-clause-due : goal.returns-in_err-moved-clause-due
returns-in_err-moved-clause-due g c = comes-due _ _ _ _ _ (returns-in_err-moved-clause-next g c)

pub returns-clause-due : goal.returns-clause-due
returns-clause-due g c = comes-due _ _ _ _ _ (returns-clause-next g c)

pub returns-then-self-clause-expressions : goal.returns-then-self-clause-expressions
returns-then-self-clause-expressions g c = keeps-expressions _ _ _ _ _ (returns-then-self-clause-next g c)

pub returns-in_err-moved-clause-expressions : goal.returns-in_err-moved-clause-expressions
returns-in_err-moved-clause-expressions g c = keeps-expressions _ _ _ _ _ (returns-in_err-moved-clause-next g c)

pub returns-clause-expressions : goal.returns-clause-expressions
returns-clause-expressions g c = keeps-expressions _ _ _ _ _ (returns-clause-next g c)

pub returns-then-self-clause-holds_row : goal.returns-then-self-clause-holds_row
returns-then-self-clause-holds_row g c = refl

pub returns-in_err-moved-clause-holds_row : goal.returns-in_err-moved-clause-holds_row
returns-in_err-moved-clause-holds_row g c =
    let p = err_from_is_err_and c.from_residual.result c.from_residual.ensures.1 in
    rw p.1 refl
