use Rattle.std.proofs.Common.{◌≡◌, Err, refl, rules, sym}
use Rattle.gimli_cfi.specs.HeaderViews.{walk_view}
use Rattle.gimli_cfi.proofs.PassingRows.{past_unsearchable, past_all, past_refused, past_given, meets_by, none_read, not_refused}
use Rattle.gimli_cfi.proofs.hdr.iter.EhHdrTableIter.nth.Goals as goal

pub returns-in_err-size-clause-met : goal.returns-in_err-size-clause-met
returns-in_err-size-clause-met g c =
    let gives : c.from_residual.result ≡ Err c.in_err-size.field-0.0 = search rules in
    meets_by _ _ _ _ _ (past_unsearchable (walk_view g.R.Reader.position c.args.self.now) c.args.n _ _ refl (sym c.in_err-size.ensures)) (gives, refl)

pub returns-then-self-rows-clause-met : goal.returns-then-self-rows-clause-met
returns-then-self-rows-clause-met g c =
    meets_by _ _ _ _ _ (past_all (walk_view g.R.Reader.position c.args.self.now) c.args.n _ _ (sym c.in_ok-size.ensures) c.if-self-rows.true)
    ((none_read _ _ _ refl, refl), refl)

pub returns-then-self-rows-clause-unchanged : goal.returns-then-self-rows-clause-unchanged
returns-then-self-rows-clause-unchanged g c = λ e refused.
    not_refused _ _ e (past_all (walk_view g.R.Reader.position c.args.self.now) c.args.n _ _ (sym c.in_ok-size.ensures) c.if-self-rows.true) refused

pub returns-in_err-pass_rows-clause-met : goal.returns-in_err-pass_rows-clause-met
returns-in_err-pass_rows-clause-met g c =
    let gives : c.from_residual-in_err-pass_rows.result ≡ Err c.in_err-pass_rows.field-0.0 = search rules in
    meets_by _ _ _ _ _ (past_refused (walk_view g.R.Reader.position c.args.self.now) c.args.n _ _ (sym c.in_ok-size.ensures) _ _ c.if-self-rows.false c.in_err-pass_rows.ensures.0) (gives, refl)

pub returns-clause-met : goal.returns-clause-met
returns-clause-met g c =
    let passed = c.in_ok-pass_rows.ensures in
    meets_by _ _ _ _ _
    (past_given (walk_view g.R.Reader.position c.args.self.now) c.args.n _ _ (sym c.in_ok-size.ensures) _ (g.R.Reader.position c.pass_rows.new.input) c.if-self-rows.false passed.0 passed.1)
    (c.next.ensures.read, c.next.ensures.after)

pub returns-clause-unchanged : goal.returns-clause-unchanged
returns-clause-unchanged g c = λ e refused.
    let passed = c.in_ok-pass_rows.ensures in
    not_refused _ _ e
    (past_given (walk_view g.R.Reader.position c.args.self.now) c.args.n _ _ (sym c.in_ok-size.ensures) _ (g.R.Reader.position c.pass_rows.new.input) c.if-self-rows.false passed.0 passed.1)
    refused

pub returns-in_err-pass_rows-clause-unchanged : goal.returns-in_err-pass_rows-clause-unchanged
returns-in_err-pass_rows-clause-unchanged g c = λ e refused. refl
