use Rattle.std.proofs.Common.{length, sym, ap, subst, ◌∙◌}
use Rattle.cfi_c.specs.PassedSections.{lent}
use Rattle.cfi_c.specs.AddressRows.{IsAnswerForC, is_live}
use Rattle.cfi_c.proofs.rows.answer_one.Goals as goal

pub returns-clause-answered : goal.returns-clause-answered
returns-clause-answered c =
    let asked = c.args.asked.now in
    subst (λ live. IsAnswerForC live asked.bases.now asked.section.now (lent asked.header) c.args.address c.answer.new.row c.answer.new.rules 0 (length c.answer.new.rules))
    (c.into_box-held.ensures ∙ ap (λ context. context.live) c.replace.ensures.value)
    (subst (λ n. IsAnswerForC (is_live c.into_box-held.result) asked.bases.now asked.section.now (lent asked.header) c.args.address c.answer.new.row c.answer.new.rules 0 n) (sym c.answer.auto.rules) c.answer.ensures.answered)
