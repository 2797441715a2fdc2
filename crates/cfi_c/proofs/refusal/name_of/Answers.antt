use Rattle.std.proofs.Common.{rules, ◌≡◌, ◌∙◌, pos, sym, ap}
use Rattle.cfi_c.specs.Refusals.{status_name}
use Rattle.cfi_c.proofs.Names.{named, unused}
use Rattle.cfi_c.proofs.refusal.name_of.Goals as goal

pub returns-then-number-gt63 : goal.returns-then-number-gt63
returns-then-number-gt63 c =
    let is : c.args.status ≡ pos c.in-Ok.number = search rules in
    c.own_name.ensures ∙ ap status_name (sym is)

pub returns-then-number-gt31 : goal.returns-then-number-gt31
returns-then-number-gt31 c =
    let is : c.args.status ≡ pos c.in-Ok.number = search rules in
    unused _ c.if-number-gt63.false c.if-number-gt31.true ∙ ap status_name (sym is)

pub returns : goal.returns
returns c =
    let is : c.args.status ≡ pos c.in-Ok.number = search rules in
    c.as_bytes.ensures.value ∙ c.name.ensures ∙ named _ c.in-Ok.number c.if-number-eq0.false c.if-number-gt63.false c.if-number-gt31.false ∙ ap status_name (sym is)
