use Rattle.std.proofs.Common.{Some, sym, ap, ◌∙◌}
use Rattle.std.proofs.lemmas.Option.{get_or_from_slice_get}
use Rattle.cfi_state.proofs.Registers.{pair_at, get-found, get-absent, absent-elsewhere}
use Rattle.cfi_state.proofs.Rising.{distinct-from_rising}
use Rattle.cfi_state.proofs.table.rules.rule_of.Goals as goal

pub returns-in-Ok : goal.returns-in-Ok
returns-in-Ok g c =
    let pairs = c.args.pairs.now in
    let register = c.args.register in
    let at = pair_at pairs c.in-Ok.index register c.in-Ok.ensures.found in
    ap (λ pair. Some pair.1) (get_or_from_slice_get pairs _ _ _ at.1)
    ∙ sym (get-found pairs c.in-Ok.index register at.0 (distinct-from_rising pairs c.requires) at.1)

pub returns-in-Err : goal.returns-in-Err
returns-in-Err g c = sym (get-absent c.args.pairs.now c.args.register (absent-elsewhere c.args.pairs.now c.in-Err.field-0 c.args.register c.in-Err.ensures.absent))
