use Rattle.std.proofs.Common.{◌≡◌, ◌+◌, arith, subst}
use Rattle.cfi_row_text.proofs.RowLineLemmas.{StartsFrom, rising_more, rising_none}
use Rattle.cfi_row_text.proofs.register_rules.is_rising.Goals as goal

pub loop-register-preserved : goal.loop-register-preserved
loop-register-preserved c =
    let left = c.next.new.self.rules.now in
    let behind : c.number_after-from.result ≡ c.in-Some.field-0.now.0.0 + 1 = omega (arith, c.number_after-from.ensures.number) in (
      tt,
      tt,
      λ rising from.
          c.loop-register.invariant.2
          (rw (c.in-Some.ensures.steps) (rising_more c.in-Some.field-0.now left (subst (λ n. StartsFrom n left) behind from) rising))
          (rw (c.in-Some.ensures.steps) (omega (arith, c.if-from.false, c.from.ensures))),
    )

pub returns : goal.returns
returns c = λ h. c.loop-register.invariant.2 (rw (c.in-None.ensures.steps.0) rising_none) (rw (c.in-None.ensures.steps.0) tt)
