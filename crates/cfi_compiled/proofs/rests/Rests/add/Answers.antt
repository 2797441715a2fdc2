use Rattle.std.proofs.Common.{◌≡◌, ◌++◌, length, ap, ◌∙◌, arith}
use Rattle.cfi_compiled.specs.declared.rests.KeptRest.{KeptRest}
use Rattle.cfi_compiled.proofs.RestLists.{kept_pushed}
use Rattle.cfi_compiled.proofs.rests.Rests.add.Goals as goal

pub invariant_of-self-2 : goal.invariant_of-self-2
invariant_of-self-2 g c =
    let rules = c.self.inside.rules.items in
    let more = c.in_ok-own.own.items in
    let grown : c.extend_from_slice.new.self.items ≡ rules ++ more = c.in_ok-extend_from_slice.ensures.items ∙ ap (λ l. rules ++ l) c.as_slice.ensures.value in
    let rest : KeptRest = record { saved_args_size = c.saved_args_size.result; facts = c.args.facts; begin = c.len-begin.result; end = c.len.result } in
    let long = ap (λ l. length l) grown in
    rw (c.in_ok-push.ensures.items, grown)
    (kept_pushed c.self.inside.rests.items rules more c.self.invariant rest
    (omega (arith, c.len-begin.ensures, c.self.inside.rules.ok.0))
    (omega (arith, c.len.ensures, c.in_ok-extend_from_slice.ensures.len, c.as_slice.ensures.len, c.self.inside.rules.ok.0, c.in_ok-own.own.ok.0))
    c.in_ok-own.ensures.distinct)
