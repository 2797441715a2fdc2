use Rattle.std.proofs.Common.{◌<◌, ◌≤◌, ◌∙◌, length, sym, arith}
use Rattle.std.proofs.lemmas.Option.{slice_get-get_or}
use Rattle.cfi_cores.proofs.RegisterPlaces.{by_number, past_the_end, places}
use Rattle.cfi_cores.proofs.registers.x86_64_place.Goals as goal

pub returns-then-register-lt17 : goal.returns-then-register-lt17
returns-then-register-lt17 c =
    let inside : c.args.register < length places = omega (arith, c.if-register-lt17.true) in
    sym (by_number c.args.register ∙ slice_get-get_or places c.args.register 0 inside)

pub returns-else-register-lt17 : goal.returns-else-register-lt17
returns-else-register-lt17 c =
    let outside : length places ≤ c.args.register = omega (arith, c.if-register-lt17.false) in
    sym (by_number c.args.register ∙ past_the_end places c.args.register outside)
