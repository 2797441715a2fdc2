use Rattle.std.proofs.Common.{◌∙◌, option_map, sym, ap}
use Rattle.cfi_object.specs.Numbers.{number_after, without_prefix}
use Rattle.cfi_object.proofs.numbers.number_in.Goals as goal

pub returns-in-Some : goal.returns-in-Some
returns-in-Some c = c.hexadecimal.ensures ∙ ap (number_after c.args.word.now) (ap (option_map (λ rest. rest.now)) (sym c.in-Some.is) ∙ c.after_0x.ensures)

pub returns-in-None : goal.returns-in-None
returns-in-None c = c.without_prefix.ensures ∙ ap (without_prefix c.args.word.now) c.after_prefix.ensures ∙ ap (number_after c.args.word.now) (ap (option_map (λ rest. rest.now)) (sym c.in-None.is) ∙ c.after_0x.ensures)
