use Rattle.std.proofs.Common.{◌∙◌, option_map, sym, ap}
use Rattle.cfi_programs.specs.Numbers.{number_after}
use Rattle.cfi_programs.proofs.numbers.number_in.Goals as goal

pub returns-in-Some : goal.returns-in-Some
returns-in-Some c = c.hexadecimal.ensures ∙ ap (number_after c.args.word.now) (ap (option_map (λ rest. rest.now)) (sym c.in-Some.is) ∙ c.after_prefix.ensures)

pub returns-in-None : goal.returns-in-None
returns-in-None c = c.decimal.ensures ∙ ap (number_after c.args.word.now) (ap (option_map (λ rest. rest.now)) (sym c.in-None.is) ∙ c.after_prefix.ensures)
