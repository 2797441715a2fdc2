use Rattle.std.proofs.Common.{◌≡◌, ◌<◌, ◌≤◌, true, length, ◌∙◌, arith}
use Rattle.std.proofs.lemmas.Grind.{common_steps}
use Rattle.std.specs.Char.{is_ascii_hexdigit}
use Rattle.std.specs.List.{list_all}
use Rattle.cfi_programs.proofs.NumberLemmas.{hexadecimal_is}
use Rattle.cfi_programs.proofs.numbers.hexadecimal.Goals as goal

pub returns : goal.returns
returns c =
    let low : 0 < length c.args.digits.now = grind (arith, common_steps) in
    let high : length c.args.digits.now ≤ 16 = omega arith in
    let all : list_all is_ascii_hexdigit c.args.digits.now ≡ true = cc in
    c.ok.ensures.value ∙ hexadecimal_is _ _ c.from_str_radix.ensures.value low high all
