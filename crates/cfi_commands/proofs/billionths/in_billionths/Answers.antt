use Rattle.std.proofs.Common.{◌≡◌, ◌∙◌, sym, Some, None, rules}
use Rattle.cfi_flame.specs.Decimals.{decimal_from}
use Rattle.cfi_commands.proofs.BillionthsLemmas.{all_parts, by_parts, no_first, no_second, zeros}
use Rattle.cfi_commands.proofs.billionths.in_billionths.Goals as goal

pub returns-in_err-units : goal.returns-in_err-units
returns-in_err-units c =
    let whole = c.args.whole.now in
    let decimals = c.args.decimals.now in
    let none : decimal_from 0 whole ≡ None = search rules in
    let is : c.from_residual.result ≡ None = search rules in
    is ∙ sym (by_parts whole decimals (search rules) (search rules) (search rules) ∙ no_first whole decimals (zeros decimals) none)

pub returns-in_err-tenths : goal.returns-in_err-tenths
returns-in_err-tenths c =
    let whole = c.args.whole.now in
    let decimals = c.args.decimals.now in
    let first : decimal_from 0 whole ≡ Some c.in_ok-units.units = search rules in
    let none : decimal_from c.in_ok-units.units decimals ≡ None = search rules in
    let is : c.from_residual-in_err-tenths.result ≡ None = search rules in
    is ∙ sym (by_parts whole decimals (search rules) (search rules) (search rules) ∙ no_second whole decimals (zeros decimals) c.in_ok-units.units first none)

pub returns : goal.returns
returns c =
    let whole = c.args.whole.now in
    let decimals = c.args.decimals.now in
    let first : decimal_from 0 whole ≡ Some c.in_ok-units.units = search rules in
    let tenths : decimal_from c.in_ok-units.units decimals ≡ Some c.in_ok-tenths.tenths = search rules in
    let last : c.decimal_from-3.result ≡ decimal_from c.in_ok-tenths.tenths (zeros decimals) = search rules in
    last ∙ sym (by_parts whole decimals (search rules) (search rules) (search rules) ∙ all_parts whole decimals (zeros decimals) c.in_ok-units.units c.in_ok-tenths.tenths first tenths)
