use Rattle.std.proofs.Common.{◌≡◌, ◌∙◌, ℤ, FitsSigned, ap, rules, w8}
use Rattle.std.proofs.lemmas.Int.{to_z-of_z}
use Rattle.cfi_expression.specs.Arithmetic.{displaced}
use Rattle.cfi_step.specs.PackedRules.{eightfold}
use Rattle.cfi_c.proofs.EightBytes.{read_at}
use Rattle.cfi_c.proofs.first_window.FirstWindow.number_at.Goals as goal

pub returns : goal.returns
returns c = λ memory first.
    let words = c.args.words in
    let fits : FitsSigned w8 words = search rules in
    let at : c.displaced_by.result ≡ displaced 8 c.args.cfa (eightfold words) = c.displaced_by.ensures ∙ ap (λ (z : ℤ). displaced 8 c.args.cfa (eightfold z)) (to_z-of_z w8 words fits) in
    read_at memory c.args.self.now c.args.cfa c.displaced_by.result (eightfold words) c.number.result at first c.number.ensures
