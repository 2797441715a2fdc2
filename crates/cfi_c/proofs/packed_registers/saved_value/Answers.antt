use Rattle.std.proofs.Common.{◌≡◌, ◌∙◌, ℕ, ap, rules}
use Rattle.cfi_expression.specs.Arithmetic.{displaced}
use Rattle.cfi_step.specs.PackedRules.{eightfold}
use Rattle.cfi_c.specs.PassedMemories.{number_in_memory}
use Rattle.cfi_c.proofs.packed_registers.saved_value.Goals as goal

pub returns : goal.returns
returns c =
    let memory = c.args.memory.now in
    let at : c.displaced.result ≡ displaced memory.address_size c.args.cfa (eightfold c.args.words) = search rules in
    c.read.ensures ∙ ap (λ (a : ℕ). number_in_memory memory a memory.address_size) at
