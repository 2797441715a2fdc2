use Rattle.std.proofs.Common.{◌∙◌, Some, ap, sym}
use Rattle.cfi_step.specs.declared.function.Function.{Function}
use Rattle.cfi_step.proofs.PlainFunctions.{plain_is, plain_same}
use Rattle.cfi_step.proofs.packed_rows.PackedRow.plain_function.Goals as goal

pub returns-then-is_plain-clause-function : goal.returns-then-is_plain-clause-function
returns-then-is_plain-clause-function c =
    ap (λ (f : Function). Some f) c.function_with.ensures ∙ plain_is c.args.self.now (sym c.is_plain.ensures ∙ c.if-is_plain.true)

pub returns-then-is_plain-clause-plain : goal.returns-then-is_plain-clause-plain
returns-then-is_plain-clause-plain c = (
  c.function_with.ensures ∙ plain_same c.args.self.now (sym c.is_plain.ensures ∙ c.if-is_plain.true),
  ap (λ (f : Function). f.lsda) c.function_with.ensures,
  ap (λ (f : Function). f.personality) c.function_with.ensures,
)
