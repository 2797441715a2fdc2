use Rattle.std.proofs.Common.{◌∙◌}
use Rattle.std.specs.FinMap.{get}
use Rattle.cfi_step.specs.Callers.{is_signed}
use Rattle.cfi_step.specs.PackedRows.{parts_packed}
use Rattle.cfi_c.proofs.PackedReads.{clears_mask, clears_nothing, clears_of_none, sign_of}
use Rattle.cfi_c.proofs.packed_caller.signature_of.Goals as goal

pub returns-then-mask-eq0 : goal.returns-then-mask-eq0
returns-then-mask-eq0 c = clears_of_none c.args.memory.now.signature_mask (is_signed (get (parts_packed c.args.row.now).rules 34)) c.if-mask-eq0.true

pub returns-then-is_signed : goal.returns-then-is_signed
returns-then-is_signed c =
    clears_mask c.args.memory.now.signature_mask (is_signed (get (parts_packed c.args.row.now).rules 34))
    (sign_of c.args.row.now c.rules.result.now c.rule_of.result c.is_signed.result c.rules.ensures c.rule_of.ensures c.is_signed.ensures ∙ c.if-is_signed.true)

pub returns-else-is_signed : goal.returns-else-is_signed
returns-else-is_signed c =
    clears_nothing c.args.memory.now.signature_mask (is_signed (get (parts_packed c.args.row.now).rules 34))
    (sign_of c.args.row.now c.rules.result.now c.rule_of.result c.is_signed.result c.rules.ensures c.rule_of.ensures c.is_signed.ensures ∙ c.if-is_signed.false)
