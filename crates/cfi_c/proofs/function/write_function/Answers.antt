use Rattle.std.proofs.Common.{◌≡◌, ◌∙◌, None, Some, ap}
use Rattle.cfi_step.specs.declared.function.Function.{Function}
use Rattle.cfi_step.specs.declared.packed_rows.PackedRow.{PackedRow}
use Rattle.cfi_step.specs.PackedRows.{function_packed}
use Rattle.cfi_c.specs.WrittenFunctions.{written_function}
use Rattle.cfi_c.proofs.PackedReads.{if_some_at}
use Rattle.cfi_c.proofs.function.write_function.Goals as goal

abbrev IsPlain : PackedRow → Function → Type 0
IsPlain row plain = (plain ≡ function_packed row) × (plain.lsda ≡ None) × (plain.personality ≡ None)

pub write_plain-requires-clause-lsda : goal.write_plain-requires-clause-lsda
write_plain-requires-clause-lsda c =
    let (same, lsda, personality) = if_some_at (IsPlain c.args.row.now) c.plain_function.result c.in-Some.plain c.in-Some.is c.plain_function.ensures.plain in lsda

pub write_plain-requires-clause-personality : goal.write_plain-requires-clause-personality
write_plain-requires-clause-personality c =
    let (same, lsda, personality) = if_some_at (IsPlain c.args.row.now) c.plain_function.result c.in-Some.plain c.in-Some.is c.plain_function.ensures.plain in personality

pub returns-in-Some : goal.returns-in-Some
returns-in-Some c =
    let (same, lsda, personality) = if_some_at (IsPlain c.args.row.now) c.plain_function.result c.in-Some.plain c.in-Some.is c.plain_function.ensures.plain in
    c.write_plain.ensures ∙ ap (λ (f : Function). written_function (Some f)) same
