use Rattle.std.proofs.Common.{◌∙◌, w32, FitsSigned, ap, rules}
use Rattle.std.proofs.Math.Facts.{to_z-of_z}
use Rattle.cfi_compiled.specs.CompiledRows.{parts_lent}
use Rattle.cfi_c.proofs.TableAnswers.{by_refusal}
use Rattle.cfi_c.proofs.compiled.write_row.Goals as goal

pub returns-in-Err : goal.returns-in-Err
returns-in-Err c =
    let fits : FitsSigned w32 c.number_of-row.result = search rules in
    by_refusal (parts_lent c.args.found) c.in-Err.error _ _ _ _ (ap parts_lent c.in-Err.is) (to_z-of_z fits ∙ c.number_of-row.ensures) c.value-row.ensures
