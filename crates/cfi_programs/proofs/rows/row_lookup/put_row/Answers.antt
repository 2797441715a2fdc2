use Rattle.std.proofs.Common.{◌≡◌, ap, inr, refl, rules}
use Rattle.cfi_read_core.specs.declared.error.Error.TheVariants.{OutOfMemory}
use Rattle.cfi_text.specs.Refusals.{refusal_line}
use Rattle.cfi_programs.proofs.rows.row_lookup.put_row.Goals as goal

pub returns-in-Err : goal.returns-in-Err
returns-in-Err g c =
    let memory : c.in-Err.error ≡ OutOfMemory = search rules in
    (refusal_line c.in-Err.error, (c.put_refusal.ensures, refl), inr (ap refusal_line memory))
