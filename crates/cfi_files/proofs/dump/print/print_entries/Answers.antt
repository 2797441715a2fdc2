use Rattle.std.proofs.Common.{refl}
use Rattle.cfi_files.proofs.SendingLemmas.{grows_begun, grows_then, no_status, prints_grown}
use Rattle.cfi_files.proofs.dump.print.print_entries.Goals as goal

pub returns-in_err-write_entries : goal.returns-in_err-write_entries
returns-in_err-write_entries g c = prints_grown _ _ _ c.in_err-write_entries.ensures (no_status _ c.from_residual.ensures.0)

pub returns-in_err-write_to : goal.returns-in_err-write_to
returns-in_err-write_to g c =
    prints_grown _ _ _ (grows_then _ _ _ c.in_ok-write_entries.ensures (grows_begun _ _ _ c.in_err-write_to.ensures.written)) (no_status _ c.from_residual-in_err-write_to.ensures.0)

pub returns : goal.returns
returns g c =
    let (more, given) = grows_then _ _ _ c.in_ok-write_entries.ensures (_, c.in_ok-write_to.ensures.written) in
    (record { text = more; status = 0 }, (given, refl), refl)
