use Rattle.std.proofs.Common.{[], refl}
use Rattle.cfi_text.proofs.WrittenLemmas.{writes_refused}
use Rattle.cfi_files.proofs.SendingLemmas.{all_written, no_status, not_written, nothing_sent}
use Rattle.cfi_files.proofs.dump.print.print_rows.Goals as goal

pub returns-in_err-write_asked_rows : goal.returns-in_err-write_asked_rows
returns-in_err-write_asked_rows g c = (
  writes_refused _ _ _ _ c.from_residual.ensures.0 (c.in_err-write_asked_rows.ensures _ [] (nothing_sent _ _ c.requires)),
  no_status _ c.from_residual.ensures.0,
)

pub returns-in_err-write_to : goal.returns-in_err-write_to
returns-in_err-write_to g c = (
  writes_refused _ _ _ _ c.from_residual-in_err-write_to.ensures.0
      (not_written _ _ _ _ _ c.in_err-write_to.ensures.written c.in_err-write_to.ensures.unwritten (c.in_ok-write_asked_rows.ensures _ [] (nothing_sent _ _ c.requires))),
  no_status _ c.from_residual-in_err-write_to.ensures.0,
)

pub returns : goal.returns
returns g c =
    (all_written _ _ _ _ _ (c.in_ok-write_asked_rows.ensures _ [] (nothing_sent _ _ c.requires)) c.in_ok-write_to.ensures.written c.in_ok-write_to.ensures.whole, refl)
