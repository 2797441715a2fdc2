use Rattle.std.proofs.Common.{◌≤◌, ◌++◌, ⊎_elim, inl, inr, length}
use Rattle.std.proofs.lemmas.Result.{err_from_is_err_and}
use Rattle.cfi_read_core.specs.ByteOrder.{is_big}
use Rattle.cfi_perf.specs.EventTables.{event_table_view}
use Rattle.cfi_perf.specs.Events.{record_view}
use Rattle.cfi_perf.specs.RecordFrames.{HasUncounted}
use Rattle.cfi_perf.specs.Windows.{frame_of_window}
use Rattle.cfi_perf.proofs.WindowSteps.{first_found, frame_refused, record_refused, tells_nothing}
use Rattle.cfi_perf.proofs.windows.first_in_window.Goals as goal

pub returns-in_err-found-clause-first : goal.returns-in_err-found-clause-first
returns-in_err-found-clause-first c others of =
    let p = err_from_is_err_and c.from_residual.result c.from_residual.ensures.1 in
    rw (p.1, p.2) (frame_refused (event_table_view c.args.events.now) (is_big c.args.endian) (c.args.window.now ++ others) c.in_err-found.field-0.0 (c.in_err-found.ensures.framed others of))

pub returns-in_err-first-clause-first : goal.returns-in_err-first-clause-first
returns-in_err-first-clause-first c others of =
    let p = err_from_is_err_and c.from_residual-in_err-first.result c.from_residual-in_err-first.ensures.1 in
    rw (p.1, p.2) (record_refused (event_table_view c.args.events.now) (is_big c.args.endian) (c.args.window.now ++ others) (frame_of_window (c.args.window.now ++ others) c.in_ok-found.found) c.in_err-first.field-0.0 (c.in_ok-found.ensures.framed others of) c.in_err-first.ensures)

pub returns-clause-first : goal.returns-clause-first
returns-clause-first c others of =
    first_found (event_table_view c.args.events.now) (is_big c.args.endian) (c.args.window.now ++ others) (frame_of_window (c.args.window.now ++ others) c.in_ok-found.found) (record_view c.in_ok-first.first) (c.in_ok-found.ensures.framed others of) c.in_ok-first.ensures

pub returns-clause-within : goal.returns-clause-within
returns-clause-within c =
    let found = c.in_ok-found.found in
    ⊎_elim
    (λ (kind : HasUncounted found.header.kind). inl (tells_nothing (event_table_view c.args.events.now) (is_big c.args.endian) found.header found.body.now (record_view c.in_ok-first.first) kind c.in_ok-first.ensures))
    (λ (fits : found.size ≤ length c.args.window.now). inr fits) c.in_ok-found.ensures.within
