use Rattle.std.proofs.Common.{[], false, refl, sym, ◌∙◌}
use Rattle.cfi_read_core.specs.ByteOrder.{is_big}
use Rattle.cfi_perf.specs.EventTables.{event_table_view}
use Rattle.cfi_perf.specs.Records.{first_record_view}
use Rattle.cfi_perf.proofs.RecordSteps.{cut_left, error_left, first_left, none_left}
use Rattle.cfi_perf.proofs.records.Records.next.Goals as goal

pub returns-then-self : goal.returns-then-self
returns-then-self c =
    let walk = c.args.self.now in
    let none = sym c.is_empty.ensures ∙ c.if-is_empty.true in (
      cut_left (event_table_view walk.events) (is_big walk.endian) walk.is_cut walk.bytes.now none c.if-self.true,
      none_left (event_table_view walk.events) (is_big walk.endian) false walk.bytes.now none refl,
    )

pub returns-then-is_empty : goal.returns-then-is_empty
returns-then-is_empty c =
    let walk = c.args.self.now in
    let none = sym c.is_empty.ensures ∙ c.if-is_empty.true in (
      none_left (event_table_view walk.events) (is_big walk.endian) walk.is_cut walk.bytes.now none c.if-self.false,
      none_left (event_table_view walk.events) (is_big walk.endian) walk.is_cut walk.bytes.now none c.if-self.false,
    )

pub returns-in-Ok : goal.returns-in-Ok
returns-in-Ok c =
    let walk = c.args.self.now in
    first_left (event_table_view walk.events) (is_big walk.endian) walk.is_cut walk.bytes.now (first_record_view c.in-Ok.found) (sym c.is_empty.ensures ∙ c.if-is_empty.false) c.in-Ok.ensures

pub returns-in-Err : goal.returns-in-Err
returns-in-Err c =
    let walk = c.args.self.now in (
      error_left (event_table_view walk.events) (is_big walk.endian) walk.is_cut walk.bytes.now c.in-Err.error c.end_error-error.result (sym c.is_empty.ensures ∙ c.if-is_empty.false) c.in-Err.ensures c.end_error-error.ensures,
      none_left (event_table_view walk.events) (is_big walk.endian) false [] refl refl,
    )
