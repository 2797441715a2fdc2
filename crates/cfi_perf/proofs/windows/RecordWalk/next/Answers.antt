use Rattle.std.proofs.Common.{◌≡◌, ◌-◌, ℕ, ◌++◌, false, List, refl, ap, ◌∙◌, length, drop, arith}
use Rattle.std.proofs.lemmas.Bool.{eq-eqb}
use Rattle.cfi_read_core.specs.ByteOrder.{is_big}
use Rattle.cfi_perf.specs.EventTables.{event_table_view}
use Rattle.cfi_perf.specs.Events.{record_view}
use Rattle.cfi_perf.specs.Records.{with_record}
use Rattle.cfi_perf.specs.Windows.{first_of_window}
use Rattle.cfi_perf.proofs.RecordSteps.{cut_left, error_left, first_left, left, none_left}
use Rattle.cfi_perf.proofs.WindowSteps.{drop_passed, first_alone, no_bytes_left, some_bytes, window_length}
use Rattle.cfi_perf.proofs.windows.RecordWalk.next.Goals as goal

pub returns-then-self-clause-met : goal.returns-then-self-clause-met
returns-then-self-clause-met c others of =
    let walk = c.args.self.now in
    let bytes = c.args.window.now ++ others in
    let none : length bytes ≡ 0 = window_length _ _ _ of ∙ c.if-self-eq0.true in (
      cut_left (event_table_view walk.events) (is_big walk.endian) walk.is_cut bytes (eq-eqb (length bytes) 0 none) c.if-self.true,
      none_left (event_table_view walk.events) (is_big walk.endian) false (drop (walk.left - walk.left) bytes) (no_bytes_left (walk.left - walk.left) bytes (omega (arith, none))) refl,
    )

pub returns-then-self-eq0-clause-met : goal.returns-then-self-eq0-clause-met
returns-then-self-eq0-clause-met c others of =
    let walk = c.args.self.now in
    let bytes = c.args.window.now ++ others in
    let none : length bytes ≡ 0 = window_length _ _ _ of ∙ c.if-self-eq0.true in (
      none_left (event_table_view walk.events) (is_big walk.endian) walk.is_cut bytes (eq-eqb (length bytes) 0 none) c.if-self.false,
      none_left (event_table_view walk.events) (is_big walk.endian) walk.is_cut (drop (walk.left - walk.left) bytes) (no_bytes_left (walk.left - walk.left) bytes (omega (arith, none))) c.if-self.false,
    )

pub returns-in-Ok-clause-met : goal.returns-in-Ok-clause-met
returns-in-Ok-clause-met c others of =
    let walk = c.args.self.now in
    let bytes = c.args.window.now ++ others in
    let size = c.in-Ok.found.size in
    let events = event_table_view walk.events in
    let big = is_big walk.endian in
    let all = window_length _ _ _ of in
    let rest : walk.left - size ≡ c.saturating_sub-self.result = omega arith in
    first_left events big walk.is_cut bytes (first_of_window bytes c.in-Ok.found) (some_bytes bytes walk.left all c.if-self-eq0.false) (c.in-Ok.ensures.first others of)
    ∙ (ap (λ (l : List ℕ). with_record (record_view c.in-Ok.found.first) (left events big walk.is_cut l)) (drop_passed walk.left size bytes all)
    ∙ ap (λ (n : ℕ). with_record (record_view c.in-Ok.found.first) (left events big walk.is_cut (drop (walk.left - n) bytes))) rest)

pub returns-in-Ok-clause-alone : goal.returns-in-Ok-clause-alone
returns-in-Ok-clause-alone c others of =
    let walk = c.args.self.now in
    let bytes = c.args.window.now ++ others in
    let size = c.in-Ok.found.size in
    let all = window_length _ _ _ of in
    let rest : walk.left - size ≡ c.saturating_sub-self.result = omega arith in
    let ends : drop size bytes ≡ drop (walk.left - c.saturating_sub-self.result) bytes = drop_passed walk.left size bytes all ∙ ap (λ (n : ℕ). drop (walk.left - n) bytes) rest in
    first_alone (is_big walk.endian) bytes (walk.left - c.saturating_sub-self.result) (event_table_view walk.events) (first_of_window bytes c.in-Ok.found) (c.in-Ok.ensures.first others of) ends

pub returns-in-Err-clause-met : goal.returns-in-Err-clause-met
returns-in-Err-clause-met c others of =
    let walk = c.args.self.now in
    let bytes = c.args.window.now ++ others in
    let all = window_length _ _ _ of in (
      error_left (event_table_view walk.events) (is_big walk.endian) walk.is_cut bytes c.in-Err.error c.end_error-error.result (some_bytes bytes walk.left all c.if-self-eq0.false) (c.in-Err.ensures.first others of) c.end_error-error.ensures,
      none_left (event_table_view walk.events) (is_big walk.endian) false (drop (walk.left - 0) bytes) (no_bytes_left (walk.left - 0) bytes (omega (arith, all))) refl,
    )
