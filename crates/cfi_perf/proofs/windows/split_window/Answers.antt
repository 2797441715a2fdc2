use Rattle.std.proofs.Common.{rules, ◌++◌, ◌≡◌, ◌<◌, ◌+◌, ◌-◌, ℕ, Some, None, Ok, Err, ap, ◌∙◌, drop, arith}
use Rattle.std.proofs.lemmas.Result.{err_from_is_err_and}
use Rattle.cfi_read_core.specs.ByteOrder.{is_big}
use Rattle.cfi_perf.specs.ByteReads.{part, read_from}
use Rattle.cfi_perf.specs.RecordFrames.{record_header}
use Rattle.cfi_perf.proofs.RecordSteps.{with_others}
use Rattle.cfi_perf.proofs.WindowSteps.{after_length, cut_body, cut_header, cut_trace, framed, small_size}
use Rattle.cfi_perf.proofs.windows.split_window.Goals as goal

pub returns-in_default-clause-framed : goal.returns-in_default-clause-framed
returns-in_default-clause-framed c others of =
    let is : read_from (is_big c.args.endian) c.args.window.now record_header ≡ Err c.in_default.field-0 = search rules in
    cut_header (is_big c.args.endian) c.args.window.now others c.args.left of c.in_default.field-0 is

pub returns-then-size-lt8-clause-framed : goal.returns-then-size-lt8-clause-framed
returns-then-size-lt8-clause-framed c others of =
    let is : read_from (is_big c.args.endian) c.args.window.now record_header ≡ Ok c.in-Ok.header = search rules in
    small_size (is_big c.args.endian) c.args.window.now others c.args.left of c.in-Ok.header is (omega arith)

pub returns-in_default-part-clause-framed : goal.returns-in_default-part-clause-framed
returns-in_default-part-clause-framed c others of =
    let is : read_from (is_big c.args.endian) c.args.window.now record_header ≡ Ok c.in-Ok.header = search rules in
    let fits : c.in-Ok.header.size < 65536 = search rules in
    let none : part c.args.window.now 8 (c.in-Ok.header.size - 8) ≡ None = search rules in
    cut_body (is_big c.args.endian) c.args.window.now others c.args.left of c.in-Ok.header is (omega arith) fits none

pub returns-in_err-more-clause-framed : goal.returns-in_err-more-clause-framed
returns-in_err-more-clause-framed c others of =
    let big = is_big c.args.endian in
    let window = c.args.window.now in
    let header = c.in-Ok.header in
    let is : read_from big window record_header ≡ Ok header = search rules in
    let fits : header.size < 65536 = search rules in
    let some : part window 8 (header.size - 8) ≡ Some c.in-Some.body.now = search rules in
    let same : c.args.left - header.size ≡ c.saturating_sub.result = omega arith in
    let after = after_length big window others c.args.left of header.size ∙ same in
    let p = err_from_is_err_and c.from_residual.result c.from_residual.ensures.1 in
    rw (p.1, p.2) (cut_trace big window others c.args.left of header is (omega arith) fits c.in-Some.body.now some c.in_err-more.field-0.0 (c.in_err-more.ensures.others (drop header.size (window ++ others)) after))

pub returns-clause-framed : goal.returns-clause-framed
returns-clause-framed c others of =
    let big = is_big c.args.endian in
    let window = c.args.window.now in
    let header = c.in-Ok.header in
    let is : read_from big window record_header ≡ Ok header = search rules in
    let fits : header.size < 65536 = search rules in
    let some : part window 8 (header.size - 8) ≡ Some c.in-Some.body.now = search rules in
    let same : c.args.left - header.size ≡ c.saturating_sub.result = omega arith in
    let after = after_length big window others c.args.left of header.size ∙ same in
    let more = c.in_ok-more.more in
    ap (λ (n : ℕ). with_others header c.in-Some.body.now (drop (n + more) (window ++ others))) c.from-size.ensures
    ∙ framed big window others c.args.left of header is (omega arith) fits c.in-Some.body.now some more (c.in_ok-more.ensures.others (drop header.size (window ++ others)) after)
