-- Records as frames: a header, other bytes, and what follows (perf_event_open(2), struct
-- perf_event_header).
--     split_record big bytes      the first record of these bytes
use Rattle.std.specs.Int.{w16, w32, w64}
use Rattle.cfi_read_core.specs.ReadFunctions.{Read, ◌>>=◌, give}
use Rattle.cfi_read_core.specs.Numbers.{unsigned}
use Rattle.cfi_perf.specs.declared.record_frame.RecordHeader.{RecordHeader}
use Rattle.std.specs.Prelude.{◌≡◌, ◌⊎◌, ℕ, ◌-◌, Bool, List, length, drop, Result, Ok, Err, nat_lt}
use Rattle.std.specs.Prelude.{◌==◌, if◌then◌else◌, ok_or}
use Rattle.cfi_perf.specs.declared.error.PerfError.{PerfError}
use Rattle.cfi_perf.specs.declared.error.PerfError.TheVariants.{RecordSize, RecordCut}
use Rattle.cfi_perf.specs.declared.record_frame.Framed.{Framed as FramedOfCode}
use Rattle.cfi_perf.specs.Results.{and_then, or_error}
use Rattle.cfi_perf.specs.ByteReads.{part, read_from}

unfoldable pub record_header : Read RecordHeader
record_header = do
  kind ← unsigned w32
  misc ← unsigned w16
  size ← unsigned w16
  give (record { kind = kind; misc = misc; size = size })

-- A record's header, its other bytes, and the bytes that follow.
pub record FramedRecord : Type 0 where
  pub header : RecordHeader
  pub body : List ℕ
  pub others : List ℕ

abbrev pub framed_view : FramedOfCode → FramedRecord
framed_view f = record { header = f.header; body = f.body.now; others = f.others.now }

-- How many bytes stand after a record that its size doesn't count: after PERF_RECORD_AUXTRACE
-- (71) a trace, and after PERF_RECORD_HEADER_TRACING_DATA (66) the descriptions of tracepoints. It
-- tells of their size first, in eight bytes and in four.
abbrev pub trace_size : Bool → List ℕ → Result ℕ PerfError
trace_size big body = or_error RecordCut (read_from big body (unsigned w64))

abbrev pub descriptions_size : Bool → List ℕ → Result ℕ PerfError
descriptions_size big body = or_error RecordCut (read_from big body (unsigned w32))

abbrev pub uncounted_size : Bool → RecordHeader → List ℕ → Result ℕ PerfError
uncounted_size big header body =
    if header.kind == 71 then trace_size big body
    else if header.kind == 66 then descriptions_size big body
    else Ok 0

abbrev pub HasUncounted : ℕ → Type 0
HasUncounted kind = (kind ≡ 71) ⊎ (kind ≡ 66)

-- what follows a record, and those
abbrev pub after_record : Bool → RecordHeader → List ℕ → List ℕ → Result (List ℕ) PerfError
after_record big header body after =
    and_then (uncounted_size big header body) (λ size.
    if nat_lt (length after) size then Err RecordCut else Ok (drop size after))

-- the first record of these bytes; its size counts its header, eight bytes
unfoldable pub split_record : Bool → List ℕ → Result FramedRecord PerfError
split_record big bytes =
    and_then (or_error RecordCut (read_from big bytes record_header)) (λ header.
    if nat_lt header.size 8 then Err (RecordSize header.size)
    else and_then (ok_or (part bytes 8 (header.size - 8)) RecordCut) (λ body.
    and_then (after_record big header body (drop header.size bytes)) (λ others.
    Ok (record { header = header; body = body; others = others }))))
