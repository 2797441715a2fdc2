use Rattle.std.proofs.Common.{◌+◌, ℕ, Ok, List, sym, ap, ◌∙◌}
use Rattle.cfi_read_core.specs.ReadFunctions.{Outcome, Extent}
use Rattle.cfi_read_core.specs.ReaderCalls.{bytes_left}
use Rattle.cfi_read_core.proofs.Texts.{text_there, split_gives, front_bytes, zero_read, zero_there}
use Rattle.cfi_read_core.proofs.reader.Reader.read_null_terminated_slice.Goals as goal

pub returns-in_err-_zero-clause-read : goal.returns-in_err-_zero-clause-read
returns-in_err-_zero-clause-read g c =
    let s = g.Self.Reader.position c.args.self.now in
    let n = g.Self.Offset.ReaderOffset.number c.in_ok-len.len in
    let there = text_there s n c.in_ok-len.ensures in
    let passed = split_gives s.source s.place n _ _ c.in_ok-text.ensures.read.0 in
    let byte = rw (c.in_ok-text.ensures.read.1, passed.2) at c.in_err-_zero.ensures.0 in
    zero_there s n _ _ there.1 byte

pub returns-clause-read : goal.returns-clause-read
returns-clause-read g c =
    let s = g.Self.Reader.position c.args.self.now in
    let n = g.Self.Offset.ReaderOffset.number c.in_ok-len.len in
    let there = text_there s n c.in_ok-len.ensures in
    let passed = split_gives s.source s.place n _ _ c.in_ok-text.ensures.read.0 in
    let part = front_bytes s (g.Self.Reader.position c.in_ok-text.text) n passed.0 c.in_ok-text.ensures.part passed.1 in
    let byte = rw (c.in_ok-text.ensures.read.1, passed.2) at c.in_ok-_zero.ensures.0 in
    let next = zero_read s n _ _ there.1 byte in (
      there.0 ∙ ap (λ (bs : List ℕ). let o : Outcome (List ℕ) = record { value = Ok bs; place = s.place + n + 1 } in o) part
          ∙ ap (λ (p : ℕ). let o : Outcome (List ℕ) = record { value = Ok (bytes_left (g.Self.Reader.position c.in_ok-text.text)); place = p } in o) (sym next),
      c.in_ok-_zero.ensures.1 ∙ c.in_ok-text.ensures.read.1,
    )

pub returns-clause-place : goal.returns-clause-place
returns-clause-place g c =
    let s = g.Self.Reader.position c.args.self.now in
    let n = g.Self.Offset.ReaderOffset.number c.in_ok-len.len in
    ap (λ (e : Extent). e.first) (split_gives s.source s.place n _ _ c.in_ok-text.ensures.read.0).1
