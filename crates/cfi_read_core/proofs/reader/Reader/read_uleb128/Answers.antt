use Rattle.std.proofs.Common.{Ok, sym, subst}
use Rattle.std.specs.Int.{w8}
use Rattle.std.proofs.lemmas.Result.{err_from_is_err_and}
use Rattle.cfi_read_core.specs.Numbers.{unsigned, unsigned_leb128}
use Rattle.cfi_read_core.specs.ReaderCalls.{Reads}
use Rattle.cfi_read_core.proofs.Leb128.{one_back_from, reads_none, reads_one}
use Rattle.cfi_read_core.proofs.reader.Reader.read_uleb128.Goals as goal

pub returns-in_err-first : goal.returns-in_err-first
returns-in_err-first g c =
    let p = err_from_is_err_and c.from_residual.result c.from_residual.ensures.1 in
    rw (p.1, p.2) (reads_none (g.Self.Reader.position c.args.self.now) (g.met.Self.Reader.sound c.args.self.now) _ _ c.in_err-first.ensures)

pub returns-then-first-lt128 : goal.returns-then-first-lt128
returns-then-first-lt128 g c =
    reads_one (g.Self.Reader.position c.args.self.now) (g.met.Self.Reader.sound c.args.self.now) c.in_ok-first.first c.from.result _ c.in_ok-first.ensures c.if-first-lt128.true c.from.ensures

pub longer_uleb128-requires-clause-first : goal.longer_uleb128-requires-clause-first
longer_uleb128-requires-clause-first g c =
    let old = g.Self.Reader.position c.args.self.now in
    let new = g.Self.Reader.position c.read_u8.new.self in
    let sound = g.met.Self.Reader.sound c.args.self.now in
    let back = one_back_from old new c.in_ok-first.first sound.within c.in_ok-first.ensures in
    subst (λ p. Reads (λ x. x) (unsigned w8) p (Ok c.in_ok-first.first) new) (sym back) c.in_ok-first.ensures

pub returns : goal.returns
returns g c =
    let old = g.Self.Reader.position c.args.self.now in
    let new = g.Self.Reader.position c.read_u8.new.self in
    let sound = g.met.Self.Reader.sound c.args.self.now in
    let back = one_back_from old new c.in_ok-first.first sound.within c.in_ok-first.ensures in
    subst (λ p. Reads (λ x. x) unsigned_leb128 p c.longer_uleb128.result (g.Self.Reader.position c.longer_uleb128.new.input)) back c.longer_uleb128.ensures
