use Rattle.std.proofs.Common.{◌<◌, Ok, Err, arith}
use Rattle.std.proofs.lemmas.Result.{err_from_is_err_and}
use Rattle.cfi_read_core.proofs.ReadNumbers.{reads_in_32_bits}
use Rattle.cfi_read_core.proofs.reader.Reader.read_initial_length.Goals as goal

pub returns-in_err-from_u64 : goal.returns-in_err-from_u64
returns-in_err-from_u64 g c =
    let p = err_from_is_err_and c.from_residual-in_err-from_u64.result c.from_residual-in_err-from_u64.ensures.1 in
    let low : c.in_ok-word.word < 0xfffffff0 = omega arith in
    rw (p.1, p.2) (reads_in_32_bits (g.Self.Reader.position c.args.self.now) (g.Self.Reader.position c.read_u32.new.self) c.in_ok-word.word c.from.result _ (Err c.in_err-from_u64.field-0.0) (g.met.Self.Reader.greatest c.args.self.now) c.in_ok-word.ensures low c.from.ensures c.in_err-from_u64.ensures)

pub returns-in_ok-from_u64 : goal.returns-in_ok-from_u64
returns-in_ok-from_u64 g c =
    let low : c.in_ok-word.word < 0xfffffff0 = omega arith in
    reads_in_32_bits (g.Self.Reader.position c.args.self.now) (g.Self.Reader.position c.read_u32.new.self) c.in_ok-word.word c.from.result _ (Ok (g.Self.Offset.ReaderOffset.number c.in_ok-from_u64.field-0)) (g.met.Self.Reader.greatest c.args.self.now) c.in_ok-word.ensures low c.from.ensures c.in_ok-from_u64.ensures
