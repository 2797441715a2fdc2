use Rattle.std.proofs.Common.{drop, get_or, refl, arith, codes}
use Rattle.std.specs.List.{flat_map}
use Rattle.cfi_text.specs.Escapes.{shown_byte}
use Rattle.cfi_text.proofs.TextLemmas.{byte_none, byte_put, put_all, put_first}
use Rattle.cfi_text.proofs.text.Text.with_bytes.Goals as goal

pub loop-byte-preserved : goal.loop-byte-preserved
loop-byte-preserved c =
    byte_put (shown_byte c.args.escaping) c.args.bytes.now _ _ _ c.loop-byte.byte-index _ c.loop-byte-test.true refl c.loop-byte.invariant c.shown_byte.ensures

pub returns : goal.returns
returns c = put_all _ _ _ _ c.loop-byte.invariant (byte_none (shown_byte c.args.escaping) c.args.bytes.now c.loop-byte.byte-index (omega (arith, c.loop-byte-test.false)))
