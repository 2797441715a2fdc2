use Rattle.std.proofs.Common.{drop, get_or, refl, arith, codes}
use Rattle.std.specs.List.{flat_map}
use Rattle.cfi_text.specs.Names.{byte_escape}
use Rattle.cfi_text.proofs.TextLemmas.{byte_none, byte_put, put_all, put_first}
use Rattle.cfi_text.proofs.text.Text.escapes.Goals as goal

pub loop-byte-preserved : goal.loop-byte-preserved
loop-byte-preserved c =
    byte_put byte_escape c.args.bytes.now _ _ _ c.loop-byte.byte-index _ c.loop-byte-test.true c.byte_escape.ensures c.loop-byte.invariant c.put.ensures

pub returns : goal.returns
returns c = put_all _ _ _ _ c.loop-byte.invariant (byte_none byte_escape c.args.bytes.now c.loop-byte.byte-index (omega (arith, c.loop-byte-test.false)))
