use Rattle.std.proofs.Common.{drop, get_or, refl, arith, codes}
use Rattle.std.specs.List.{flat_map}
use Rattle.cfi_text.specs.JsonTexts.{replacement}
use Rattle.cfi_text.proofs.TextLemmas.{byte_none, byte_put, put_all, put_first}
use Rattle.cfi_text.proofs.text.Text.replacements.Goals as goal

pub loop-preserved : goal.loop-preserved
loop-preserved c =
    byte_put replacement c.args.bytes.now _ _ _ c.loop.index _ c.loop-test.true refl c.loop.invariant c.put.ensures

pub returns : goal.returns
returns c = put_all _ _ _ _ c.loop.invariant (byte_none replacement c.args.bytes.now c.loop.index (omega (arith, c.loop-test.false)))
