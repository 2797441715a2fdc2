use Rattle.cfi_stacks.proofs.NameLemmas.{all_named, none_named, one_named}
use Rattle.cfi_stacks.proofs.folded_text.put_frames.Goals as goal

pub loop-passed-init : goal.loop-passed-init
loop-passed-init c = none_named c.args.frames.now c.args.text.now

pub loop-passed-preserved : goal.loop-passed-preserved
loop-passed-preserved c = one_named c.args.frames.now c.loop-passed.passed _ _ _ _ _ c.loop-passed-test.true c.loop-passed.invariant c.put.ensures c.put_site.ensures

pub returns : goal.returns
returns c = all_named c.args.frames.now c.loop-passed.passed _ _ c.loop-passed-test.false c.loop-passed.invariant
