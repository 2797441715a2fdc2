use Rattle.cfi_text.proofs.TextLemmas.{put_first}
use Rattle.cfi_frames.proofs.JsonLemmas.{object_put, objects_put}
use Rattle.cfi_frames.proofs.frame_json.put_frame_objects.Goals as goal

pub loop-frame-init : goal.loop-frame-init
loop-frame-init c = put_first _ _

pub loop-frame-preserved : goal.loop-frame-preserved
loop-frame-preserved c = object_put c.args.style c.args.frames.now _ _ _ c.loop-frame.is_first c.loop-frame.frame-index c.frame-item.result c.loop-frame-test.true c.frame-item.is c.loop-frame.invariant c.put_frame_object.ensures

pub returns : goal.returns
returns c = objects_put c.args.style c.args.frames.now _ _ c.loop-frame.is_first c.loop-frame.frame-index c.loop-frame-test.false c.loop-frame.invariant
