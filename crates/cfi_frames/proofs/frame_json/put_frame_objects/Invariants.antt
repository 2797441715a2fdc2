use Rattle.cfi_frames.proofs.JsonLemmas.{ArePut}
use Rattle.cfi_frames.proofs.frame_json.put_frame_objects.Given as goal

abbrev pub invariant-loop-frame : goal.invariant-loop-frame
invariant-loop-frame l = ArePut l.style l.frames l.fn.text l.text l.is_first l.frame-index
