use Rattle.std.proofs.Common.{map, false, None}
use Rattle.cfi_step.specs.declared.walk.StackFrame.{StackFrame}
use Rattle.cfi_processes.specs.Frames.{frame_view, walked_frame}
use Rattle.cfi_processes.specs.KnownFiles.{known_view}
use Rattle.cfi_processes.proofs.FrameLemmas.{left_at, one_made}
use Rattle.cfi_processes.proofs.process_code.ProcessCode.push_walked.Goals as goal

no_frame : StackFrame
no_frame = record { pc = 0; is_interrupted = false; cfa = None }

pub loop-frame-preserved : goal.loop-frame-preserved
unfolding no_frame
loop-frame-preserved c =
    let make = walked_frame c.args.with_functions (map known_view c.args.self.now.files.now) c.args.self.now.mappings.now in
    one_made frame_view make c.loop-frame.frames.items _ _ _ _ _ _ (left_at c.args.walked.now c.loop-frame.frame-index no_frame c.loop-frame-test.true) c.in_ok-push.ensures.items c.walked_frame.ensures c.loop-frame.invariant
