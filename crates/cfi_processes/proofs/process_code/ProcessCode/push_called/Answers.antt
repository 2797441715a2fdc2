use Rattle.std.proofs.Common.{map}
use Rattle.cfi_processes.specs.Frames.{called_frame, frame_view}
use Rattle.cfi_processes.specs.KnownFiles.{known_view}
use Rattle.cfi_processes.proofs.FrameLemmas.{all_made, one_made}
use Rattle.cfi_processes.proofs.process_code.ProcessCode.push_called.Goals as goal

pub loop-address-preserved : goal.loop-address-preserved
loop-address-preserved c =
    let make = called_frame c.args.kind c.args.with_functions (map known_view c.args.self.now.files.now) c.args.self.now.mappings.now in
    one_made frame_view make c.loop-address.frames.items _ _ _ _ _ _ c.in-Some.ensures.steps c.in_ok-push.ensures.items c.called_frame.ensures c.loop-address.invariant

pub returns : goal.returns
returns c =
    let make = called_frame c.args.kind c.args.with_functions (map known_view c.args.self.now.files.now) c.args.self.now.mappings.now in
    all_made make _ _ _ c.in-None.ensures.steps.0 c.loop-address.invariant
