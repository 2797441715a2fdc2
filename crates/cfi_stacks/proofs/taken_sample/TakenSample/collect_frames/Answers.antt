use Rattle.std.proofs.Common.{◌∙◌, ◌++◌, List, ap, map}
use Rattle.std.proofs.lemmas.Result.{on_ok_weaker}
use Rattle.cfi_processes.specs.Frames.{Frame, frame_view}
use Rattle.cfi_perf.specs.CallChains.{addresses_left}
use Rattle.cfi_stacks.specs.SampleOutputs.{kernel_frame, user_frames_of}
use Rattle.cfi_stacks.specs.TakenSamples.{taken_view}
use Rattle.cfi_stacks.proofs.taken_sample.TakenSample.collect_frames.Goals as goal

pub returns : goal.returns
returns c =
    let taken = taken_view c.args.self.now in
    let user = user_frames_of c.args.with_functions taken c.args.found c.args.walked.now in
    let make = kernel_frame c.args.with_functions taken.in_kernel in
    let none = ap (map frame_view) c.clear.ensures.items in
    let first = c.in_ok-push_called.ensures ∙ ap (λ (front : List Frame). front ++ map make (addresses_left c.kernel_frames-kernel_frames.result)) none ∙ ap (map make) c.kernel_frames-kernel_frames.ensures in
    on_ok_weaker c.push_user_frames.result (λ more. more ∙ ap (λ (front : List Frame). front ++ user) first) c.push_user_frames.ensures
