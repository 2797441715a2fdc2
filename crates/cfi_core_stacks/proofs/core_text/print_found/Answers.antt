use Rattle.std.proofs.Common.{◌∙◌, ap, map, not, subst}
use Rattle.cfi_cores.specs.CoreThreads.{thread_view}
use Rattle.cfi_mapped.specs.ThreadNames.{name_bytes}
use Rattle.cfi_processes.specs.Frames.{frame_view, walked_frame}
use Rattle.cfi_processes.specs.KnownFiles.{known_view}
use Rattle.cfi_processes.specs.Rooms.{found_frames}
use Rattle.cfi_frames.proofs.SaidLemmas.{none_written}
use Rattle.cfi_core_stacks.specs.ThreadOutputs.{IsInFormat, Stack, stack_with, thread_object}
use Rattle.cfi_core_stacks.proofs.core_text.print_found.Goals as goal

pub returns-in-Ok : goal.returns-in-Ok
returns-in-Ok g c =
    let frames = ap (map frame_view) c.as_slice.ensures.value ∙ c.in-Ok.ensures in
    let stack = c.stack.ensures ∙ ap (stack_with (name_bytes c.args.process.now.name) (thread_view c.args.thread.now) c.args.found) frames in
    let (text, written, said) = c.print_stack.ensures in
    (text, written, subst (λ (s : Stack). IsInFormat c.args.listing s text) stack said)

pub returns-in-Err : goal.returns-in-Err
returns-in-Err g c =
    let code = c.args.process.now.code in
    let frames = map (walked_frame (not c.args.listing.raw) (map known_view code.files.now) code.mappings.now) (found_frames c.args.found c.args.walked.now) in
    none_written c.args.listing.format (g.W.Write.contents c.args.output.now) (thread_object c.args.listing.raw (stack_with (name_bytes c.args.process.now.name) (thread_view c.args.thread.now) c.args.found frames))
