use Rattle.std.proofs.Common.{◌≡◌, ◌++◌, drop, map}
use Rattle.cfi_processes.specs.Frames.{frame_view, walked_frame}
use Rattle.cfi_processes.specs.KnownFiles.{known_view}
use Rattle.cfi_processes.proofs.process_code.ProcessCode.push_walked.Given as goal

abbrev pub invariant-loop-frame : goal.invariant-loop-frame
invariant-loop-frame l =
    let make = walked_frame l.with_functions (map known_view l.self.files.now) l.self.mappings.now in
    map frame_view l.frames.items ++ map make (drop l.frame-index l.walked) ≡ map frame_view l.fn.frames.items ++ map make l.walked
