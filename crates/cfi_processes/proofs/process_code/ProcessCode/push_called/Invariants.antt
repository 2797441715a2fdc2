use Rattle.std.proofs.Common.{◌≡◌, ◌++◌, map}
use Rattle.cfi_perf.specs.CallChains.{addresses_left}
use Rattle.cfi_processes.specs.Frames.{called_frame, frame_view}
use Rattle.cfi_processes.specs.KnownFiles.{known_view}
use Rattle.cfi_processes.proofs.process_code.ProcessCode.push_called.Given as goal

abbrev pub invariant-loop-address : goal.invariant-loop-address
invariant-loop-address l =
    let make = called_frame l.kind l.with_functions (map known_view l.self.files.now) l.self.mappings.now in
    map frame_view l.frames.items ++ map make (addresses_left l.address-iterator) ≡ map frame_view l.fn.frames.items ++ map make (addresses_left l.fn.addresses)
