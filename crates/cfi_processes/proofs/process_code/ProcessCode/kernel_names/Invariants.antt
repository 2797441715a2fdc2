use Rattle.std.proofs.Common.{◌≡◌, drop, map}
use Rattle.cfi_processes.specs.KernelSites.{kernel_names}
use Rattle.cfi_processes.specs.KnownFiles.{known_view}
use Rattle.cfi_processes.proofs.process_code.ProcessCode.kernel_names.Given as goal

abbrev pub invariant-loop-mapped : goal.invariant-loop-mapped
invariant-loop-mapped l =
    let files = map known_view l.self.files.now in
    kernel_names files (drop l.mapped-index l.mapped-items) ≡ kernel_names files l.mapped-items
