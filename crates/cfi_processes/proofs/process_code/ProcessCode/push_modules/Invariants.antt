use Rattle.std.proofs.Common.{◌≡◌, ◌++◌, drop, map}
use Rattle.cfi_processes.specs.FileModules.{AreModulesOfFiles}
use Rattle.cfi_processes.specs.KnownFiles.{known_view}
use Rattle.cfi_processes.specs.ProcessModules.{modules_in}
use Rattle.cfi_processes.specs.Modules.{loaded_module_view}
use Rattle.cfi_processes.proofs.process_code.ProcessCode.push_modules.Given as goal

abbrev pub invariant-loop-mapped : goal.invariant-loop-mapped
invariant-loop-mapped l =
    let files = map known_view l.self.files.now in
    (map loaded_module_view l.modules.items ++ modules_in files (drop l.mapped-index l.mapped-items) ≡ map loaded_module_view l.fn.modules.items ++ modules_in files l.mapped-items)
    × (AreModulesOfFiles l.self.files.now l.fn.modules.items → AreModulesOfFiles l.self.files.now l.modules.items)
