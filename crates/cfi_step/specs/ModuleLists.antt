-- The list of modules that was checked.
use Rattle.std.specs.Prelude.{List}
use Rattle.cfi_step.specs.declared.module.LoadedModule.{LoadedModule}
use Rattle.cfi_step.specs.declared.modules.Modules.{Modules}

abbrev pub module_list : {R : Type 0} → Modules R → List (LoadedModule R)
module_list modules = modules.list.now
