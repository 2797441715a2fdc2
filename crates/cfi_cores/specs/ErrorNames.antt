-- The names of the errors, without what they carry.
use Rattle.std.specs.Prelude.{ℕ, List, codes}
use Rattle.cfi_elf.specs.ErrorNames.{name_of_elf}
use Rattle.cfi_cores.specs.declared.error.CoreError.{CoreError}
use Rattle.cfi_cores.specs.declared.error.CoreError.TheVariants.{Elf, UnknownMachine, NoteCut}
use Rattle.cfi_cores.specs.declared.error.CoreError.TheVariants.{ThreadCut, FilesCut, OutOfMemory}

abbrev pub name_of_core : CoreError → List ℕ
name_of_core (Elf error) = name_of_elf error
name_of_core (UnknownMachine e_machine) = codes "UnknownMachine"
name_of_core NoteCut = codes "NoteCut"
name_of_core ThreadCut = codes "ThreadCut"
name_of_core FilesCut = codes "FilesCut"
name_of_core OutOfMemory = codes "OutOfMemory"
