-- What an error says, in a sentence, with the number that it carries.
use Rattle.std.specs.Prelude.{ℕ, List, ◌++◌, codes}
use Rattle.std.specs.Fmt.{decimal}
use Rattle.cfi_elf.specs.ErrorTexts.{text_of_elf}
use Rattle.cfi_cores.specs.declared.error.CoreError.{CoreError}
use Rattle.cfi_cores.specs.declared.error.CoreError.TheVariants.{Elf, UnknownMachine, NoteCut}
use Rattle.cfi_cores.specs.declared.error.CoreError.TheVariants.{ThreadCut, FilesCut, OutOfMemory}

abbrev pub text_of_core : CoreError → List ℕ
text_of_core (Elf error) = text_of_elf error
text_of_core (UnknownMachine e_machine) = codes "unknown machine " ++ decimal e_machine
text_of_core NoteCut = codes "a note is cut"
text_of_core ThreadCut = codes "the registers of a thread are cut"
text_of_core FilesCut = codes "the list of mapped files is cut"
text_of_core OutOfMemory = codes "memory is refused"
