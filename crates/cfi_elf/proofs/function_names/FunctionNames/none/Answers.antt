use Rattle.cfi_elf.proofs.NearestFunctions.{no_functions}
use Rattle.cfi_elf.proofs.function_names.FunctionNames.none.Goals as goal

pub returns-clause-places : goal.returns-clause-places
returns-clause-places c address = no_functions _ address c.new.ensures.items
