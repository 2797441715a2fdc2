use Rattle.cfi_processes.proofs.ModuleLemmas.{of_file}
use Rattle.cfi_processes.proofs.process_modules.module_in.Goals as goal

pub returns-in-Some-clause-file : goal.returns-in-Some-clause-file
returns-in-Some-clause-file c = of_file c.args.number c.args.file.now c.in-Some.code c.module.result c.in-Some.is c.module.ensures.frames
