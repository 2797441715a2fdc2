use Rattle.cfi_processes.proofs.ModuleLemmas.{none_of_files}
use Rattle.cfi_core_stacks.proofs.core_code.modules_of.Goals as goal

pub returns-clause-files : goal.returns-clause-files
returns-clause-files c = c.push_modules.ensures.files (none_of_files c.args.files.now c.new-modules.result.items c.new-modules.ensures.items)
