use Rattle.cfi_processes.proofs.ModuleLemmas.{none_of_files}
use Rattle.cfi_processes.proofs.replay.Replay.load.Goals as goal

pub returns-in_err-push_modules-clause-own : goal.returns-in_err-push_modules-clause-own
returns-in_err-push_modules-clause-own g c =
    g.push_modules.ensures.files (none_of_files g.args.self.now.files.now g.clear.new.self.items g.clear.ensures.items)

pub returns-clause-own : goal.returns-clause-own
returns-clause-own g c =
    g.push_modules.ensures.files (none_of_files g.args.self.now.files.now g.clear.new.self.items g.clear.ensures.items)
