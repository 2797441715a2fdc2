use Rattle.std.proofs.Common.{ap}
use Rattle.cfi_processes.proofs.ModuleLemmas.{still_of_files}
use Rattle.cfi_processes.proofs.replay.Replay.follow.Goals as goal

pub returns-in-Mapping-clause-own : goal.returns-in-Mapping-clause-own
returns-in-Mapping-clause-own c =
    still_of_files c.args.self.now.files.now c.map.new.self.files.now c.args.self.now.modules.items c.map.new.self.modules.items c.map.ensures.files (ap (λ list. list.items) c.map.ensures.same)

pub returns-in-Program-clause-own : goal.returns-in-Program-clause-own
returns-in-Program-clause-own c =
    still_of_files c.args.self.now.files.now c.run.new.self.files.now c.args.self.now.modules.items c.run.new.self.modules.items c.run.ensures.files (ap (λ list. list.items) c.run.ensures.same)

pub returns-in-Fork-clause-own : goal.returns-in-Fork-clause-own
returns-in-Fork-clause-own c =
    still_of_files c.args.self.now.files.now c.fork.new.self.files.now c.args.self.now.modules.items c.fork.new.self.modules.items c.fork.ensures.files (ap (λ list. list.items) c.fork.ensures.same)
