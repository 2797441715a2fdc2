use Rattle.std.proofs.Common.{sym, rules}
use Rattle.cfi_commands.proofs.FolderLemmas.{before_last, without_slash}
use Rattle.cfi_commands.proofs.folders.folder_of.Goals as goal

pub returns-in-Some : goal.returns-in-Some
returns-in-Some c = sym (before_last c.args.path.now c.in-Some.length (search rules) (search rules) (search rules))

pub returns-in-None : goal.returns-in-None
returns-in-None c = sym (without_slash c.args.path.now (search rules))
