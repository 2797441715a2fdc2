use Rattle.std.proofs.Common.{[]}
use Rattle.cfi_commands.specs.Targets.{AreIn, IsNamedEntry, depth_of_paths, tree_entry_view}
use Rattle.cfi_commands.specs.Trees.{tree_of}
use Rattle.cfi_commands.proofs.TargetLemmas.{next_name}
use Rattle.cfi_commands.proofs.targets.files_of.Goals as goal

pub loop-name-preserved : goal.loop-name-preserved
loop-name-preserved g c =
    let tree = tree_of (g.S.System.may_be c.args.system.now) (g.S.System.may_list c.args.system.now) in
    next_name (IsNamedEntry tree c.args.recursive) (AreIn tree depth_of_paths) c.args.names.now c.loop-name.name-index (tree_entry_view c.in_ok-entry.entry) [] c.loop-name.targets.items c.push_entry.new.targets.items
    c.loop-name-test.true c.loop-name.invariant c.in_ok-entry.ensures c.in_ok-push_entry.ensures
