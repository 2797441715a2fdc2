use Rattle.std.proofs.Common.{◌+◌, ◌-◌, ◌*◌, map, take}
use Rattle.cfi_commands.specs.Targets.{Adds, AreOfNames, AreIn, IsEntry}
use Rattle.cfi_commands.specs.Trees.{tree_of}
use Rattle.cfi_commands.proofs.NameLemmas.{text_of}
use Rattle.cfi_commands.proofs.targets.+walk.Given as goal

abbrev pub decreases-push_entry : goal.decreases-push_entry
decreases-push_entry g l = 2 * l.depth + 1

abbrev pub decreases-push_folder : goal.decreases-push_folder
decreases-push_folder g l = 2 * l.depth

abbrev pub invariant-push_folder-loop-name : goal.invariant-push_folder-loop-name
invariant-push_folder-loop-name g l =
    let tree = tree_of (g.S.System.may_be l.system) (g.S.System.may_list l.system) in
    Adds (AreOfNames (IsEntry tree l.folder) (AreIn tree (l.depth - 1)) (map text_of (take l.name-index l.name-items))) l.initial.targets.items l.targets.items
