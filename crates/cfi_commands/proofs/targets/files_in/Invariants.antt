use Rattle.std.proofs.Common.{[], map, take}
use Rattle.cfi_commands.specs.Targets.{Adds, AreOfNames, AreIn, IsListEntry, depth_of_paths}
use Rattle.cfi_commands.specs.Trees.{tree_of}
use Rattle.cfi_commands.proofs.NameLemmas.{text_of}
use Rattle.cfi_commands.proofs.targets.files_in.Given as goal

abbrev pub invariant-loop-name : goal.invariant-loop-name
invariant-loop-name g l =
    let tree = tree_of (g.S.System.may_be l.system) (g.S.System.may_list l.system) in
    Adds (AreOfNames (IsListEntry tree l.recursive) (AreIn tree depth_of_paths) (map text_of (take l.name-index l.name-items))) [] l.targets.items
