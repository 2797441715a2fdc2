use Rattle.std.proofs.Common.{ap, map, subst, sym, IfOk, IfSome}
use Rattle.cfi_commands.specs.Disks.{disk_of}
use Rattle.cfi_commands.specs.Targets.{AreTargets, Names, names_view, target_view}
use Rattle.cfi_commands.specs.Trees.{tree_of}
use Rattle.cfi_commands.proofs.NameLemmas.{text_of}
use Rattle.cfi_commands.proofs.TargetLemmas.{files_found}
use Rattle.cfi_commands.proofs.targets.targets_of.Goals as goal

pub returns-in_ok-targets-in-Files : goal.returns-in_ok-targets-in-Files
returns-in_ok-targets-in-Files g c =
    files_found (disk_of (g.S.System.may_open c.args.system.now) g.S.File.FileInput.bytes) (tree_of (g.S.System.may_be c.args.system.now) (g.S.System.may_list c.args.system.now)) c.args.recursive
    (names_view c.args.names) (map text_of c.in-Files.files.now) c.in_ok-targets-in-Files.targets.items (ap names_view c.in-Files.is) c.in_ok-targets-in-Files.ensures

pub returns-in-List : goal.returns-in-List
returns-in-List g c =
    let disk = disk_of (g.S.System.may_open c.args.system.now) g.S.File.FileInput.bytes in
    let tree = tree_of (g.S.System.may_be c.args.system.now) (g.S.System.may_list c.args.system.now) in
    subst (λ (names : Names). IfOk c.files_listed.result (λ made. IfSome made (λ targets. AreTargets disk tree c.args.recursive names (map target_view targets.items)))) (sym (ap names_view c.in-List.is)) c.files_listed.ensures
