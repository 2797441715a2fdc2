use Rattle.std.proofs.Common.{Bor, List, ℕ, option_map}
use Rattle.cfi_elf.specs.DebugLinks.{link_view}
use Rattle.cfi_mapped.proofs.ReadFiles.{linked_found, linked_nowhere, linked_passed, links_all}
use Rattle.cfi_mapped.proofs.read_files.read_linked_among.Goals as goal

pub loop-folder-init : goal.loop-folder-init
loop-folder-init g c =
    links_all (g.O.Opener.may_open c.args.opener.now) g.O.File.Read.remaining c.args.name.now (link_view c.args.link.now) (option_map (λ (build : Bor (List ℕ)). build.now) c.args.build) c.args.folders.now

pub loop-folder-preserved : goal.loop-folder-preserved
loop-folder-preserved g c =
    linked_passed (g.O.Opener.may_open c.args.opener.now) g.O.File.Read.remaining c.args.name.now (link_view c.args.link.now) (option_map (λ (build : Bor (List ℕ)). build.now) c.args.build) c.args.folders.now c.args.folders.now
    c.loop-folder.folder-index c.loop-folder-test.true _ c.in_default.is c.in_ok-debug.ensures c.loop-folder.invariant

pub returns-in-Some : goal.returns-in-Some
returns-in-Some g c =
    linked_found (g.O.Opener.may_open c.args.opener.now) g.O.File.Read.remaining c.args.name.now (link_view c.args.link.now) (option_map (λ (build : Bor (List ℕ)). build.now) c.args.build) c.args.folders.now c.args.folders.now
    c.loop-folder.folder-index c.loop-folder-test.true _ c.in-Some.debug c.in-Some.is c.in_ok-debug.ensures c.loop-folder.invariant

pub returns : goal.returns
returns g c =
    linked_nowhere (g.O.Opener.may_open c.args.opener.now) g.O.File.Read.remaining c.args.name.now (link_view c.args.link.now) (option_map (λ (build : Bor (List ℕ)). build.now) c.args.build) c.args.folders.now c.args.folders.now
    c.loop-folder.folder-index c.loop-folder-test.false c.loop-folder.invariant
