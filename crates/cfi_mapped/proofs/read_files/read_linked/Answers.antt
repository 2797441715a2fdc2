use Rattle.std.proofs.Common.{Bor, List, ℕ, option_map}
use Rattle.cfi_elf.specs.DebugLinks.{link_view}
use Rattle.cfi_mapped.proofs.ReadFiles.{linked_none, linked_some}
use Rattle.cfi_mapped.proofs.read_files.read_linked.Goals as goal

pub returns-in-Some : goal.returns-in-Some
returns-in-Some g c =
    linked_some (g.O.Opener.may_open c.args.opener.now) g.O.File.Read.remaining c.args.name.now (link_view c.args.link.now) (option_map (λ (build : Bor (List ℕ)). build.now) c.args.build) c.args.folder c.open_linked.result c.open_linked.ensures c.in-Some.file c.in-Some.is
    (g.O.File.FileInput.bytes c.in-Some.file) (g.met.O.Opener.same_bytes c.in-Some.file) c.read_if_linked.result c.read_if_linked.ensures

pub returns-in-None : goal.returns-in-None
returns-in-None g c = linked_none (g.O.Opener.may_open c.args.opener.now) g.O.File.Read.remaining c.args.name.now (link_view c.args.link.now) (option_map (λ (build : Bor (List ℕ)). build.now) c.args.build) c.args.folder c.open_linked.result c.open_linked.ensures c.in-None.is
