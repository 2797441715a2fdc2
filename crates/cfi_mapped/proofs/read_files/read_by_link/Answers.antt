use Rattle.std.proofs.Common.{Bor, List, ℕ, ap, option_map}
use Rattle.cfi_elf.specs.DebugLinks.{link_view}
use Rattle.cfi_mapped.proofs.ReadFiles.{by_folders, no_link}
use Rattle.cfi_mapped.proofs.read_files.read_by_link.Goals as goal

pub returns-in_default : goal.returns-in_default
returns-in_default g c =
    no_link (g.O.Opener.may_open c.args.opener.now) g.O.File.Read.remaining c.args.name.now (option_map (λ (build : Bor (List ℕ)). build.now) c.args.build) (option_map link_view c.args.link) (ap (option_map link_view) c.in_default.is)

pub returns : goal.returns
returns g c =
    by_folders (g.O.Opener.may_open c.args.opener.now) g.O.File.Read.remaining c.args.name.now (link_view c.in-Some.link) (option_map (λ (build : Bor (List ℕ)). build.now) c.args.build) (option_map link_view c.args.link) (ap (option_map link_view) c.in-Some.is)
    c.read_linked_among.result c.read_linked_among.ensures
