use Rattle.std.proofs.Common.{Bor, List, ℕ, drop, option_map}
use Rattle.cfi_elf.specs.DebugLinks.{link_view}
use Rattle.cfi_mapped.proofs.ReadFiles.{LinksOn}
use Rattle.cfi_mapped.proofs.read_files.read_linked_among.Given as goal

abbrev pub invariant-loop-folder : goal.invariant-loop-folder
invariant-loop-folder g l =
    LinksOn (g.O.Opener.may_open l.opener) g.O.File.Read.remaining l.name (link_view l.link) (option_map (λ (build : Bor (List ℕ)). build.now) l.build) l.folders (drop l.folder-index l.folders)
