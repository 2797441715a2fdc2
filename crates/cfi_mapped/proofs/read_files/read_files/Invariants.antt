use Rattle.std.proofs.Common.{◌≡◌, true, List, drop, map}
use Rattle.cfi_mapped.specs.Notices.{AreMissingSaid}
use Rattle.cfi_mapped.specs.OpenedFiles.{AreOpenedAs, Opened, are_whole}
use Rattle.cfi_mapped.specs.Wanted.{wanted_view}
use Rattle.cfi_mapped.proofs.FileLemmas.{OpensOn}
use Rattle.cfi_mapped.proofs.read_files.read_files.Given as goal

abbrev pub invariant-loop-file : goal.invariant-loop-file
invariant-loop-file g l =
    ((first : List Opened) × AreOpenedAs l.opened.items first
    × OpensOn (g.O.Opener.may_open l.opener) g.O.File.Read.remaining (map wanted_view l.files) (map wanted_view (drop l.file-index l.files)) first)
    × (l.whole ≡ true → are_whole l.opened.items ≡ true) × AreMissingSaid (g.O.Opener.has_said l.opener) l.opened.items
