use Rattle.std.proofs.Common.{drop, map}
use Rattle.cfi_processes.specs.KnownFiles.{known_view}
use Rattle.cfi_processes.proofs.ProfileLemmas.{IsFilesOn}
use Rattle.cfi_processes.proofs.profile_files.profile_files.Given as goal

abbrev pub invariant-loop-file : goal.invariant-loop-file
invariant-loop-file l = IsFilesOn l.named l.opened (drop l.file-index l.opened) (map known_view l.files.items)
