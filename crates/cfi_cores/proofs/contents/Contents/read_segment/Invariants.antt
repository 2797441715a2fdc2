use Rattle.std.proofs.Common.{◌≡◌}
use Rattle.cfi_elf.specs.Notes.{notes_left}
use Rattle.cfi_cores.specs.Contents.{contents_view, then_contents, contents_of_all, contents_of_segment}
use Rattle.cfi_cores.proofs.contents.Contents.read_segment.Given as goal

-- what was read, and what the notes that are left say
abbrev pub invariant-loop-note : goal.invariant-loop-note
invariant-loop-note l =
    then_contents (contents_view l.self) (contents_of_all l.machine (notes_left l.note-iterator))
    ≡ then_contents (contents_view l.fn.self) (contents_of_segment l.machine l.bytes)
