use Rattle.std.proofs.Common.{◌≡◌, ℕ, List}
use Rattle.cfi_elf.specs.Images.{IsImageOf, image_view}
use Rattle.cfi_elf.specs.SegmentLists.{segments_left}
use Rattle.cfi_cores.specs.Contents.{contents_view, then_contents, contents_of_headers}
use Rattle.cfi_cores.proofs.core_notes.read_noted.Given as goal

-- what was read, and what the headers that are left say
abbrev pub invariant-loop-header : goal.invariant-loop-header
invariant-loop-header l =
    (bytes : List ℕ) → IsImageOf (image_view l.image) bytes
    → then_contents (contents_view l.contents) (contents_of_headers l.machine bytes (segments_left l.header-iterator)) ≡ contents_of_headers l.machine bytes (segments_left l.fn.headers)
