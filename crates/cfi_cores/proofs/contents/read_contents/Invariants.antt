use Rattle.std.proofs.Common.{◌≡◌}
use Rattle.cfi_elf.specs.SegmentLists.{segments_left}
use Rattle.cfi_cores.specs.Contents.{contents_view, then_contents, contents_of_headers}
use Rattle.cfi_cores.proofs.contents.read_contents.Given as goal

-- what was read, and what the headers that are left say
abbrev pub invariant-loop-header : goal.invariant-loop-header
invariant-loop-header l =
    then_contents (contents_view l.contents) (contents_of_headers l.machine l.bytes (segments_left l.header-iterator))
    ≡ contents_of_headers l.machine l.bytes (segments_left l.fn.headers)
