use Rattle.std.proofs.Common.{◌≡◌, ◌++◌}
use Rattle.cfi_elf.specs.SegmentLists.{segments_left}
use Rattle.cfi_cores.specs.CoreHeads.{loaded_headers}
use Rattle.cfi_cores.proofs.core_heads.loaded_headers.Given as goal

-- those so far, and those that are left
abbrev pub invariant-loop-header : goal.invariant-loop-header
invariant-loop-header l = l.list.items ++ loaded_headers (segments_left l.header-iterator) ≡ loaded_headers (segments_left l.fn.headers)
