use Rattle.std.proofs.Common.{◌≡◌, drop, find}
use Rattle.cfi_c.specs.LoadedImages.{is_type}
use Rattle.cfi_c.proofs.program_header.header_segment.Given as goal

-- the first is among those that are left
abbrev pub invariant-loop-header : goal.invariant-loop-header
invariant-loop-header l = find (is_type 0x6474e550) (drop l.header-index l.headers) ≡ find (is_type 0x6474e550) l.headers
