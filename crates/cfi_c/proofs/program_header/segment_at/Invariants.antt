use Rattle.std.proofs.Common.{◌≡◌, drop, find}
use Rattle.cfi_c.specs.LoadedImages.{has_file_byte}
use Rattle.cfi_c.proofs.program_header.segment_at.Given as goal

-- the first is among those that are left
abbrev pub invariant-loop-header : goal.invariant-loop-header
invariant-loop-header l = find (has_file_byte l.place) (drop l.header-index l.headers) ≡ find (has_file_byte l.place) l.headers
