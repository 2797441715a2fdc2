use Rattle.std.proofs.Common.{◌≡◌, drop, find}
use Rattle.cfi_c.specs.LoadedImages.{is_type}
use Rattle.cfi_c.proofs.program_header.first_load.Given as goal

-- the first is among those that are left
abbrev pub invariant-loop-header : goal.invariant-loop-header
invariant-loop-header l = find (is_type 1) (drop l.header-index l.headers) ≡ find (is_type 1) l.headers
