use Rattle.std.proofs.Common.{◌≡◌, ◌≤◌, drop, min}
use Rattle.cfi_c.specs.LoadedImages.{lowest}
use Rattle.cfi_c.proofs.program_header.lowest.Given as goal

-- the lowest is this one or one of those that are left
abbrev pub invariant-loop-header : goal.invariant-loop-header
invariant-loop-header l = (min l.least (lowest (drop l.header-index l.headers)) ≡ lowest l.headers) × (l.least ≤ 18446744073709551615)
