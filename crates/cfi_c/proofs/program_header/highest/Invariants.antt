use Rattle.std.proofs.Common.{◌≡◌, drop, max}
use Rattle.cfi_c.specs.LoadedImages.{highest}
use Rattle.cfi_c.proofs.program_header.highest.Given as goal

-- the highest is this one or one of those that are left
abbrev pub invariant-loop-header : goal.invariant-loop-header
invariant-loop-header l = max l.greatest (highest (drop l.header-index l.headers)) ≡ highest l.headers
