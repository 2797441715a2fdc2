use Rattle.std.proofs.Common.{◌≡◌}
use Rattle.cfi_answers.proofs.passes.walk_in.Given as goal

-- the entries are those of the section
abbrev pub invariant-loop : goal.invariant-loop
invariant-loop g l = l.entries.section ≡ l.section
