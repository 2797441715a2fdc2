use Rattle.std.proofs.Common.{◌≡◌}
use Rattle.cfi_guide.proofs.all_rows.last_end.Given as goal

-- the entries are those of the section
abbrev pub invariant-loop-entry : goal.invariant-loop-entry
invariant-loop-entry g l =
    (goal.iterator-loop-entry g).can_next l.entry-iterator ×
    (goal.iterator-loop-entry g).is_finite l.entry-iterator ×
    (l.entry-iterator.section ≡ l.frame)
