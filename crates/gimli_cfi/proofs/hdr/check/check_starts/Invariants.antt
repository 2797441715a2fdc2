use Rattle.std.proofs.Common.{◌≡◌, ◌≤◌, ◌+◌, ◌-◌, ℕ, Ok}
use Rattle.gimli_cfi.specs.BoundaryRows.{AreRising}
use Rattle.gimli_cfi.proofs.hdr.check.check_starts.Given as goal

-- the starts of the rows before this one rise
abbrev pub invariant-loop-row : goal.invariant-loop-row
invariant-loop-row g l =
    let source = g.St.StartSource in
    record {
      some : 1 ≤ l.row;
      within : l.row ≤ l.count;
      rising : AreRising (source.answer l.fn.starts) l.row;
      last : (j : ℕ) → j + 1 ≡ l.row → source.answer l.fn.starts j ≡ Ok l.before;
      answers : source.answer l.starts ≡ source.answer l.fn.starts;
      calls : source.calls l.starts ≤ source.calls l.fn.starts + l.row;
    }

abbrev pub decreases-loop-row : goal.decreases-loop-row
decreases-loop-row g l = l.count - l.row
