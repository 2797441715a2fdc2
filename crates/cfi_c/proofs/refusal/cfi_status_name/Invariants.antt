use Rattle.std.proofs.Common.{◌≡◌, ◌<◌, ◌≤◌, ℕ, length, slice_index_or}
use Rattle.cfi_c.proofs.refusal.cfi_status_name.Given as goal

abbrev pub invariant-loop-k : goal.invariant-loop-k
invariant-loop-k l =
    (length l.name ≡ length l.initial.name) ×
    ((j : ℕ) → j < l.k → j < length l.name → slice_index_or l.name j 0 ≡ slice_index_or l.text j 0) ×
    ((j : ℕ) → l.k ≤ j → slice_index_or l.name j 0 ≡ slice_index_or l.initial.name j 0)
