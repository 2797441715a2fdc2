use Rattle.std.proofs.Common.{◌≡◌, ◌≤◌, List, drop, length}
use Rattle.cfi_stacks.specs.ProfileIndexes.{IsFoundOf, IsWindowIn, Piece}
use Rattle.cfi_stacks.proofs.profile_index.find_records.Given as goal

abbrev pub invariant-loop : goal.invariant-loop
invariant-loop g l =
    (l.index.walk ≡ l.fn.walk)
    × (g.I.FileInput.bytes l.input ≡ g.I.FileInput.bytes l.initial.input)
    × (l.from ≤ length l.window.items)
    × ((pieces : List Piece) × IsFoundOf (g.I.FileInput.bytes l.initial.input) l.index l.rest pieces
    × IsWindowIn (g.I.FileInput.bytes l.initial.input) l.index l.rest pieces (drop l.from l.window.items))
