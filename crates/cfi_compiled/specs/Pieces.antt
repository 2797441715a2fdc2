-- Pieces of address space, each of which belongs to one of numbered things.
--     owner a pieces      whose the address is: that of the first piece with it
--     Ascend low pieces      each piece has an address and begins at or above the end of the one
--         before it, the first at or above `low`
--     end_from low pieces      where the last piece ends
--     spans_from i fdes      the addresses of each FDE, numbered from `i` on
use Rattle.std.specs.Prelude.{ℕ, ◌+◌, ◌≤◌, ◌<◌, List, [], ◌∷◌, nat_le, nat_lt, ◌&&◌, if◌then◌else◌}
use Rattle.std.specs.Prelude.{Option, Some, None, ⊤}
use Rattle.cfi_entry.specs.Fdes.{Fde, end_of}
use Rattle.cfi_compiled.specs.declared.pieces.Piece.{Piece}

abbrev pub owner : ℕ → List Piece → Option ℕ
owner a [] = None
owner a (piece ∷ pieces) =
    if nat_le piece.from a && nat_lt a piece.to then Some piece.of else owner a pieces

abbrev pub Ascend : ℕ → List Piece → Type 0
Ascend low [] = ⊤
Ascend low (piece ∷ pieces) =
    (low ≤ piece.from) × (piece.from < piece.to) × Ascend piece.to pieces

abbrev pub end_from : ℕ → List Piece → ℕ
end_from low [] = low
end_from low (piece ∷ pieces) = end_from piece.to pieces

abbrev pub spans_from : ℕ → List Fde → List Piece
spans_from i [] = []
spans_from i (fde ∷ fdes) =
    record { from = fde.initial; to = end_of fde; of = i } ∷ spans_from (i + 1) fdes
