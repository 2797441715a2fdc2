use Rattle.std.proofs.Common.{◌≡◌, ℕ, List, Option, drop, map}
use Rattle.std.specs.Option.{is_some}
use Rattle.cfi_perf.specs.Indexes.{places_of}
use Rattle.cfi_mapped.specs.WantedFiles.{wanted_in}
use Rattle.cfi_mapped.specs.Wanted.{wanted_view}
use Rattle.cfi_stacks.specs.ProfileIndexes.{IsIndexOf, Piece, record_of}
use Rattle.cfi_stacks.proofs.WantedPieces.{wanted_on}
use Rattle.cfi_stacks.proofs.profile_index.ProfileIndex.wanted_files.Given as goal

abbrev pub invariant-loop-place : goal.invariant-loop-place
invariant-loop-place l =
    (l.place-items ≡ places_of l.self.records)
    × ((known : Option (List ℕ)) (pieces : List Piece) → IsIndexOf known l.self pieces
    → wanted_on (is_some l.self.kernel) (map wanted_view l.files) (map record_of (drop l.place-index pieces)) ≡ wanted_in (is_some l.self.kernel) (map record_of pieces))
