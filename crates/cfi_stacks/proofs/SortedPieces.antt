-- The records of an index in the order of their times.
use Rattle.std.proofs.Common.{◌≡◌, ◌∙◌, ◌<◌, ℕ, false, List, [], ◌∷◌, ◌++◌, Option, Some, None, IfSome, length, get_or, set, map, refl, sym, ap, subst, append-nil, length-append, arith}
use Rattle.std.specs.List.{All, swap}
use Rattle.std.specs.List.Sorted.{IsPermutation, IsSortedByKey}
use Rattle.std.specs.Ordering.{nat_cmp}
use Rattle.std.proofs.Math.ListN.{get_or-map}
use Rattle.std.proofs.lemmas.List.{length-map, map-set}
use Rattle.std.proofs.lemmas.List.Concat.{length-flat_map}
use Rattle.std.proofs.lemmas.List.Sorted.{All-permutation, Contains-permutation, IsPermutation-keeps, IsPermutation-refl, IsPermutation-swap, IsPermutation-trans, sum_by-IsPermutation}
use Rattle.cfi_perf.specs.declared.index.RecordIndex.{RecordIndex}
use Rattle.cfi_perf.specs.declared.index.RecordPlace.{RecordPlace}
use Rattle.cfi_perf.specs.declared.windows.RecordWalk.{RecordWalk}
use Rattle.cfi_perf.specs.Events.{Record}
use Rattle.cfi_perf.specs.Indexes.{AreIndexed, AreIndexedSorted, kept_of, places_of}
use Rattle.cfi_perf.specs.Records.{Records, no_records}
use Rattle.cfi_perf.specs.Windows.{records_in}
use Rattle.cfi_mapped.specs.WantedFiles.{has_kernel_frames}
use Rattle.cfi_stacks.specs.declared.profile_index.ProfileIndex.{ProfileIndex}
use Rattle.cfi_stacks.specs.ProfileIndexes.{IsIndexOf, IsIndexOfFile, IsKernelAt, IsPieceOf, IsTallyOf, IsToldOf, IsWholeOf, Piece, all_bytes, piece_place, record_of, records_bytes}
use Rattle.cfi_stacks.proofs.PieceLemmas.{all_read}
use Rattle.cfi_stacks.proofs.ReadLemmas.{behind_these}

map_swap : {P X : Type 0} (f : P → X) (l : List P) (i j : ℕ) → map f (swap l i j) ≡ swap (map f l) i j
map_swap f [] i j = refl
map_swap f (d ∷ l) i j =
    let all = d ∷ l in
    map-set f (set all i (get_or all j d)) j (get_or all i d)
    ∙ (λ t. set ((map-set f all i (get_or all j d) ∙ ap (set (map f all) i) (sym (get_or-map f all j d))) t) j (sym (get_or-map f all i d) t))

-- where the places go, the pieces go
abbrev AreMoved : List Piece → List RecordPlace → Type 0
AreMoved pieces places = (moved : List Piece) × (map piece_place moved ≡ places) × IsPermutation pieces moved

pieces_moved : (pieces : List Piece) (places : List RecordPlace) → IsPermutation (map piece_place pieces) places → AreMoved pieces places
pieces_moved pieces places =
    IsPermutation-keeps (map piece_place pieces) (AreMoved pieces) (pieces, refl, IsPermutation-refl pieces) (λ l i j p q h.
    let (moved, same, is) = h in
    let long = length-map moved piece_place in
    let first : i < length moved = omega (arith, p, ap length same, long) in
    let second : j < length moved = omega (arith, q, ap length same, long) in
    (swap moved i j, map_swap piece_place moved i j ∙ ap (λ (l : List RecordPlace). swap l i j) same, IsPermutation-trans pieces moved (swap moved i j) is (IsPermutation-swap moved (swap moved i j) i j first second refl))) places

kernel_moved : (kernel : Option ℕ) (pieces moved : List Piece) → IsPermutation pieces moved → IsKernelAt kernel pieces → IsKernelAt kernel moved
kernel_moved None pieces moved is at = All-permutation (λ piece. has_kernel_frames piece.found.event ≡ false) pieces moved is at
kernel_moved (Some first) pieces moved is (piece, inside, kind, offset, has) = (piece, Contains-permutation pieces moved piece is inside, kind, offset, has)

same_bytes : (pieces moved : List Piece) → IsPermutation pieces moved → length (all_bytes moved) ≡ length (all_bytes pieces)
same_bytes pieces moved is =
    length-flat_map (λ (p : Piece). p.bytes) moved ∙ (sum_by-IsPermutation (λ (p : Piece). length p.bytes) pieces moved is ∙ sym (length-flat_map (λ (p : Piece). p.bytes) pieces))

module _ (old : ProfileIndex) (records : RecordIndex) where
  abbrev sorted_index : ProfileIndex
  sorted_index = record { walk = old.walk; records = records; kernel = old.kernel; error = old.error; tally = old.tally }

  abbrev records_with : List Record → Records
  records_with l = record { records = l; error = old.error }

  module _ (pieces : List Piece) (rest : List ℕ) (moves : IsPermutation (places_of old.records) (places_of records)) (by_time : IsSortedByKey (λ p. p.time) nat_cmp (places_of records)) (kept : kept_of records ≡ kept_of old.records)
      (indexed : (walk : RecordWalk) (all : List ℕ) (l : List Record) → AreIndexed walk all old.records l → AreIndexedSorted walk all records l) where
    of_file : (known : Option (List ℕ)) → IsWholeOf known old pieces rest → IfSome known (IsIndexOfFile sorted_index)
    of_file None is = tt
    of_file (Some file) is =
        let (bytes, are) = is.file in (
          map record_of pieces,
          ap (records_in old.walk) bytes
              ∙ (all_read (Some file) old.walk (kept_of old.records) pieces rest is.each ∙ (ap (behind_these (map record_of pieces)) is.ends ∙ ap records_with (append-nil (map record_of pieces)))),
          ap length bytes ∙ (length-append (all_bytes pieces) rest ∙ is.left),
          indexed old.walk (records_bytes old.walk file) (map record_of pieces) are,
        )

    pub index_sorted : (known : Option (List ℕ)) → IsWholeOf known old pieces rest → (moved : List Piece) × IsIndexOf known sorted_index moved
    index_sorted known is =
        let (moved, same, go) = pieces_moved pieces (places_of records) (subst (λ (l : List RecordPlace). IsPermutation l (places_of records)) (sym is.places) moves) in (
          moved,
          record {
            places = same;
            each = subst (λ (l : List ℕ). All (IsPieceOf known old.walk l) moved) (sym kept) (All-permutation (IsPieceOf known old.walk (kept_of old.records)) pieces moved go is.each);
            kernel = kernel_moved old.kernel pieces moved go is.kernel;
            by_time = by_time;
            end = (rest, is.ends, omega (arith, is.left, same_bytes pieces moved go));
            file = of_file known is;
          },
        )

-- what the index tells is so of the bytes of the pieces
module _ (index : ProfileIndex) (pieces : List Piece) (rest : List ℕ) where
  pub told_of : (known : Option (List ℕ)) → IsWholeOf known index pieces rest → IsToldOf known index
  told_of known is = (
    all_bytes pieces ++ rest,
    (length-append (all_bytes pieces) rest ∙ is.left, of_known known is.file),
    subst (λ (l : List Record). IsTallyOf index.tally l) (sym (ap (λ (r : Records). r.records) found ∙ append-nil (map record_of pieces))) is.tally,
  )
    where
      found : records_in index.walk (all_bytes pieces ++ rest) ≡ behind_these (map record_of pieces) (no_records index.error)
      found = all_read known index.walk (kept_of index.records) pieces rest is.each ∙ ap (behind_these (map record_of pieces)) is.ends

      of_known : (known : Option (List ℕ))
          → IfSome known (λ file. (records_bytes index.walk file ≡ all_bytes pieces ++ rest) × AreIndexed index.walk (records_bytes index.walk file) index.records (map record_of pieces))
          → IfSome known (λ file. all_bytes pieces ++ rest ≡ records_bytes index.walk file)
      of_known None file = tt
      of_known (Some all) (same, are) = sym same
