-- The records of an index by their own bytes: what is read again in the place of one of them.
use Rattle.std.proofs.Common.{◌≡◌, ◌∙◌, ◌⊎◌, ◌<◌, ◌≤◌, ◌+◌, ℕ, zero, suc, false, List, [], ◌∷◌, ◌++◌, Option, Some, None, Result, Ok, IfSome, length, get_or, set, take, map, refl, sym, ap, subst, append_assoc, append-nil, length-append, arith, ⊎_elim, inl, inr, add-one}
use Rattle.std.specs.List.{All}
use Rattle.std.specs.List.Sorted.{IsSortedByKey}
use Rattle.std.specs.Ordering.{nat_cmp, is_lt}
use Rattle.std.proofs.Math.Seq.{take-suc}
use Rattle.std.proofs.lemmas.List.{get_or-map, get_or-set_other, get_or-set_same, get_or_default, length-map, length-set}
use Rattle.std.proofs.lemmas.Bool.{cases_lt}
use Rattle.std.proofs.lemmas.List.Elements.{All-set}
use Rattle.cfi_perf.specs.declared.error.PerfError.{PerfError}
use Rattle.cfi_perf.specs.declared.index.PlaceKind.{PlaceKind}
use Rattle.cfi_perf.specs.declared.index.PlaceKind.TheVariants.{InFile, Kept, Nothing}
use Rattle.cfi_perf.specs.declared.index.RecordPlace.{RecordPlace}
use Rattle.cfi_perf.specs.declared.windows.RecordWalk.{RecordWalk}
use Rattle.cfi_perf.specs.Events.{OtherEvent, Record}
use Rattle.cfi_perf.specs.Indexes.{AreAt, IsInTimeOrder, record_bytes, kept_of, places_of, record_by}
use Rattle.cfi_perf.specs.Records.{Records, no_records, with_record}
use Rattle.cfi_perf.specs.Windows.{record_bytes_left, record_alone, records_in}
use Rattle.cfi_perf.proofs.PieceSteps.{then_others}
use Rattle.cfi_mapped.specs.WantedFiles.{has_kernel_frames}
use Rattle.cfi_stacks.specs.declared.profile_index.ProfileIndex.{ProfileIndex}
use Rattle.cfi_stacks.specs.ProfileIndexes.{AreRecordsOf, IsIndexOf, IsKernelAt, IsKernelFit, IsPieceOf, IsPlacedIn, IsReadAt, IsReadBy, Piece, all_bytes, piece_place, record_of, records_bytes}
use Rattle.cfi_stacks.proofs.ReadLemmas.{behind_these}

-- ---- one of a list in the place of another

pub set_map : {X Y : Type 0} (f : X → Y) (xs : List X) (i : ℕ) (x : X) → map f (set xs i x) ≡ set (map f xs) i (f x)
set_map f [] i x = refl
set_map f (y ∷ xs) zero x = refl
set_map f (y ∷ xs) (suc i) x = ap (λ l. f y ∷ l) (set_map f xs i x)

-- where the new one says the same
pub map_set_same : {X Y : Type 0} (f : X → Y) (xs : List X) (i : ℕ) (x d : X) → i < length xs → f x ≡ f (get_or xs i d) → map f (set xs i x) ≡ map f xs
map_set_same f [] i x d inside same = absurd (omega (arith, inside))
map_set_same f (y ∷ xs) zero x d inside same = ap (λ a. a ∷ map f xs) same
map_set_same f (y ∷ xs) (suc i) x d inside same = ap (λ l. f y ∷ l) (map_set_same f xs i x d (omega (arith, inside)) same)

pub take_set : {X : Type 0} (xs : List X) (i : ℕ) (x : X) → take i (set xs i x) ≡ take i xs
take_set [] i x = refl
take_set (y ∷ xs) zero x = refl
take_set (y ∷ xs) (suc i) x = ap (λ l. y ∷ l) (take_set xs i x)

cases_eq : (k i : ℕ) → (k ≡ i) ⊎ (k ≡ i → ⊥)
cases_eq k i =
    ⊎_elim (λ (less : k < i). inr (λ same. omega (arith, less, same)))
    (λ (least : i ≤ k). ⊎_elim (λ (more : i < k). inr (λ same. omega (arith, more, same))) (λ (most : k ≤ i). inl (omega (arith, least, most))) (cases_lt i k))
    (cases_lt k i)

set_bytes : (pieces : List Piece) (i : ℕ) (p d : Piece) → i < length pieces → length p.bytes ≡ length (get_or pieces i d).bytes → length (all_bytes (set pieces i p)) ≡ length (all_bytes pieces)
set_bytes [] i p d inside same = absurd (omega (arith, inside))
set_bytes (q ∷ pieces) zero p d inside same = omega (arith, same, length-append p.bytes (all_bytes pieces), length-append q.bytes (all_bytes pieces))
set_bytes (q ∷ pieces) (suc i) p d inside same =
    omega (arith, set_bytes pieces i p d (omega (arith, inside)) same, length-append q.bytes (all_bytes (set pieces i p)), length-append q.bytes (all_bytes pieces))

-- ---- their bytes, one behind the other

module _ (known : Option (List ℕ)) (walk : RecordWalk) (kept : List ℕ) where
  abbrev pub ArePieces : List Piece → Type 0
  ArePieces pieces = All (IsPieceOf known walk kept) pieces

  later : (p : Piece) (pieces : List Piece) → ArePieces (p ∷ pieces) → ArePieces pieces
  later p pieces are = λ k d w. are (suc k) d (omega (arith, w))

  pub all_read : (pieces : List Piece) (rest : List ℕ) → ArePieces pieces → records_in walk (all_bytes pieces ++ rest) ≡ behind_these (map record_of pieces) (records_in walk rest)
  all_read [] rest are = refl
  all_read (p ∷ pieces) rest are =
      ap (records_in walk) (append_assoc p.bytes (all_bytes pieces) rest)
      ∙ (then_others walk p.bytes p.found (are 0 p (omega arith)).alone (all_bytes pieces ++ rest)
      ∙ ap (with_record p.found) (all_read pieces rest (later p pieces are)))

  pub in_time : (pieces : List Piece) → ArePieces pieces → IsSortedByKey (λ p. p.time) nat_cmp (map piece_place pieces) → IsSortedByKey (λ r. r.time) nat_cmp (map record_of pieces)
  in_time pieces are sorted =
      λ k d low high.
      let e : RecordPlace = record { time = d.time; offset = 0; size = 0; kind = Nothing } in
      let q : Piece = record { place = e; bytes = []; found = d } in
      let inside : k + 1 < length pieces = omega (arith, high, length-map pieces record_of) in
      let time_at : (j : ℕ) → j < length pieces → (get_or (map record_of pieces) j d).time ≡ (get_or (map piece_place pieces) j e).time = λ j w.
      ap (λ (r : Record). r.time) (get_or-map record_of pieces j q d w) ∙ (sym (are j q w).time ∙ ap (λ (p : RecordPlace). p.time) (sym (get_or-map piece_place pieces j q e w))) in
      let later = time_at (k + 1) inside in
      let sooner = time_at k (omega (arith, inside)) in
      (λ i. is_lt (nat_cmp (later i) (sooner i))) ∙ sorted k e low (omega (arith, inside, length-map pieces piece_place))

-- ---- those of a file whose bytes are known

pub same_found : (r s : Record) (x y : Result Record PerfError) → x ≡ Ok r → y ≡ Ok s → x ≡ y → r ≡ s
same_found r s x y is also same = let e : ◌≡◌ {A = Result Record PerfError} (Ok r) (Ok s) = sym is ∙ (same ∙ also) in cc

module _ (file : List ℕ) (walk : RecordWalk) (kept : List ℕ) where
  same_one : (kind : PlaceKind) (p : Piece) (r : Record) → record_alone walk p.bytes ≡ Ok p.found → p.place.time ≡ p.found.time → IsPlacedIn kind (Some file) walk kept p
      → record_by kind walk (records_bytes walk file) kept p.place ≡ Ok r → r ≡ p.found
  same_one InFile p r alone time (long, within, sample, same) is = same_found r p.found _ _ is alone (ap (record_alone walk) same)
  same_one Kept p r alone time (also, within, other) is = same_found r p.found _ _ is also refl
  same_one Nothing p r alone time none is =
      let e : record { time = p.place.time; event = OtherEvent } ≡ r = cc in
      sym e ∙ (λ i. record { time = time i; event = sym none i })

  pub same_at : (pieces : List Piece) (records : List Record) → All (IsPieceOf (Some file) walk kept) pieces → AreAt walk (records_bytes walk file) kept (map piece_place pieces) records → records ≡ map record_of pieces
  same_at [] records are at = at
  same_at (p ∷ pieces) records are (r, others, is, (time, found, within), rest) =
      let here = are 0 p (omega arith) in
      is ∙ (ap (λ (q : Record). q ∷ others) (same_one p.place.kind p r here.alone here.time here.placed found)
      ∙ ap (λ (l : List Record). p.found ∷ l) (same_at pieces others (λ k d w. are (suc k) d (omega (arith, w))) rest))

-- ---- there are bytes of which these are the records

abbrev records_with : Option PerfError → List Record → Records
records_with error records = record { records = records; error = error }

of_none : (index : ProfileIndex) (pieces : List Piece) → IsIndexOf None index pieces → AreRecordsOf None index (map record_of pieces)
of_none index pieces is =
    let kept = kept_of index.records in
    let (rest, ends, left) = is.end in
    let by_time = subst (λ (l : List RecordPlace). IsSortedByKey (λ p. p.time) nat_cmp l) (sym is.places) is.by_time in (
      all_bytes pieces ++ rest,
      map record_of pieces,
      (length-append (all_bytes pieces) rest ∙ left, tt),
      all_read None index.walk kept pieces rest is.each ∙ (ap (behind_these (map record_of pieces)) ends ∙ ap (records_with index.error) (append-nil (map record_of pieces))),
      record { by_time = in_time None index.walk kept pieces is.each by_time; stable = λ x. refl },
    )

of_known : (file : List ℕ) (index : ProfileIndex) (pieces : List Piece) → IsIndexOf (Some file) index pieces → AreRecordsOf (Some file) index (map record_of pieces)
of_known file index pieces is =
    let (records, reads, long, (sorted, at, order)) = is.file in
    let same = same_at file index.walk (kept_of index.records) pieces sorted is.each (subst (λ (l : List RecordPlace). AreAt index.walk (records_bytes index.walk file) (kept_of index.records) l sorted) (sym is.places) at) in
    (records_bytes index.walk file, records, (long, refl), reads, subst (λ (l : List Record). IsInTimeOrder records l) same order)

pub records_of_index : (known : Option (List ℕ)) (index : ProfileIndex) (pieces : List Piece) → IsIndexOf known index pieces → AreRecordsOf known index (map record_of pieces)
records_of_index None index pieces is = of_none index pieces is
records_of_index (Some file) index pieces is = of_known file index pieces is

-- ---- a record that was read again

module _ (known : Option (List ℕ)) (index : ProfileIndex) where
  abbrev kept : List ℕ
  kept = kept_of index.records

  -- at the end there is as much as before
  still_whole : (pieces : List Piece) (i : ℕ) (new d : Piece) → i < length pieces → length new.bytes ≡ length (get_or pieces i d).bytes
      → (rest : List ℕ) × (records_in index.walk rest ≡ no_records index.error) × (length (all_bytes pieces) + length rest ≡ record_bytes_left index.walk)
      → (rest : List ℕ) × (records_in index.walk rest ≡ no_records index.error) × (length (all_bytes (set pieces i new)) + length rest ≡ record_bytes_left index.walk)
  still_whole pieces i new d inside same (rest, ends, left) = (rest, ends, omega (arith, left, set_bytes pieces i new d inside same))

  other_kernel : (pieces : List Piece) (i : ℕ) (new : Piece) (first : ℕ) → i < length pieces → (get_or pieces i new).place ≡ new.place → IsKernelFit (Some first) new.place.offset new.found.event → new.place.kind ≡ InFile
      → IsKernelAt (Some first) pieces → IsKernelAt (Some first) (set pieces i new)
  other_kernel pieces i new first inside same fit kind (piece, (k, within, at), in_file, offset, has) =
      ⊎_elim
      (λ (here : k ≡ i).
      let is : get_or pieces i new ≡ piece = ap (λ (n : ℕ). get_or pieces n new) (sym here) ∙ (get_or_default pieces k new piece within ∙ at) in
      let offset_too : new.place.offset ≡ first = ap (λ (p : RecordPlace). p.offset) (sym same ∙ ap (λ (p : Piece). p.place) is) ∙ offset in
      (new, (i, rw (length-set pieces i new) inside, get_or-set_same pieces i new new inside), kind, offset_too, fit offset_too))
      (λ (there : k ≡ i → ⊥).
      (piece, (k, rw (length-set pieces i new) within, get_or-set_other pieces i k new piece there ∙ at), in_file, offset, has))
      (cases_eq k i)

  still_kernel : (kernel : Option ℕ) (pieces : List Piece) (i : ℕ) (new : Piece) → i < length pieces → (get_or pieces i new).place ≡ new.place → IsKernelFit kernel new.place.offset new.found.event → new.place.kind ≡ InFile
      → IsKernelAt kernel pieces → IsKernelAt kernel (set pieces i new)
  still_kernel None pieces i new inside same fit kind at = All-set (λ (piece : Piece). has_kernel_frames piece.found.event ≡ false) pieces i new fit at
  still_kernel (Some first) pieces i new inside same fit kind at = other_kernel pieces i new first inside same fit kind at

  replaced : (pieces : List Piece) (i : ℕ) (new : Piece) → IsIndexOf known index pieces → i < length pieces → (get_or pieces i new).place ≡ new.place → IsPieceOf known index.walk kept new
      → length new.bytes ≡ length (get_or pieces i new).bytes → IsKernelFit index.kernel new.place.offset new.found.event → new.place.kind ≡ InFile → IsIndexOf known index (set pieces i new)
  replaced pieces i new is inside same piece long fit kind = record {
    places = map_set_same piece_place pieces i new new inside (sym same) ∙ is.places;
    each = All-set (IsPieceOf known index.walk kept) pieces i new piece is.each;
    kernel = still_kernel index.kernel pieces i new inside same fit kind is.kernel;
    by_time = is.by_time;
    end = still_whole pieces i new new inside long is.end;
    file = is.file;
  }

  abbrev pub IsNext : List Piece → ℕ → Record → Type 0
  IsNext pieces i r =
      (pieces' : List Piece) × IsIndexOf known index pieces' × (take i (map record_of pieces') ≡ take i (map record_of pieces))
      × (take (i + 1) (map record_of pieces') ≡ take i (map record_of pieces) ++ r ∷ [])

  -- up to one more of a list
  one_more : (pieces : List Piece) (i : ℕ) (d : Piece) → i < length pieces → take (i + 1) (map record_of pieces) ≡ take i (map record_of pieces) ++ (get_or pieces i d).found ∷ []
  one_more pieces i d inside =
      ap (λ (n : ℕ). take n (map record_of pieces)) (add-one i) ∙ (take-suc (map record_of pieces) i d.found (rw (length-map pieces record_of) inside)
      ∙ ap (λ (next : Record). take i (map record_of pieces) ++ next ∷ []) (get_or-map record_of pieces i d d.found inside))

  same_next : (pieces : List Piece) (i : ℕ) (d : Piece) (r : Record) → IsIndexOf known index pieces → i < length pieces → (get_or pieces i d).found ≡ r → IsNext pieces i r
  same_next pieces i d r is inside same = (pieces, is, refl, one_more pieces i d inside ∙ ap (λ (next : Record). take i (map record_of pieces) ++ next ∷ []) same)

  next_by : (kind : PlaceKind) (pieces : List Piece) (i : ℕ) (d : Piece) (r : Record) → IsIndexOf known index pieces → i < length pieces → (get_or pieces i d).place.kind ≡ kind
      → IsPlacedIn kind known index.walk kept (get_or pieces i d) → IsReadBy kind known index (get_or pieces i d).place r → IsNext pieces i r
  next_by Kept pieces i d r is inside kind (also, within, other) read =
      same_next pieces i d r is inside (same_found (get_or pieces i d).found r _ _ also read refl)
  next_by Nothing pieces i d r is inside kind none read =
      same_next pieces i d r is inside ((λ j. record { time = sym (is.each i d inside).time j; event = none j }) ∙ sym read)
  next_by InFile pieces i d r is inside kind (long, within, sample, same) (bytes, (size, part), alone, time, sampled, fit) =
      let old : Piece = get_or pieces i d in
      let new : Piece = record { place = old.place; bytes = bytes; found = r } in
      let there : (get_or pieces i new).place ≡ old.place = ap (λ (p : Piece). p.place) (get_or_default pieces i new d inside) in
      let placed : IsPlacedIn InFile known index.walk kept new = (size, within, sampled, of_file known part) in
      let piece : IsPieceOf known index.walk kept new = record { alone = alone; time = sym time; placed = subst (λ (k : PlaceKind). IsPlacedIn k known index.walk kept new) (sym kind) placed } in
      let much : length bytes ≡ length (get_or pieces i new).bytes = size ∙ (sym long ∙ ap (λ (p : Piece). length p.bytes) (sym (get_or_default pieces i new d inside))) in
      let set_now : List Piece = set pieces i new in (
        set_now,
        replaced pieces i new is inside there piece much fit kind,
        ap (take i) (set_map record_of pieces i new) ∙ take_set (map record_of pieces) i r,
        one_more set_now i new (rw (length-set pieces i new) inside)
            ∙ ap (λ (l : List Record). l ++ (get_or set_now i new).found ∷ []) (ap (take i) (set_map record_of pieces i new) ∙ take_set (map record_of pieces) i r)
            ∙ ap (λ (p : Piece). take i (map record_of pieces) ++ p.found ∷ []) (get_or-set_same pieces i new new inside),
      )
    where
      of_file : (known : Option (List ℕ)) → IfSome known (λ file. (get_or pieces i d).place.offset + (get_or pieces i d).place.size ≤ record_bytes_left index.walk → record_bytes (get_or pieces i d).place (records_bytes index.walk file) ≡ bytes)
          → IfSome known (λ file. record_bytes (get_or pieces i d).place (records_bytes index.walk file) ≡ bytes)
      of_file None part = tt
      of_file (Some file) part = part within

  pub next_piece : (pieces : List Piece) (i : ℕ) (place : RecordPlace) (r : Record) → IsIndexOf known index pieces → i < length (places_of index.records) → place ≡ get_or (places_of index.records) i place → IsReadAt known index place r → IsNext pieces i r
  next_piece pieces i place r is inside at read =
      let d : Piece = record { place = place; bytes = []; found = r } in
      let within : i < length pieces = omega (arith, inside, ap length is.places, length-map pieces piece_place) in
      let here : (get_or pieces i d).place ≡ place = sym (get_or-map piece_place pieces i d place within) ∙ (ap (λ (l : List RecordPlace). get_or l i place) is.places ∙ sym at) in
      let piece = is.each i d within in
      next_by (get_or pieces i d).place.kind pieces i d r is within refl piece.placed (subst (λ (p : RecordPlace). IsReadAt known index p r) (sym here) read)
