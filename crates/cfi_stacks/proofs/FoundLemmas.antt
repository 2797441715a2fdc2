-- The records of a profile as they are found by windows, one after the other.
use Rattle.std.proofs.Common.{◌≡◌, ◌∙◌, ◌⊎◌, ◌<◌, ◌≤◌, ◌+◌, ◌-◌, ℕ, Bool, true, false, List, [], ◌∷◌, ◌++◌, Option, Some, None, Result, Ok, Err, IfSome, length, take, drop, map, min, replicate, refl, sym, ap, subst, append_assoc, append-nil, length-append, arith, ⊎_elim, inl, inr}
use Rattle.std.specs.Result.{is_err}
use Rattle.std.specs.Prelude.{IfOk, OnOk, option_map, slice_range, nat_le, if◌then◌else◌}
use Rattle.std.specs.List.{All, Contains}
use Rattle.std.proofs.Math.Seq.{drop-append-add, take-length}
use Rattle.std.proofs.lemmas.Bool.{cases_lt}
use Rattle.std.proofs.lemmas.List.{drop-append-le, drop-drop, drop-take, drop_all, length-drop, length-replicate, length-take, map-append, take-append-drop, take-append-le, take-take, drop_at}
use Rattle.std.proofs.lemmas.List.Elements.{All-append, All-cons, All-nil, Contains-append_left, Contains-append_right}
use Rattle.std.proofs.lemmas.Grind.{flat_map-append}
use Rattle.cfi_object.specs.FileInputs.{IsPartRead}
use Rattle.cfi_perf.specs.declared.error.PerfError.{PerfError}
use Rattle.cfi_perf.specs.declared.index.PlaceKind.{PlaceKind}
use Rattle.cfi_perf.specs.declared.index.PlaceKind.TheVariants.{InFile, Kept, Nothing}
use Rattle.cfi_perf.specs.declared.index.RecordIndex.{RecordIndex as RecordIndexOfCode}
use Rattle.cfi_perf.specs.declared.index.RecordPlace.{RecordPlace}
use Rattle.cfi_perf.specs.declared.record.Record.{Record as RecordOfCode}
use Rattle.cfi_perf.specs.declared.windows.RecordWalk.{RecordWalk}
use Rattle.cfi_perf.specs.Events.{record_view, Event, OtherEvent, Record, SampleEvent, MappingEvent, ProgramEvent, ForkEvent, LostEvent}
use Rattle.cfi_read_core.specs.ReaderCalls.{map_ok}
use Rattle.cfi_perf.specs.Indexes.{AreAt, AreIndexed, IsOfBytes, kept_bytes, kept_of, offset_for, place_for, places_of}
use Rattle.cfi_perf.specs.Indexes.{place_kind}
use Rattle.cfi_perf.specs.Recordings.{is_sample}
use Rattle.cfi_perf.specs.Records.{Records, no_records}
use Rattle.cfi_perf.specs.Records.{IsNextRecord}
use Rattle.cfi_perf.specs.Windows.{IsAlone, record_alone, records_in}
use Rattle.cfi_perf.specs.Windows.{ReadsOn, PassesWithin, record_bytes_left, bytes_passed, next_place}
use Rattle.cfi_perf.proofs.WindowSteps.{front_range}
use Rattle.cfi_mapped.specs.WantedFiles.{has_kernel_frames}
use Rattle.cfi_stacks.specs.declared.profile_index.ProfileIndex.{ProfileIndex}
use Rattle.cfi_stacks.specs.declared.profile_index.Tally.{Tally}
use Rattle.cfi_stacks.specs.ProfileIndexes.{HasRecords, IsFoundOf, IsKernelAt, IsNextIn, IsPieceOf, IsPlacedIn, IsRecordsPart, IsTallyOf, IsWindowIn, Piece, all_bytes, kernel_after, piece_place, record_of, records_bytes}

-- ---- parts of lists

-- a part of a part
inner_range : (l : List ℕ) (p n a size : ℕ) → a + size ≤ n → slice_range (slice_range l p (p + n)) a (a + size) ≡ slice_range l (p + a) ((p + a) + size)
inner_range l p n a size within =
    let whole : (p + n) - p ≡ a + (n - a) = omega (arith, within) in
    let count : (a + size) - a ≡ size = omega arith in
    let same : ((p + a) + size) - (p + a) ≡ size = omega arith in
    ap (λ (k : ℕ). take k (drop a (take ((p + n) - p) (drop p l)))) count
    ∙ (ap (λ (k : ℕ). take size (drop a (take k (drop p l)))) whole
    ∙ (ap (take size) (drop-take a (n - a) (drop p l))
    ∙ (take-take size (n - a) (drop a (drop p l)) (omega (arith, within))
    ∙ (ap (take size) (drop-drop a p l)
    ∙ ap (λ (k : ℕ). take k (drop (p + a) l)) (sym same)))))

-- behind the first
behind_range : (front rest : List ℕ) (a size : ℕ) → a ≡ length front → slice_range (front ++ rest) a (a + size) ≡ take size rest
behind_range front rest a size at =
    let count : (a + size) - a ≡ size = omega arith in
    ap (λ (k : ℕ). take k (drop a (front ++ rest))) count ∙ ap (take size) (drop_at front rest a (sym at))

-- ---- what a call gave

pub if_ok : {X E : Type 0} (r : Result X E) (P Q : X → Type 0) → ((x : X) → P x → Q x) → IfOk r P → IfOk r Q
if_ok (Ok x) P Q to is = to x is
if_ok (Err e) P Q to is = tt

pub when_ok : {X E : Type 0} (r : Result X E) (P : Type 0) → is_err r ≡ false → OnOk r P → P
when_ok (Ok x) P is so = so
when_ok (Err e) P is so = absurd (cc)

abbrev given : Option RecordOfCode → Result (Option RecordOfCode) PerfError
given o = Ok o

abbrev gave : Option RecordOfCode → Result (Option Record) PerfError
gave o = map_ok (option_map record_view) (given o)

module _ (o : Option RecordOfCode) (item : RecordOfCode) (is : o ≡ Some item) where
  pub alone_of : (walk : RecordWalk) (bytes : List ℕ) → IsAlone walk bytes (gave o) → record_alone walk bytes ≡ Ok (record_view item)
  alone_of walk bytes alone = subst (λ (o : Option RecordOfCode). IsAlone walk bytes (gave o)) is alone

  pub within_of : (count many : ℕ) → PassesWithin count many (gave o) → ((record_view item).event ≡ OtherEvent) ⊎ (count ≤ many)
  within_of count many within = subst (λ (o : Option RecordOfCode). PassesWithin count many (gave o)) is within

  pub walk_of : (old new : RecordWalk) → ReadsOn old new (gave o) → (bytes : List ℕ) → records_in new bytes ≡ records_in old bytes
  walk_of old new same = subst (λ (o : Option RecordOfCode). ReadsOn old new (gave o)) is same

pub none_of : (o : Option RecordOfCode) (old new : Records) (error : Option PerfError) → o ≡ None → error ≡ None → IsNextRecord (gave o) old new → old ≡ no_records error
none_of o old new error is none meets =
    let met = subst (λ (o : Option RecordOfCode). IsNextRecord (gave o) old new) is meets in
    met.0 ∙ ap no_records (sym none)

-- ---- a part that was read

read_if : (b : Bool) (x bytes : List ℕ) → ◌≡◌ {A = Option (List ℕ)} (if b then Some x else None) (Some bytes) → x ≡ bytes
read_if true x bytes is = cc
read_if false x bytes is = absurd (cc)

pub part_of : (known : Option (List ℕ)) (walk : RecordWalk) (offset size place : ℕ) (bytes : List ℕ) → place ≡ next_place walk + offset → IsPartRead known place size bytes → IsRecordsPart known walk offset size bytes
part_of None walk offset size place bytes at (long, read) = (long, tt)
part_of (Some file) walk offset size place bytes at (long, read) = (
  long,
  λ within.
      inner_range file (next_place walk) (record_bytes_left walk) offset size within
      ∙ (ap (λ (p : ℕ). slice_range file p (p + size)) (sym at) ∙ read_if (nat_le (place + size) (length file)) (slice_range file place (place + size)) bytes read),
)

-- ---- before the first

none_at : (walk : RecordWalk) (all kept : List ℕ) (places : List RecordPlace) → AreAt walk all kept places [] → places ≡ []
none_at walk all kept [] at = refl
none_at walk all kept (place ∷ places) (r, others, is, at, rest) = absurd (cc)

module _ (index : ProfileIndex) (indexed : (walk : RecordWalk) (all : List ℕ) → AreIndexed walk all index.records []) (kernel : index.kernel ≡ None) (error : index.error ≡ None) (tally : IsTallyOf index.tally []) where
  pub none_found : (known : Option (List ℕ)) → IsFoundOf known index index.walk []
  none_found known = record {
    places = sym (none_at index.walk [] (kept_of index.records) (places_of index.records) (indexed index.walk []));
    each = All-nil (IsPieceOf known index.walk (kept_of index.records));
    kernel = subst (λ (k : Option ℕ). IsKernelAt k []) (sym kernel) (All-nil (λ (piece : Piece). has_kernel_frames piece.found.event ≡ false));
    tally = tally;
    no_error = error;
    left = omega arith;
    walk_on = λ bytes. refl;
    alone = λ bytes. refl;
    indexed = of_file known;
  }
    where
      of_file : (known : Option (List ℕ)) → IfSome known (λ file. AreIndexed index.walk (records_bytes index.walk file) index.records [])
      of_file None = tt
      of_file (Some file) = indexed index.walk (records_bytes index.walk file)

-- ---- the others are as they were, where more is kept

module _ (known : Option (List ℕ)) (walk : RecordWalk) (kept more : List ℕ) where
  still_placed : (kind : PlaceKind) (p : Piece) → IsPlacedIn kind known walk kept p → IsPlacedIn kind known walk (kept ++ more) p
  still_placed InFile p placed = placed
  still_placed Kept p (alone, within, other) = (
    ap (record_alone walk) (front_range kept more p.place.offset (p.place.offset + p.place.size) within (omega arith)) ∙ alone,
    omega (arith, within, length-append kept more),
    other,
  )
  still_placed Nothing p placed = placed

  still_piece : (p : Piece) → IsPieceOf known walk kept p → IsPieceOf known walk (kept ++ more) p
  still_piece p is = record { alone = is.alone; time = is.time; placed = still_placed p.place.kind p is.placed }

  still_pieces : (pieces : List Piece) → All (IsPieceOf known walk kept) pieces → All (IsPieceOf known walk (kept ++ more)) pieces
  still_pieces pieces are = λ k d inside. still_piece _ (are k d inside)

-- ---- one more piece

abbrev pub piece_for : Record → ℕ → ℕ → ℕ → List ℕ → Piece
piece_for r offset size count bytes = record { place = place_for r offset size count; bytes = bytes; found = r }

seam : (kept bytes : List ℕ) → slice_range (kept ++ bytes) (length kept) (length kept + length bytes) ≡ bytes
seam kept bytes = behind_range kept bytes (length kept) (length bytes) refl ∙ take-length bytes

abbrev IsTold : Event → List ℕ → List ℕ → Type 0
IsTold event own bytes = (event ≡ OtherEvent) ⊎ (own ≡ bytes)

own_of : (event : Event) (own bytes : List ℕ) → IsTold event own bytes → (event ≡ OtherEvent → ⊥) → own ≡ bytes
own_of event own bytes told some = ⊎_elim (λ (none : event ≡ OtherEvent). absurd (some none)) (λ (same : own ≡ bytes). same) told

module _ (known : Option (List ℕ)) (walk : RecordWalk) (kept own bytes : List ℕ) (time offset : ℕ) where
  abbrev timed : Event → Record
  timed event = record { time = time; event = event }

  abbrev IsThere : Type 0
  IsThere = IfSome known (λ file. slice_range (records_bytes walk file) offset (offset + length own) ≡ own)

  at_kept : (event : Event) → own ≡ bytes → record_alone walk bytes ≡ Ok (timed event) → is_sample event ≡ false →
      IsPlacedIn Kept known walk (kept ++ own) (record { place = record { time = time; offset = length kept; size = length own; kind = Kept }; bytes = bytes; found = timed event })
  at_kept event same alone other = (ap (record_alone walk) (seam kept own ∙ same) ∙ alone, omega (arith, length-append kept own), other)

  in_known : own ≡ bytes → (known : Option (List ℕ)) → IfSome known (λ file. slice_range (records_bytes walk file) offset (offset + length own) ≡ own)
      → IfSome known (λ file. slice_range (records_bytes walk file) offset (offset + length own) ≡ bytes)
  in_known same None there = tt
  in_known same (Some file) there = there ∙ same

  in_file : (event : Event) → own ≡ bytes → offset + length own ≤ record_bytes_left walk → IsThere → is_sample event ≡ true →
      IsPlacedIn InFile known walk (kept ++ []) (record { place = record { time = time; offset = offset; size = length own; kind = InFile }; bytes = bytes; found = timed event })
  in_file event same within there sampled = (ap length (sym same), within, sampled, in_known same known there)

  placed_in : (event : Event) → IsTold event own bytes → record_alone walk bytes ≡ Ok (timed event) → offset + length own ≤ record_bytes_left walk → IsThere →
      IsPlacedIn (place_kind event) known walk (kept ++ kept_bytes event own) (piece_for (timed event) offset (length own) (length kept) bytes)
  placed_in (MappingEvent m) told alone within there = at_kept (MappingEvent m) (own_of (MappingEvent m) own bytes told (λ none. absurd (cc))) alone refl
  placed_in (ProgramEvent p) told alone within there = at_kept (ProgramEvent p) (own_of (ProgramEvent p) own bytes told (λ none. absurd (cc))) alone refl
  placed_in (ForkEvent f) told alone within there = at_kept (ForkEvent f) (own_of (ForkEvent f) own bytes told (λ none. absurd (cc))) alone refl
  placed_in (SampleEvent s) told alone within there = in_file (SampleEvent s) (own_of (SampleEvent s) own bytes told (λ none. absurd (cc))) within there refl
  placed_in (LostEvent l) told alone within there = at_kept (LostEvent l) (own_of (LostEvent l) own bytes told (λ none. absurd (cc))) alone refl
  placed_in OtherEvent told alone within there = refl

  new_piece : (event : Event) → IsTold event own bytes → record_alone walk bytes ≡ Ok (timed event) → offset + length own ≤ record_bytes_left walk → IsThere →
      IsPieceOf known walk (kept ++ kept_bytes event own) (piece_for (timed event) offset (length own) (length kept) bytes)
  new_piece event told alone within there = record { alone = alone; time = refl; placed = placed_in event told alone within there }

-- ---- the first with frames of the kernel

kernel_in_file : (event : Event) (offset count : ℕ) → has_kernel_frames event ≡ true → (place_kind event ≡ InFile) × (offset_for (place_kind event) offset count ≡ offset)
kernel_in_file (MappingEvent m) offset count has = absurd (cc)
kernel_in_file (ProgramEvent p) offset count has = absurd (cc)
kernel_in_file (ForkEvent f) offset count has = absurd (cc)
kernel_in_file (SampleEvent s) offset count has = (refl, refl)
kernel_in_file (LostEvent l) offset count has = absurd (cc)
kernel_in_file OtherEvent offset count has = absurd (cc)

last_of : {X : Type 0} (xs : List X) (x : X) → Contains (xs ++ x ∷ []) x
last_of xs x = Contains-append_right xs (x ∷ []) x (0, omega arith, refl)

module _ (pieces : List Piece) (r : Record) (offset size count : ℕ) (bytes : List ℕ) where
  abbrev one_more : List Piece
  one_more = pieces ++ piece_for r offset size count bytes ∷ []

  kernel_if : (b : Bool) → has_kernel_frames r.event ≡ b → IsKernelAt None pieces → IsKernelAt (if b then Some offset else None) one_more
  kernel_if true has none =
      let at = kernel_in_file r.event offset count has in
      (piece_for r offset size count bytes, last_of pieces (piece_for r offset size count bytes), at.0, at.1, has)
  kernel_if false has none =
      let Lacks : Piece → Type 0 = λ piece. has_kernel_frames piece.found.event ≡ false in
      All-append Lacks pieces (piece_for r offset size count bytes ∷ []) none (All-cons Lacks (piece_for r offset size count bytes) [] has (All-nil Lacks))

  kernel_added : (kernel : Option ℕ) → IsKernelAt kernel pieces → IsKernelAt (kernel_after kernel offset r.event) one_more
  kernel_added None at = kernel_if (has_kernel_frames r.event) refl at
  kernel_added (Some first) (piece, inside, kind, place, has) = (piece, Contains-append_left pieces (piece_for r offset size count bytes ∷ []) piece inside, kind, place, has)

-- ---- what is behind a window

module _ (index : ProfileIndex) (walk : RecordWalk) (pieces : List Piece) (window : List ℕ) where
  abbrev AreBehind : Option (List ℕ) → List ℕ → Type 0
  AreBehind known others = IfSome known (λ file. records_bytes index.walk file ≡ all_bytes pieces ++ (window ++ others))

  pub others_of : (known : Option (List ℕ)) → HasRecords known index.walk → IsFoundOf known index walk pieces → IsWindowIn known index walk pieces window
      → (others : List ℕ) × (length window + length others ≡ record_bytes_left walk) × AreBehind known others
  others_of None has found (fits, none) = (replicate (record_bytes_left walk - length window) 0, omega (arith, fits, length-replicate {A = ℕ} (record_bytes_left walk - length window) 0), tt)
  others_of (Some file) has found (fits, (behind, is)) =
      (behind, omega (arith, has, found.left, ap length is, length-append (all_bytes pieces) (window ++ behind), length-append window behind), is)

-- ---- one more record

module _ (known : Option (List ℕ)) (old new : ProfileIndex) (walk walk' : RecordWalk) (pieces : List Piece) (window others : List ℕ) (r : Record) (place_now size : ℕ) where
  abbrev count : ℕ
  count = bytes_passed walk walk'

  abbrev whole : List ℕ
  whole = window ++ others

  abbrev own : List ℕ
  own = take size window

  abbrev added : Piece
  added = piece_for r place_now (length own) (length (kept_of old.records)) (take count whole)

  abbrev now : List Piece
  now = pieces ++ added ∷ []

  module _ (is_place : place_now ≡ record_bytes_left old.walk - record_bytes_left walk) (is_size : size ≡ min count (length window)) (all : length window + length others ≡ record_bytes_left walk) (fewer : record_bytes_left walk' ≤ record_bytes_left walk) where
    -- the record's own bytes, and what it says of them
    own_length : length own ≡ size
    own_length = omega (arith, is_size, length-take size window)

    whole_length : length (take count whole) ≡ count
    whole_length = omega (arith, all, fewer, length-take count whole, length-append window others)

    told : (r.event ≡ OtherEvent) ⊎ (count ≤ length window) → IsTold r.event own (take count whole)
    told within =
        ⊎_elim (λ (none : r.event ≡ OtherEvent). inl none)
        (λ (fits : count ≤ length window).
        let few : size ≡ count = omega (arith, is_size, fits) in
        inr (ap (λ (k : ℕ). take k window) few ∙ sym (take-append-le count window others fits)))
        within

    in_front : own ≡ take size whole
    in_front = sym (take-append-le size window others (omega (arith, is_size)))

    module _ (found : IsFoundOf known old walk pieces) where
      at_end : place_now ≡ length (all_bytes pieces)
      at_end = omega (arith, found.left, is_place)

      is_there : (known : Option (List ℕ)) → AreBehind old walk pieces window known others → IfSome known (λ file. slice_range (records_bytes old.walk file) place_now (place_now + length own) ≡ own)
      is_there None is = tt
      is_there (Some file) is =
          ap (λ (l : List ℕ). slice_range l place_now (place_now + length own)) is
          ∙ (behind_range (all_bytes pieces) whole place_now (length own) at_end
          ∙ (ap (λ (k : ℕ). take k whole) own_length ∙ sym in_front))

      within_all : place_now + length own ≤ record_bytes_left old.walk
      within_all = omega (arith, found.left, is_place, own_length, is_size, fewer, all)

      bytes_now : all_bytes now ≡ all_bytes pieces ++ take count whole
      bytes_now = flat_map-append (λ (p : Piece). p.bytes) pieces (added ∷ []) ∙ ap (λ (l : List ℕ). all_bytes pieces ++ l) (append-nil (take count whole))

      left_now : length (all_bytes now) + record_bytes_left walk' ≡ record_bytes_left old.walk
      left_now = omega (arith, found.left, ap length bytes_now, length-append (all_bytes pieces) (take count whole), whole_length, fewer)

      -- what is behind it
      others_now : List ℕ
      others_now = drop (count - length window) others

      drop_whole : drop count whole ≡ drop size window ++ others_now
      unfolding others_now
      drop_whole =
          ⊎_elim
          (λ (past : length window < count).
          let more : count ≡ length window + (count - length window) = omega (arith, past) in
          let full : size ≡ length window = omega (arith, is_size, past) in
          ap (λ (k : ℕ). drop k whole) more ∙ (drop-append-add window others (count - length window)
          ∙ ap (λ (l : List ℕ). l ++ drop (count - length window) others) (sym (drop_all size window (omega (arith, full))))))
          (λ (fits : count ≤ length window).
          let few : count ≡ size = omega (arith, is_size, fits) in
          let none : 0 ≡ count - length window = omega (arith, fits) in
          drop-append-le count window others fits ∙ (ap (λ (k : ℕ). drop k window ++ others) few ∙ ap (λ (k : ℕ). drop size window ++ drop k others) none))
          (cases_lt (length window) count)

      behind_now : (known : Option (List ℕ)) → AreBehind old walk pieces window known others
          → IfSome known (λ file. (behind : List ℕ) × (records_bytes old.walk file ≡ all_bytes now ++ (drop size window ++ behind)))
      behind_now None is = tt
      behind_now (Some file) is = (
        others_now,
        is ∙ (ap (λ (l : List ℕ). all_bytes pieces ++ l) (sym (take-append-drop count whole) ∙ ap (λ (l : List ℕ). take count whole ++ l) drop_whole)
            ∙ (sym (append_assoc (all_bytes pieces) (take count whole) (drop size window ++ others_now)) ∙ ap (λ (l : List ℕ). l ++ (drop size window ++ others_now)) (sym bytes_now))),
      )

      -- the index has it
      module _ (told_of : (r.event ≡ OtherEvent) ⊎ (count ≤ length window)) (alone : record_alone walk (take count whole) ≡ Ok r) (is : AreBehind old walk pieces window known others)
          (same_walk : new.walk ≡ old.walk) (places : places_of new.records ≡ places_of old.records ++ added.place ∷ []) (kept : kept_of new.records ≡ kept_of old.records ++ kept_bytes r.event own)
          (kernel : new.kernel ≡ kernel_after old.kernel place_now r.event) (error : new.error ≡ old.error) (tally : (records : List Record) → IsTallyOf old.tally records → IsTallyOf new.tally (records ++ r ∷ []))
          (indexed : (walk : RecordWalk) (all : List ℕ) (records : List Record) → AreIndexed walk all old.records records → IsOfBytes walk all r place_now own → AreIndexed walk all new.records (records ++ r ∷ []))
          (walk_on : (bytes : List ℕ) → records_in walk' bytes ≡ records_in walk bytes) (same_alone : (bytes : List ℕ) → record_alone walk' bytes ≡ record_alone walk bytes) where
        alone_now : record_alone old.walk (take count whole) ≡ Ok r
        alone_now = sym (found.alone (take count whole)) ∙ alone

        piece_now : IsPieceOf known old.walk (kept_of old.records ++ kept_bytes r.event own) added
        piece_now = new_piece known old.walk (kept_of old.records) own (take count whole) r.time place_now r.event (told told_of) alone_now within_all (is_there known is)

        pieces_now : All (IsPieceOf known old.walk (kept_of old.records ++ kept_bytes r.event own)) now
        pieces_now =
            let P : Piece → Type 0 = IsPieceOf known old.walk (kept_of old.records ++ kept_bytes r.event own) in
            All-append P pieces (added ∷ []) (still_pieces known old.walk (kept_of old.records) (kept_bytes r.event own) pieces found.each) (All-cons P added [] piece_now (All-nil P))

        of_bytes : (file : List ℕ) → slice_range (records_bytes old.walk file) place_now (place_now + length own) ≡ own → IsOfBytes old.walk (records_bytes old.walk file) r place_now own
        of_bytes file there =
            ⊎_elim (λ (none : r.event ≡ OtherEvent). inl none) (λ (same : own ≡ take count whole). inr (ap (record_alone old.walk) same ∙ alone_now, there)) (told told_of)

        indexed_now : (known : Option (List ℕ)) → AreBehind old walk pieces window known others → IfSome known (λ file. AreIndexed old.walk (records_bytes old.walk file) old.records (map record_of pieces))
            → IfSome known (λ file. AreIndexed old.walk (records_bytes old.walk file) new.records (map record_of now))
        indexed_now None is are = tt
        indexed_now (Some file) is are =
            subst (λ (l : List Record). AreIndexed old.walk (records_bytes old.walk file) new.records l) (sym (map-append record_of pieces (added ∷ [])))
            (indexed old.walk (records_bytes old.walk file) (map record_of pieces) are (of_bytes file (is_there (Some file) is)))

        found_now : IsFoundOf known new walk' now
        found_now = record {
          places = map-append piece_place pieces (added ∷ []) ∙ (ap (λ (l : List RecordPlace). l ++ added.place ∷ []) found.places ∙ sym places);
          each =
              subst (λ (w : RecordWalk). All (IsPieceOf known w (kept_of new.records)) now) (sym same_walk)
              (subst (λ (l : List ℕ). All (IsPieceOf known old.walk l) now) (sym kept) pieces_now);
          kernel = subst (λ (k : Option ℕ). IsKernelAt k now) (sym kernel) (kernel_added pieces r place_now (length own) (length (kept_of old.records)) (take count whole) old.kernel found.kernel);
          tally = subst (λ (l : List Record). IsTallyOf new.tally l) (sym (map-append record_of pieces (added ∷ []))) (tally (map record_of pieces) found.tally);
          no_error = error ∙ found.no_error;
          left = left_now ∙ ap record_bytes_left (sym same_walk);
          walk_on = λ bytes. walk_on bytes ∙ (found.walk_on bytes ∙ ap (λ (w : RecordWalk). records_in w bytes) (sym same_walk));
          alone = λ bytes. same_alone bytes ∙ (found.alone bytes ∙ ap (λ (w : RecordWalk). record_alone w bytes) (sym same_walk));
          indexed = subst (λ (w : RecordWalk). IfSome known (λ file. AreIndexed w (records_bytes w file) new.records (map record_of now))) (sym same_walk) (indexed_now known is found.indexed);
        }

        pub next_found : IsNextIn known new walk' window (Some size)
        next_found = (
          now,
          found_now,
          (
            omega (arith, all, fewer, is_size, length-drop size window),
            subst (λ (w : RecordWalk). IfSome known (λ file. (behind : List ℕ) × (records_bytes w file ≡ all_bytes now ++ (drop size window ++ behind)))) (sym same_walk) (behind_now known is),
          ),
        )

-- ---- no more

module _ (known : Option (List ℕ)) (old new : ProfileIndex) (walk walk' : RecordWalk) (pieces : List Piece) (window others : List ℕ) where
  pub all_found : IsFoundOf known old walk pieces → length window + length others ≡ record_bytes_left walk → AreBehind old walk pieces window known others → new.walk ≡ old.walk → new.records ≡ old.records → new.kernel ≡ old.kernel → new.tally ≡ old.tally
      → records_in walk (window ++ others) ≡ no_records new.error → IsNextIn known new walk' window None
  all_found found all is same_walk records kernel tally ends = (
    pieces,
    window ++ others,
    record {
      places = found.places ∙ ap places_of (sym records);
      each =
          subst (λ (w : RecordWalk). All (IsPieceOf known w (kept_of new.records)) pieces) (sym same_walk)
          (subst (λ (l : RecordIndexOfCode). All (IsPieceOf known old.walk (kept_of l)) pieces) (sym records) found.each);
      kernel = subst (λ (k : Option ℕ). IsKernelAt k pieces) (sym kernel) found.kernel;
      tally = subst (λ (t : Tally). IsTallyOf t (map record_of pieces)) (sym tally) found.tally;
      ends = ap (λ (w : RecordWalk). records_in w (window ++ others)) same_walk ∙ (sym (found.walk_on (window ++ others)) ∙ ends);
      left = omega (arith, all, found.left, length-append window others, ap record_bytes_left same_walk);
      file = in_file_too known is found.indexed;
    },
  )
    where
      in_file_too : (known : Option (List ℕ)) → AreBehind old walk pieces window known others → IfSome known (λ file. AreIndexed old.walk (records_bytes old.walk file) old.records (map record_of pieces))
          → IfSome known (λ file. (records_bytes new.walk file ≡ all_bytes pieces ++ (window ++ others)) × AreIndexed new.walk (records_bytes new.walk file) new.records (map record_of pieces))
      in_file_too None is are = tt
      in_file_too (Some file) is are = (
        ap (λ (w : RecordWalk). records_bytes w file) same_walk ∙ is,
        subst (λ (w : RecordWalk). AreIndexed w (records_bytes w file) new.records (map record_of pieces)) (sym same_walk)
            (subst (λ (l : RecordIndexOfCode). AreIndexed old.walk (records_bytes old.walk file) l (map record_of pieces)) (sym records) are),
      )

-- ---- another window

module _ (index : ProfileIndex) (walk : RecordWalk) (pieces : List Piece) (old window : List ℕ) (offset size : ℕ) where
  pub read_on : (known : Option (List ℕ)) → IsFoundOf known index walk pieces → IsWindowIn known index walk pieces old → offset ≡ record_bytes_left index.walk - record_bytes_left walk → size ≤ record_bytes_left walk
      → IsRecordsPart known index.walk offset size window → IsWindowIn known index walk pieces window
  read_on None found (fits, none) at few (long, part) = (omega (arith, long, few), tt)
  read_on (Some file) found (fits, (behind, is)) at few (long, part) =
      let rest : List ℕ = old ++ behind in
      let inside : offset + size ≤ record_bytes_left index.walk = omega (arith, found.left, at, few) in
      let here : offset ≡ length (all_bytes pieces) = omega (arith, found.left, at) in
      let same : take size rest ≡ window =
      sym (behind_range (all_bytes pieces) rest offset size here) ∙ (ap (λ (l : List ℕ). slice_range l offset (offset + size)) (sym is) ∙ part inside) in
      (omega (arith, long, few), (drop size rest, is ∙ ap (λ (l : List ℕ). all_bytes pieces ++ l) (sym (take-append-drop size rest) ∙ ap (λ (l : List ℕ). l ++ drop size rest) same)))

-- before the first one
pub no_window : (known : Option (List ℕ)) (index : ProfileIndex) (walk : RecordWalk) → IsWindowIn known index walk [] []
no_window None index walk = (omega arith, tt)
no_window (Some file) index walk = (omega arith, (records_bytes index.walk file, refl))

-- the rest of a window
pub step_on : (known : Option (List ℕ)) (new : ProfileIndex) (walk' : RecordWalk) (items part : List ℕ) (from size : ℕ) → part ≡ drop from items → IsNextIn known new walk' part (Some size)
    → (pieces : List Piece) × IsFoundOf known new walk' pieces × IsWindowIn known new walk' pieces (drop (from + size) items)
step_on known new walk' items part from size same (pieces, found, window) =
    (pieces, found, subst (λ (l : List ℕ). IsWindowIn known new walk' pieces l) (ap (drop size) same ∙ drop-drop size from items) window)
