-- One more record of an index, whose stack is handed to a visitor or not.
use Rattle.std.proofs.Common.{◌≡◌, ◌∙◌, ℕ, ◌+◌, ◌<◌, ◌≤◌, Bool, true, false, true≢false, List, [], ◌∷◌, ◌++◌, Option, Some, None, Result, Ok, Err, ap, arith, drop, get_or, inl, inr, length, map, nat_eq, refl, subst, sym, take}
use Rattle.std.proofs.lemmas.List.{get_or_default, length-map, take_all, take-append-drop}
use Rattle.std.specs.Prelude.{⊤}
use Rattle.std.specs.List.{FoldsTo}
use Rattle.std.specs.Option.{option_eq}
use Rattle.cfi_text.specs.declared.reading.InputError.{InputError}
use Rattle.cfi_perf.specs.declared.error.PerfError.{PerfError}
use Rattle.cfi_perf.specs.declared.index.RecordPlace.{RecordPlace}
use Rattle.cfi_perf.specs.declared.record.Event.{Event as EventOfCode}
use Rattle.cfi_perf.specs.declared.record.Event.TheVariants as events
use Rattle.cfi_perf.specs.declared.sample.Sample.{Sample as SampleOfCode}
use Rattle.cfi_perf.specs.Events.{Event, Record, ForkEvent, LostEvent, MappingEvent, OtherEvent, ProgramEvent, SampleEvent, event_view}
use Rattle.cfi_perf.specs.Indexes.{places_of}
use Rattle.cfi_perf.specs.Recordings.{is_sample}
use Rattle.cfi_perf.specs.Samples.{Sample}
use Rattle.cfi_processes.specs.declared.registers.SampleMachine.{SampleMachine}
use Rattle.cfi_processes.specs.declared.profile_files.ProfileFile.{ProfileFile}
use Rattle.cfi_processes.specs.KnownFiles.{KnownFile, known_view}
use Rattle.cfi_stacks.specs.declared.profile_index.ProfileIndex.{ProfileIndex}
use Rattle.cfi_stacks.specs.declared.visitor.VisitError.{VisitError}
use Rattle.cfi_stacks.specs.declared.visitor.VisitError.TheVariants.{Input, Profile, Records, UnknownMachine, Visitor}
use Rattle.cfi_stacks.specs.Choices.{Choice}
use Rattle.cfi_stacks.specs.ChosenStacks.{AreStacks, IsSampleStack}
use Rattle.cfi_stacks.specs.KnownSamples.{Known, KnownSample}
use Rattle.cfi_stacks.specs.ProfileIndexes.{HoldsOf, IsIndex, IsIndexOf, IsReadAt, Piece, piece_place, record_of}
use Rattle.cfi_stacks.specs.SampleOutputs.{Stack}
use Rattle.cfi_stacks.specs.TakenSamples.{taken_of}
use Rattle.cfi_stacks.specs.Turns.{IsKnownAfter, IsTurn, is_not_chosen, left_after, sample_record}
use Rattle.cfi_stacks.specs.Visits.{AreVisited, IsVisited, VisitsRecord, VisitsTurn, ended}
use Rattle.cfi_frames.specs.Sequences.{AreOfAll}
use Rattle.cfi_stacks.proofs.ChosenLemmas.{GoesOn, limited_none, none_gone, so_far, so_many, turned}
use Rattle.cfi_stacks.proofs.PieceLemmas.{next_piece}

-- ---- the places of an index

-- up to the last of them
all_of : (known : Option (List ℕ)) (index : ProfileIndex) (pieces : List Piece) (i : ℕ) → IsIndexOf known index pieces → length (places_of index.records) ≤ i → take i (map record_of pieces) ≡ map record_of pieces
all_of known index pieces i is all =
    take_all i (map record_of pieces) (omega (arith, all, length-map pieces record_of, length-map pieces piece_place, ap length is.places))

-- the place that a loop is at
pub place_at : (items : List RecordPlace) (index : ProfileIndex) (i : ℕ) (d : RecordPlace) → items ≡ places_of index.records → i < length items → get_or items i d ≡ get_or (places_of index.records) i (get_or items i d)
place_at items index i d is inside = get_or_default items i d (get_or items i d) inside ∙ ap (λ (l : List RecordPlace). get_or l i (get_or items i d)) is

pub place_inside : (items : List RecordPlace) (index : ProfileIndex) (i : ℕ) → items ≡ places_of index.records → i < length items → i < length (places_of index.records)
place_inside items index i is inside = subst (λ (l : List RecordPlace). i < length l) is inside

pub places_passed : (items : List RecordPlace) (index : ProfileIndex) (i : ℕ) → items ≡ places_of index.records → length items ≤ i → length (places_of index.records) ≤ i
places_passed items index i is passed = subst (λ (l : List RecordPlace). length l ≤ i) is passed

-- ---- another record than a sample

pub no_sample : (e : EventOfCode) → ((s : SampleOfCode) → e ≡ events.Sample s → ⊥) → is_sample (event_view e) ≡ false
no_sample (events.Mapping m) not = refl
no_sample (events.Program p) not = refl
no_sample (events.Fork f) not = refl
no_sample (events.Sample s) not = absurd (not s refl)
no_sample (events.Lost l) not = refl
no_sample events.Other not = refl

-- nothing comes of it
module _ {A : Type 0} (IsOf : KnownSample → List A → Type 0) (files : List KnownFile) (choice : Choice) (before now : Known) (left more : Option ℕ) (same : more ≡ left) where
  other_event : (time : ℕ) (event : Event) → is_sample event ≡ false → IsKnownAfter files event before now → IsTurn IsOf files choice before left (record { time = time; event = event }) now more []
  other_event time (SampleEvent s) none after = absurd (true≢false none)
  other_event time (MappingEvent m) none after = inr (refl, after, same, refl)
  other_event time (ProgramEvent p) none after = inr (refl, after, same, refl)
  other_event time (ForkEvent f) none after = inr (refl, after, same, refl)
  other_event time (LostEvent l) none after = inr (refl, after, same, refl)
  other_event time OtherEvent none after = inr (refl, after, same, refl)

  other_turn : (r : Record) → is_sample r.event ≡ false → IsKnownAfter files r.event before now → IsTurn IsOf files choice before left r now more []
  other_turn r none after = other_event r.time r.event none after

-- that was read at a place
abbrev pub IsOther : List KnownFile → ProfileIndex → RecordPlace → Known → Option ℕ → Known → Option ℕ → Type 0
IsOther files index place before left now more =
    (more ≡ left) × ((known : Option (List ℕ)) → (r : Record) × IsReadAt known index place r × (is_sample r.event ≡ false) × IsKnownAfter files r.event before now)

-- ---- one visit after the other

folds_then : {V : Type 0} (visits : V → Stack → V → Type 0) (first others : List Stack) (old mid new : V) → FoldsTo visits old first mid → FoldsTo visits mid others new → FoldsTo visits old (first ++ others) new
folds_then {V} visits [] others old mid new same more = subst (λ (v : V). FoldsTo visits v others new) (sym same) more
folds_then {V} visits (stack ∷ first) others old mid new (next, visit, rest) more = (next, visit, folds_then visits first others next mid new rest more)

module _ {V E : Type 0} (visits : V → Stack → V → Type 0) (refuses : V → Stack → V → E → Type 0) (with_functions : Bool) (machine : SampleMachine) where
  module _ (files : List KnownFile) (choice : Choice) where
    abbrev Turns : Known → Option ℕ → Record → Known → Option ℕ → List Stack → Type 0
    Turns = IsTurn (IsSampleStack with_functions machine files) files choice

    -- ---- a record

    pub other_visited : (known : Option (List ℕ)) (index : ProfileIndex) (place : RecordPlace) (before now : Known) (left more : Option ℕ) (old : V) → IsOther files index place before left now more
        → VisitsTurn visits refuses with_functions machine files choice known index place before left now old old (Ok more)
    other_visited known index place before now left more old (same, each) =
        let (r, read, none, after) = each known in inr (r, read, ([], other_turn (IsSampleStack with_functions machine files) files choice before now left more same r none after, refl))

    -- a sample that is chosen
    module _ (time : ℕ) (s : Sample) (before now : Known) (left : Option ℕ) where
      abbrev Handed : V → V → Result ⊤ (VisitError E) → Type 0
      Handed old new result = IsVisited visits refuses with_functions machine (taken_of files (record { known = now; time = time; sample = s })) old new result

      pub chosen_visited : (more : Option ℕ) (old new : V) → is_not_chosen choice before time (SampleEvent s) ≡ false → IsKnownAfter files (SampleEvent s) before now → more ≡ left_after left (SampleEvent s)
          → Handed old new (Ok tt) → VisitsRecord visits refuses with_functions machine files choice (sample_record time s) before left now old new (Ok more)
      chosen_visited more old new inside after as_after (stack, is, visit) = (stack ∷ [], inr (inside, after, as_after, (stack ∷ [], [], (stack, is, refl), refl, refl)), (new, visit, refl))

      pub chosen_stopped : (old new : V) (why : VisitError E) → is_not_chosen choice before time (SampleEvent s) ≡ false → IsKnownAfter files (SampleEvent s) before now
          → Handed old new (Err why) → VisitsRecord visits refuses with_functions machine files choice (sample_record time s) before left now old new (Err why)
      chosen_stopped old new (Input why) inside after same = same
      chosen_stopped old new (Visitor why) inside after (stack, is, refused) = (stack, left_after left (SampleEvent s), inr (inside, after, refl, (stack ∷ [], [], (stack, is, refl), refl, refl)), refused)
      chosen_stopped old new (Profile e) inside after none = none
      chosen_stopped old new (Records e) inside after none = none
      chosen_stopped old new UnknownMachine inside after none = none

    -- after the last stack
    by_the_end : (records : List Record) (error : Option PerfError) (old new : V) (stacks : List Stack) → AreStacks with_functions machine files choice records stacks → FoldsTo visits old stacks new
        → AreVisited visits refuses with_functions machine files choice records error old new (ended error)
    by_the_end records None old new stacks are folds = (refl, stacks, are, folds)
    by_the_end records (Some e) old new stacks are folds = (refl, stacks, are, folds)

    -- ---- those so far

    -- with what comes of any further records
    abbrev Followed : List Record → Option ℕ → Known → V → V → Type 0
    Followed first left now old new = (stacks : List Stack) × GoesOn files choice (IsSampleStack with_functions machine files) first left now stacks × FoldsTo visits old stacks new

    module _ (known : Option (List ℕ)) (index : ProfileIndex) where
      -- those of the first of records that may be those of the index
      abbrev pub SoFar : ℕ → Option ℕ → Known → V → V → Type 0
      SoFar i left now old new = (pieces : List Piece) × IsIndexOf known index pieces × Followed (take i (map record_of pieces)) left now old new

      abbrev pub IsDone : V → V → Result ⊤ (VisitError E) → Type 0
      IsDone old new r = HoldsOf known index (λ sorted. AreVisited visits refuses with_functions machine files choice sorted index.error old new r)

      abbrev IsOf : KnownSample → List Stack → Type 0
      IsOf = IsSampleStack with_functions machine files

      pub none_visited : (now : Known) (old : V) → IsIndex known index → ((pid : ℕ) → now.mapped pid ≡ []) → ((tid : ℕ) → now.names tid ≡ None) → SoFar 0 choice.limit now old old
      none_visited now old (pieces, is) nothing nameless = (pieces, is, ([], none_gone files choice IsOf now nothing nameless, refl))

      -- nor is any where the first thing is an error
      pub stopped_first : (old : V) (why : InputError) → IsIndex known index → IsDone old old (Err (Input why))
      stopped_first old why (pieces, is) = (pieces, is, (0, [], subst (λ (samples : List KnownSample). AreOfAll IsOf samples []) (sym (limited_none choice.limit)) refl, refl))

      all_stacks : (first : List Record) (old new : V) (stacks : List Stack) (r : Result ⊤ (VisitError E)) → r ≡ ended index.error → (pieces : List Piece) → IsIndexOf known index pieces → first ≡ map record_of pieces
          → AreStacks with_functions machine files choice first stacks → FoldsTo visits old stacks new → IsDone old new r
      all_stacks first old new stacks r ends pieces is all are folds =
          subst (λ (r : Result ⊤ (VisitError E)). IsDone old new r) (sym ends)
          (pieces, is, by_the_end (map record_of pieces) index.error old new stacks (subst (λ (records : List Record). AreStacks with_functions machine files choice records stacks) all are) folds)

      pub all_visited : (i : ℕ) (left : Option ℕ) (now : Known) (old new : V) (r : Result ⊤ (VisitError E)) → r ≡ ended index.error → length (places_of index.records) ≤ i → SoFar i left now old new → IsDone old new r
      all_visited i left now old new r ends all (pieces, is, (stacks, goes, folds)) =
          all_stacks (take i (map record_of pieces)) old new stacks r ends pieces is (all_of known index pieces i is all) (so_far files choice IsOf (take i (map record_of pieces)) left now stacks goes) folds

      -- no more are wanted
      pub many_visited : (i : ℕ) (left : Option ℕ) (now : Known) (old new : V) (r : Result ⊤ (VisitError E)) → r ≡ ended index.error → option_eq nat_eq left (Some 0) ≡ true → SoFar i left now old new → IsDone old new r
      many_visited i left now old new r ends full (pieces, is, (stacks, goes, folds)) =
          all_stacks (take i (map record_of pieces) ++ drop i (map record_of pieces)) old new stacks r ends pieces is (take-append-drop i (map record_of pieces))
          (so_many files choice IsOf (take i (map record_of pieces)) (drop i (map record_of pieces)) left now stacks full goes) folds

      module _ (i : ℕ) (place : RecordPlace) (left : Option ℕ) (before now : Known) (old mid new : V) (inside : i < length (places_of index.records)) (at : place ≡ get_or (places_of index.records) i place)
          (some : option_eq nat_eq left (Some 0) ≡ false) where
        abbrev Turn : Result (Option ℕ) (VisitError E) → Type 0
        Turn result = VisitsTurn visits refuses with_functions machine files choice known index place before left now mid new result

        pub after_turn : (more : Option ℕ) → SoFar i left before old mid → Turn (Ok more) → SoFar (i + 1) more now old new
        after_turn more so (inl (why, is, same)) = absurd (cc)
        after_turn more (pieces, is, followed) (inr (r, read, (stacks, turn, folds))) =
            let (others, are, same, next) = next_piece known index pieces i place r is inside at read in
            let (front, goes, before_it) = subst (λ (l : List Record). Followed l left before old mid) (sym same) followed in
            let is_next : take (i + 1) (map record_of others) ≡ take i (map record_of others) ++ r ∷ [] = next ∙ ap (λ (l : List Record). l ++ r ∷ []) (sym same) in
            (others, are, (front ++ stacks, turned files choice IsOf (take i (map record_of others)) (take (i + 1) (map record_of others)) r left more before now front stacks is_next some goes turn, folds_then visits front stacks old mid new before_it folds))

        -- the visitor has what it had
        same_visitor : (why : InputError) → Turn (Err (Input why)) → new ≡ mid
        same_visitor why (inl (also, is, same)) = same
        same_visitor why (inr (r, read, same)) = same

        pub stopped_turn : (why : VisitError E) → SoFar i left before old mid → Turn (Err why) → IsDone old new (Err why)
        stopped_turn (Input why) (pieces, is, (stacks, goes, folds)) turn =
            (pieces, is, (i, stacks, so_far files choice IsOf (take i (map record_of pieces)) left before stacks goes, subst (λ (v : V). FoldsTo visits old stacks v) (sym (same_visitor why turn)) folds))
        stopped_turn (Profile e) so (inl (also, is, same)) = absurd (cc)
        stopped_turn (Profile e) so (inr (r, read, none)) = absurd none
        stopped_turn (Records e) so (inl (also, is, same)) = absurd (cc)
        stopped_turn (Records e) so (inr (r, read, none)) = absurd none
        stopped_turn UnknownMachine so (inl (also, is, same)) = absurd (cc)
        stopped_turn UnknownMachine so (inr (r, read, none)) = absurd none
        stopped_turn (Visitor why) so (inl (also, is, same)) = absurd (cc)
        stopped_turn (Visitor why) (pieces, is, followed) (inr (r, read, (stack, more, turn, refused))) =
            let (others, are, same, next) = next_piece known index pieces i place r is inside at read in
            let (front, goes, before_it) = subst (λ (l : List Record). Followed l left before old mid) (sym same) followed in
            let is_next : take (i + 1) (map record_of others) ≡ take i (map record_of others) ++ r ∷ [] = next ∙ ap (λ (l : List Record). l ++ r ∷ []) (sym same) in
            let all = turned files choice IsOf (take i (map record_of others)) (take (i + 1) (map record_of others)) r left more before now front (stack ∷ []) is_next some goes turn in
            (others, are, (i + 1, front, stack, mid, so_far files choice IsOf (take (i + 1) (map record_of others)) more now (front ++ stack ∷ []) all, before_it, refused))

  -- by the files and the bytes that the loop began with
  pub turn_of : (choice : Choice) (index : ProfileIndex) (place : RecordPlace) (before now : Known) (left : Option ℕ) (mid new : V) (loaded files : List ProfileFile) (k known : Option (List ℕ)) (result : Result (Option ℕ) (VisitError E)) → loaded ≡ files → k ≡ known
      → VisitsTurn visits refuses with_functions machine (map known_view loaded) choice k index place before left now mid new result → VisitsTurn visits refuses with_functions machine (map known_view files) choice known index place before left now mid new result
  turn_of choice index place before now left mid new loaded files k known result same is turn =
      subst (λ (k : Option (List ℕ)). VisitsTurn visits refuses with_functions machine (map known_view files) choice k index place before left now mid new result) is
      (subst (λ (files : List ProfileFile). VisitsTurn visits refuses with_functions machine (map known_view files) choice k index place before left now mid new result) same turn)

  -- a sample, by the files
  pub sample_of : (of : KnownSample) (old new : V) (loaded files : List ProfileFile) (r : Result ⊤ (VisitError E)) → loaded ≡ files
      → IsVisited visits refuses with_functions machine (taken_of (map known_view loaded) of) old new r → IsVisited visits refuses with_functions machine (taken_of (map known_view files) of) old new r
  sample_of of old new loaded files r same visited =
      subst (λ (files : List ProfileFile). IsVisited visits refuses with_functions machine (taken_of (map known_view files) of) old new r) same visited
