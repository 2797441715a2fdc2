-- The name of an event after those of others, and the event of an id, step by step.
use Rattle.std.proofs.Common.{◌≡◌, ◌<◌, ◌≤◌, ◌+◌, ◌-◌, ◌/◌, ℕ, Bool, true, false, ◌∷◌, List, Option, Some, Ok, Err, length, sym, ap, ◌∙◌, arith, map}
use Rattle.std.specs.Prelude.{◌==◌, ◌||◌, if◌then◌else◌}
use Rattle.std.specs.List.{list_any}
use Rattle.std.specs.Int.{w64}
use Rattle.std.proofs.lemmas.Bool.{eq-eqb, ne_eqb}
use Rattle.cfi_read_core.specs.declared.error.Error.{Error}
use Rattle.cfi_read_core.specs.ReadFunctions.{Read, Source, Position, Outcome, carry_on}
use Rattle.cfi_read_core.specs.Numbers.{unsigned}
use Rattle.cfi_read_core.specs.SliceReaders.{slice_over}
use Rattle.cfi_perf.specs.declared.event_entry.EventEntry.{EventEntry}
use Rattle.cfi_perf.specs.declared.event_table.EventTable.{EventTable as EventTableOfCode}
use Rattle.cfi_read_core.specs.ByteOrder.{is_big}
use Rattle.cfi_perf.specs.ByteReads.{entries}
use Rattle.cfi_perf.specs.EventNames.{after_others}
use Rattle.cfi_perf.specs.EventTables.{EventTable, KnownEvent, ProfileEvent, first_with_id, has_id, known_event, numbered_event, numbers_in, event_table_view}
use Rattle.cfi_perf.specs.FileParts.{SectionBytes, parts_at_hand}
use Rattle.cfi_perf.proofs.EntrySteps.{one_more}

-- ---- what comes after others

pub all_others : {A : Type 0} (count : ℕ) (read : Read A) (source : Source) (place : ℕ) → after_others (count - 0) read source place ≡ after_others count read source place
all_others count read source place = let all : count - 0 ≡ count = omega arith in ap (λ (n : ℕ). after_others n read source place) all

pub other_read : {A : Type 0} (count index : ℕ) (read : Read A) (old new : Position) (x : A) → index < count →
    (read old.source old.place ≡ record { value = Ok x; place = new.place }) × (new.source ≡ old.source) →
    after_others (count - (index + 1)) read new.source new.place ≡ after_others (count - index) read old.source old.place
unfolding after_others
other_read {A = A} count index read old new x below (gives, same) =
    sym (ap (λ (n : ℕ). after_others n read old.source old.place) (one_more count index below)
    ∙ (ap (λ (o : Outcome A). carry_on (λ (x : A). after_others (count - (index + 1)) read) old.source o.value o.place) gives
    ∙ ap (λ (s : Source). after_others (count - (index + 1)) read s new.place) (sym same)))

pub other_refused : {A : Type 0} (count index : ℕ) (read : Read A) (source : Source) (place place' : ℕ) (e : Error) → index < count →
    read source place ≡ record { value = Err e; place = place' } → after_others (count - index) read source place ≡ record { value = Err e; place = place' }
unfolding after_others
other_refused {A = A} count index read source place place' e below gives =
    ap (λ (n : ℕ). after_others n read source place) (one_more count index below)
    ∙ ap (λ (o : Outcome A). carry_on (λ (x : A). after_others (count - (index + 1)) read) source o.value o.place) gives

pub after_all : {A : Type 0} (count index : ℕ) (read : Read A) (source : Source) (place : ℕ) → count ≤ index → after_others (count - index) read source place ≡ read source place
unfolding after_others
after_all count index read source place passed = let none : count - index ≡ 0 = omega arith in ap (λ (n : ℕ). after_others n read source place) none

-- ---- all entries

pub all_entries : {A : Type 0} (count : ℕ) (read : Read A) (made over : Position) → made ≡ over → entries (count - 0) read made.source made.place ≡ entries count read over.source over.place
all_entries count read made over same =
    let all : count - 0 ≡ count = omega arith in
    ap (λ (n : ℕ). entries n read made.source made.place) all ∙ ap (λ (p : Position). entries count read p.source p.place) same

-- ---- whether an id is among numbers

abbrev pub has_number : ℕ → List ℕ → Bool
has_number id numbers = list_any (λ known. known == id) numbers

pub ids_found : (big : Bool) (parts : SectionBytes) (entry : EventEntry) (id : ℕ) (bytes : List ℕ) → Some bytes ≡ parts entry.ids →
    has_number id (entries (length bytes / 8) (unsigned w64) (slice_over bytes big).source 0) ≡ has_id (known_event big parts entry) id
ids_found big parts entry id bytes is = ap (λ (o : Option (List ℕ)). has_number id (numbers_in big o)) is

pub number_here : (id known : ℕ) (others : List ℕ) → known ≡ id → has_number id (known ∷ others) ≡ true
number_here id known others is = ap (λ (b : Bool). b || has_number id others) (eq-eqb known id is)

pub number_later : (id known : ℕ) (others : List ℕ) → (known ≡ id → ⊥) → has_number id (known ∷ others) ≡ has_number id others
number_later id known others other = ap (λ (b : Bool). b || has_number id others) (ne_eqb known id other)

-- ---- the event of an id

-- the first with this id of entries of the code's events
abbrev pub of_entries : EventTableOfCode → ℕ → ℕ → List EventEntry → Option ProfileEvent
of_entries table id index entries = first_with_id (event_table_view table) id index (map (known_event (is_big table.endian) (parts_at_hand table.bytes)) entries)

module _ (table : EventTable) (id index : ℕ) (event : KnownEvent) (others : List KnownEvent) where
  pub event_here : has_id event id ≡ true → first_with_id table id index (event ∷ others) ≡ Some (numbered_event table index event.attribute)
  event_here is = ap (λ (b : Bool). if b then Some (numbered_event table index event.attribute) else first_with_id table id (index + 1) others) is

  pub event_later : has_id event id ≡ false → first_with_id table id index (event ∷ others) ≡ first_with_id table id (index + 1) others
  event_later is = ap (λ (b : Bool). if b then Some (numbered_event table index event.attribute) else first_with_id table id (index + 1) others) is

-- the same of entries, of which the first was read
module _ (table : EventTableOfCode) (id index : ℕ) (left : List EventEntry) (entry : EventEntry) (others : List EventEntry) (is : left ≡ entry ∷ others) where
  pub found_here : has_id (known_event (is_big table.endian) (parts_at_hand table.bytes) entry) id ≡ true → of_entries table id index left ≡ Some (numbered_event (event_table_view table) index entry.attribute)
  found_here has =
      ap (of_entries table id index) is
      ∙ event_here (event_table_view table) id index (known_event (is_big table.endian) (parts_at_hand table.bytes) entry) (map (known_event (is_big table.endian) (parts_at_hand table.bytes)) others) has

  pub found_later : has_id (known_event (is_big table.endian) (parts_at_hand table.bytes) entry) id ≡ false → of_entries table id index left ≡ of_entries table id (index + 1) others
  found_later has =
      ap (of_entries table id index) is
      ∙ event_later (event_table_view table) id index (known_event (is_big table.endian) (parts_at_hand table.bytes) entry) (map (known_event (is_big table.endian) (parts_at_hand table.bytes)) others) has
