-- The entries of a table, when the first of them is read.
use Rattle.std.proofs.Common.{◌≡◌, ◌<◌, ◌≤◌, ◌+◌, ◌-◌, ℕ, zero, suc, Bool, true, false, [], ◌∷◌, List, Result, Ok, Err, refl, sym, ap, ◌∙◌, arith}
use Rattle.std.specs.Prelude.{if◌then◌else◌, ◌&&◌}
use Rattle.std.specs.List.{list_all}
use Rattle.cfi_read_core.specs.declared.error.Error.{Error}
use Rattle.cfi_read_core.specs.ReadFunctions.{Read, Source, Position, Outcome}
use Rattle.cfi_perf.specs.declared.error.PerfError.{PerfError}
use Rattle.cfi_perf.specs.declared.error.PerfError.TheVariants.{MixedEvents}
use Rattle.cfi_perf.specs.declared.event_entry.EventEntry.{EventEntry}
use Rattle.cfi_perf.specs.ByteReads.{entries, until_error}
use Rattle.cfi_perf.specs.EventEntries.{are_readable}

pub one_more : (count index : ℕ) → index < count → count - index ≡ suc (count - (index + 1))
one_more count index below = omega arith

-- an entry that was read, and the others
pub entry_read : {A : Type 0} (count index : ℕ) (read : Read A) (old new : Position) (x : A) → index < count →
    (read old.source old.place ≡ record { value = Ok x; place = new.place }) × (new.source ≡ old.source) →
    entries (count - index) read old.source old.place ≡ x ∷ entries (count - (index + 1)) read new.source new.place
unfolding entries
entry_read {A = A} count index read old new x below (gives, same) =
    ap (λ n. entries n read old.source old.place) (one_more count index below)
    ∙ (ap (λ (o : Outcome A). until_error o.value (entries (count - (index + 1)) read old.source o.place)) gives
    ∙ ap (λ (s : Source). x ∷ entries (count - (index + 1)) read s new.place) (sym same))

-- the first of them
pub first_read : {A : Type 0} (count : ℕ) (read : Read A) (old new : Position) (x : A) → 0 < count →
    (read old.source old.place ≡ record { value = Ok x; place = new.place }) × (new.source ≡ old.source) →
    entries count read old.source old.place ≡ x ∷ entries (count - 1) read new.source new.place
first_read count read old new x some gives =
    let all : count ≡ count - 0 = omega arith in
    ap (λ n. entries n read old.source old.place) all ∙ entry_read count 0 read old new x some gives

pub no_entries : {A : Type 0} (count : ℕ) (read : Read A) (source : Source) (place : ℕ) → count ≡ 0 → entries count read source place ≡ []
unfolding entries
no_entries count read source place none = ap (λ n. entries n read source place) none

-- an entry that can't be read
pub entry_refused : {A : Type 0} (n : ℕ) (read : Read A) (source : Source) (place place' : ℕ) (e : Error) →
    read source place ≡ record { value = Err e; place = place' } → entries n read source place ≡ []
unfolding entries
entry_refused zero read source place place' e gives = refl
entry_refused {A = A} (suc n) read source place place' e gives = ap (λ (o : Outcome A). until_error o.value (entries n read source o.place)) gives

-- no entries are left
pub entries_end : {A : Type 0} (count index : ℕ) (read : Read A) (source : Source) (place : ℕ) → count ≤ index → entries (count - index) read source place ≡ []
unfolding entries
entries_end count index read source place passed = let none : count - index ≡ 0 = omega arith in ap (λ n. entries n read source place) none

-- ---- whether all can be read with the first

-- what comes of the others
abbrev pub if_alike : EventEntry → List EventEntry → Result EventEntry PerfError
if_alike first others = if list_all (are_readable first) others then Ok first else Err MixedEvents

pub none_left : (first : EventEntry) (others : List EventEntry) → others ≡ [] → if_alike first others ≡ Ok first
none_left first others none = ap (if_alike first) none

pub one_same : (first x : EventEntry) (others : List EventEntry) → are_readable first x ≡ true → if_alike first (x ∷ others) ≡ if_alike first others
one_same first x others same = ap (λ (b : Bool). if b && list_all (are_readable first) others then Ok first else Err MixedEvents) same

pub one_other : (first x : EventEntry) (others : List EventEntry) → are_readable first x ≡ false → if_alike first (x ∷ others) ≡ Err MixedEvents
one_other first x others other = ap (λ (b : Bool). if b && list_all (are_readable first) others then Ok first else Err MixedEvents) other
