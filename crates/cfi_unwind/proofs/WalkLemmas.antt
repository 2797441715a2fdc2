-- What is left of the entries of a section after a step.
use Rattle.std.proofs.Common.{◌≡◌, ◌≤◌, ◌<◌, ◌-◌, ℕ, Bool, true, false, Option, Some, None, Result, Ok, Err, refl, sym, ap, ◌∙◌, arith}
use Rattle.std.specs.Prelude.{◌==◌, if◌then◌else◌}
use Rattle.std.proofs.lemmas.Bool.{eqb-false, eqb-true}
use borrow.Author.Tests.{lt-leb}
use Rattle.cfi_read_core.specs.declared.error.Error.{Error}
use Rattle.cfi_read_core.specs.ReadFunctions.{Readings, Source, Position, Outcome, carry_on, no_values, readings_with, with_first}
use Rattle.cfi_read_core.specs.ReaderCalls.{map_ok, end_position}
use Rattle.cfi_read_core.proofs.Onward.{IsOnward, onward_bind, onward_give, onward_of_result}
use Rattle.cfi_read_core.proofs.Repeating.{Advances, advances_bind}
use Rattle.cfi_entry.specs.Sections.{Section, zero_length_ends}
use Rattle.cfi_entry.specs.Prefixes.{Prefix, prefix}
use Rattle.cfi_entry.specs.Entries.{Entry, entry_of, entries_with, entries_from, entries_left}
use Rattle.cfi_unwind.specs.EntrySteps.{GoesThrough, entry_read, entry_of_prefix}
use Rattle.cfi_unwind.proofs.EntryLemmas.{advances_prefix, one_entry, onward_prefix}

onward_opened : (section : Section) (found : Option Prefix) → IsOnward (entry_of_prefix section found)
onward_opened section None = onward_give None
onward_opened section (Some found) = onward_of_result (map_ok Some (entry_of section found))

pub onward_entry : (section : Section) → IsOnward (entry_read section)
unfolding entry_read
onward_entry section = onward_bind (prefix section) (entry_of_prefix section) (onward_prefix section) (onward_opened section)

pub advances_entry : (section : Section) → Advances (entry_read section)
unfolding entry_read
advances_entry section = advances_bind (prefix section) (entry_of_prefix section) (advances_prefix section) (onward_opened section)

-- what stands where the end wasn't met
abbrev step_gives : Section → Result (Option Entry) Error → Readings Entry → Readings Entry
step_gives section (Err e) others = no_values (Some e)
step_gives section (Ok None) others = if zero_length_ends section.kind then no_values None else others
step_gives section (Ok (Some e)) others = with_first e others

by_entry : (section : Section) (r : Result Entry Error) (others : Readings Entry) → readings_with false r others ≡ step_gives section (map_ok Some r) others
by_entry section (Ok e) others = refl
by_entry section (Err e) others = refl

-- a prefix and its entry are one step, and what is left is left after both
by_prefix : (section : Section) (r : Result (Option Prefix) Error) (place : ℕ) (left : ℕ → Readings Entry) →
    let o = carry_on (entry_of_prefix section) section.source r place in
    entries_with section false r (left place) ≡ step_gives section o.value (left o.place)
by_prefix section (Err e) place left = refl
by_prefix section (Ok None) place left = refl
by_prefix section (Ok (Some found)) place left = by_entry section (entry_of section found) (left place)

one_step : (section : Section) (place : ℕ) → place < section.source.last →
    let o = entry_read section section.source place in
    entries_left section place ≡ step_gives section o.value (entries_left section o.place)
unfolding entry_read
one_step section place inside =
    let first = prefix section section.source place in
    one_entry section place
    ∙ (ap (λ (b : Bool). entries_with section b first.value (entries_left section first.place)) (lt-leb _ _ inside)
    ∙ by_prefix section first.value first.place (entries_left section))

-- ---- the steps of a reader that goes through the section

module _ (section : Section) (old new : Position) (through : old.source ≡ section.source) (some_left : (old.source.last - old.place == 0) ≡ false) where
  inside : old.place < section.source.last
  inside =
      let last : old.source.last ≡ section.source.last = ap (λ (s : Source). s.last) through in
      let some : old.source.last - old.place ≡ 0 → ⊥ = eqb-false _ _ some_left in
      omega arith

  step_of : (v : Result (Option Entry) Error) → entry_read section old.source old.place ≡ record { value = v; place = new.place } →
      entries_left section old.place ≡ step_gives section v (entries_left section new.place)
  step_of v gives =
      let there : entry_read section section.source old.place ≡ record { value = v; place = new.place } = ap (λ (s : Source). entry_read section s old.place) (sym through) ∙ gives in
      one_step section old.place inside ∙ ap (λ (o : Outcome (Option Entry)). step_gives section o.value (entries_left section o.place)) there

  pub step_entry : (e : Entry) → entry_read section old.source old.place ≡ record { value = Ok (Some e); place = new.place } →
      entries_left section old.place ≡ with_first e (entries_left section new.place)
  step_entry e gives = step_of (Ok (Some e)) gives

  pub step_gap : entry_read section old.source old.place ≡ record { value = Ok None; place = new.place } → zero_length_ends section.kind ≡ false →
      entries_left section old.place ≡ entries_left section new.place
  step_gap gives passes = step_of (Ok None) gives ∙ ap (λ (b : Bool). if b then no_values None else entries_left section new.place) passes

  pub step_terminator : entry_read section old.source old.place ≡ record { value = Ok None; place = new.place } → zero_length_ends section.kind ≡ true →
      entries_left section old.place ≡ no_values None
  step_terminator gives ends = step_of (Ok None) gives ∙ ap (λ (b : Bool). if b then no_values None else entries_left section new.place) ends

  pub step_refusal : (e : Error) → entry_read section old.source old.place ≡ record { value = Err e; place = new.place } →
      entries_left section old.place ≡ no_values (Some e)
  step_refusal e gives = step_of (Err e) gives

-- after an entry or a gap fewer bytes are left
pub step_fewer : (section : Section) (old new : Position) (x : Option Entry) → (old.source.last - old.place == 0) ≡ false →
    (entry_read section old.source old.place ≡ record { value = Ok x; place = new.place }) × (new.source ≡ old.source) →
    new.source.last - new.place < old.source.last - old.place
step_fewer section old new x some (gives, same) =
    let more = (advances_entry section).taken old.source old.place x (ap (λ (o : Outcome (Option Entry)). o.value) gives) in
    let place : (entry_read section old.source old.place).place ≡ new.place = ap (λ (o : Outcome (Option Entry)). o.place) gives in
    let last : new.source.last ≡ old.source.last = ap (λ (s : Source). s.last) same in
    let some : old.source.last - old.place ≡ 0 → ⊥ = eqb-false _ _ some in
    omega (arith, more)

-- a step stays in the section
pub step_through : {v : Result (Option Entry) Error} {old new begins : Position} (section : Section) →
    (entry_read section old.source old.place ≡ record { value = v; place = new.place }) × (new.source ≡ old.source) → GoesThrough old begins → GoesThrough new begins
step_through {old = old} {new = new} section (gives, same) through =
    let after : old.place ≤ (entry_read section old.source old.place).place = (onward_entry section).after old.source old.place in
    let place : (entry_read section old.source old.place).place ≡ new.place = ap (λ (o : Outcome (Option Entry)). o.place) gives in
    record { source = same ∙ through.source; first = omega (arith, through.first) }

-- ---- the end

-- nothing is left where no byte is
pub entries_end : (section : Section) (place : ℕ) → section.source.last ≤ place → entries_left section place ≡ no_values None
unfolding entries_from
entries_end section place none = let empty : section.source.last - place ≡ 0 = omega arith in ap (λ (n : ℕ). entries_from n section place) empty

-- where all was passed nothing is left, and that stays in the section
pub exhausted_through : (old begins : Position) → old.place ≤ old.source.last → GoesThrough old begins → GoesThrough (end_position old) begins
exhausted_through old begins ordered through = record { source = through.source; first = omega (arith, through.first) }

pub exhausted_left : (section : Section) (old new : Position) → old.source ≡ section.source → new ≡ end_position old → entries_left section new.place ≡ no_values None
exhausted_left section old new through gone =
    let last : old.source.last ≡ section.source.last = ap (λ (s : Source). s.last) through in
    let place : new.place ≡ old.source.last = ap (λ (s : Position). s.place) gone in
    entries_end section new.place (omega arith)

-- nothing is left where a reader has no byte
pub none_left : (section : Section) (old : Position) → old.source ≡ section.source → (old.source.last - old.place == 0) ≡ true → entries_left section old.place ≡ no_values None
none_left section old through none =
    let last : old.source.last ≡ section.source.last = ap (λ (s : Source). s.last) through in
    let empty : old.source.last - old.place ≡ 0 = eqb-true _ _ none in
    entries_end section old.place (omega arith)
