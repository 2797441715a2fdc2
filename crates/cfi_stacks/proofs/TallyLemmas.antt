-- What the records of a profile say of the recording, one after the other.
use Rattle.std.proofs.Common.{◌≡◌, ◌∙◌, ◌+◌, ◌-◌, ◌^◌, ◌||◌, ℕ, Bool, true, false, List, [], ◌∷◌, ◌++◌, refl, sym, ap, subst, arith, min}
use Rattle.std.specs.List.{list_any, sum_by}
use Rattle.std.proofs.lemmas.List.Folds.{list_any-append}
use Rattle.std.proofs.lemmas.List.Sums.{sum_by-append, sum_by-cons}
use Rattle.cfi_perf.specs.declared.record.Event.{Event as EventOfCode}
use Rattle.cfi_perf.specs.declared.record.Event.TheVariants as events
use Rattle.cfi_perf.specs.declared.record.Lost.{Lost}
use Rattle.cfi_perf.specs.declared.sample.Sample.{Sample as SampleOfCode}
use Rattle.cfi_perf.specs.Events.{Record, event_view}
use Rattle.cfi_perf.specs.Recordings.{is_stack_sample, has_samples, has_stacks, is_sample, lost_of, total}
use Rattle.cfi_stacks.specs.declared.profile_index.Tally.{Tally}
use Rattle.cfi_stacks.specs.ProfileIndexes.{IsTallyOf}

or_true : (b : Bool) → (b || true) ≡ true
or_true true = refl
or_true false = refl

or_false : (b : Bool) → (b || false) ≡ b
or_false true = refl
or_false false = refl

-- ---- one more record

any_more : (p : Record → Bool) (records : List Record) (r : Record) → list_any p (records ++ r ∷ []) ≡ (list_any p records || p r)
any_more p records r = list_any-append p records (r ∷ []) ∙ ap (λ (b : Bool). list_any p records || b) (or_false (p r))

add_last : (sum more most : ℕ) → min (sum + (more + 0)) most ≡ min (min sum most + more) most
add_last sum more most = omega arith

total_more : (count : Lost → ℕ) (records : List Record) (r : Record) → total count (records ++ r ∷ []) ≡ min (total count records + count (lost_of r.event)) (2 ^ 64 - 1)
total_more count records r =
    let f : Record → ℕ = λ r. count (lost_of r.event) in
    let last : sum_by f (r ∷ []) ≡ count (lost_of r.event) + 0 = sum_by-cons f r [] in
    ap (λ (n : ℕ). min n (2 ^ 64 - 1)) (sum_by-append f records (r ∷ []) ∙ ap (λ (n : ℕ). sum_by f records + n) last) ∙ add_last (sum_by f records) (count (lost_of r.event)) (2 ^ 64 - 1)

none_added : (sum most : ℕ) → min (min sum most + 0) most ≡ min sum most
none_added sum most = omega arith

total_same : (count : Lost → ℕ) (records : List Record) (r : Record) → count (lost_of r.event) ≡ 0 → total count (records ++ r ∷ []) ≡ total count records
total_same count records r none =
    total_more count records r
    ∙ (ap (λ (n : ℕ). min (total count records + n) (2 ^ 64 - 1)) none ∙ none_added (sum_by (λ r. count (lost_of r.event)) records) (2 ^ 64 - 1))

pub no_tally : IsTallyOf (record { has_samples = false; has_stacks = false; lost_records = 0; lost_samples = 0 }) []
no_tally = record { samples = refl; stacks = refl; lost = refl; lost_samples = refl }

module _ (old : Tally) (records : List Record) (is : IsTallyOf old records) (time : ℕ) where
  abbrev timed : EventOfCode → Record
  timed event = record { time = time; event = event_view event }

  abbrev more : EventOfCode → List Record
  more event = records ++ timed event ∷ []

  pub with_sample : (event : EventOfCode) (s : SampleOfCode) (stacks : Bool) → event ≡ events.Sample s → stacks ≡ (old.has_stacks || s.copies_stack)
      → IsTallyOf (record { has_samples = true; has_stacks = stacks; lost_records = old.lost_records; lost_samples = old.lost_samples }) (more event)
  with_sample event s stacks at same =
      let r = timed (events.Sample s) in
      subst (λ (e : EventOfCode). IsTallyOf (record { has_samples = true; has_stacks = stacks; lost_records = old.lost_records; lost_samples = old.lost_samples }) (more e)) (sym at)
      (record {
        samples = sym (any_more (λ r. is_sample r.event) records r ∙ or_true (has_samples records));
        stacks = same ∙ (ap (λ (b : Bool). b || s.copies_stack) is.stacks ∙ sym (any_more (λ r. is_stack_sample r.event) records r));
        lost = is.lost ∙ sym (total_same (λ l. l.records) records r refl);
        lost_samples = is.lost_samples ∙ sym (total_same (λ l. l.samples) records r refl);
      })

  pub with_lost : (event : EventOfCode) (l : Lost) (new : Tally) → event ≡ events.Lost l → new.has_samples ≡ old.has_samples → new.has_stacks ≡ old.has_stacks
      → new.lost_records ≡ min (old.lost_records + l.records) (2 ^ 64 - 1) → new.lost_samples ≡ min (old.lost_samples + l.samples) (2 ^ 64 - 1) → IsTallyOf new (more event)
  with_lost event l new at samples stacks lost lost_samples =
      let r = timed (events.Lost l) in
      subst (λ (e : EventOfCode). IsTallyOf new (more e)) (sym at)
      (record {
        samples = samples ∙ (is.samples ∙ sym (any_more (λ r. is_sample r.event) records r ∙ or_false (has_samples records)));
        stacks = stacks ∙ (is.stacks ∙ sym (any_more (λ r. is_stack_sample r.event) records r ∙ or_false (has_stacks records)));
        lost = lost ∙ (ap (λ (n : ℕ). min (n + l.records) (2 ^ 64 - 1)) is.lost ∙ sym (total_more (λ l. l.records) records r));
        lost_samples = lost_samples ∙ (ap (λ (n : ℕ). min (n + l.samples) (2 ^ 64 - 1)) is.lost_samples ∙ sym (total_more (λ l. l.samples) records r));
      })

  abbrev SaysNothing : EventOfCode → Type 0
  SaysNothing event =
      (is_sample (event_view event) ≡ false) × (is_stack_sample (event_view event) ≡ false) × ((lost_of (event_view event)).records ≡ 0) × ((lost_of (event_view event)).samples ≡ 0)

  says_nothing : (event : EventOfCode) → ((s : SampleOfCode) → event ≡ events.Sample s → ⊥) → ((l : Lost) → event ≡ events.Lost l → ⊥) → SaysNothing event
  says_nothing (events.Mapping m) sample lost = (refl, refl, refl, refl)
  says_nothing (events.Program p) sample lost = (refl, refl, refl, refl)
  says_nothing (events.Fork f) sample lost = (refl, refl, refl, refl)
  says_nothing (events.Sample s) sample lost = absurd (sample s refl)
  says_nothing (events.Lost l) sample lost = absurd (lost l refl)
  says_nothing events.Other sample lost = (refl, refl, refl, refl)

  pub with_other : (event : EventOfCode) → ((s : SampleOfCode) → event ≡ events.Sample s → ⊥) → ((l : Lost) → event ≡ events.Lost l → ⊥) → IsTallyOf old (more event)
  with_other event sample lost =
      let r = timed event in
      let (samples, stacks, some, some_samples) = says_nothing event sample lost in
      record {
        samples = is.samples ∙ sym (any_more (λ r. is_sample r.event) records r ∙ (ap (λ (b : Bool). has_samples records || b) samples ∙ or_false (has_samples records)));
        stacks = is.stacks ∙ sym (any_more (λ r. is_stack_sample r.event) records r ∙ (ap (λ (b : Bool). has_stacks records || b) stacks ∙ or_false (has_stacks records)));
        lost = is.lost ∙ sym (total_same (λ l. l.records) records r some);
        lost_samples = is.lost_samples ∙ sym (total_same (λ l. l.samples) records r some_samples);
      }
