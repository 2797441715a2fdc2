-- The records of a pipe, one after the other.
use Rattle.std.proofs.Common.{◌≡◌, ◌<◌, ◌≤◌, ◌+◌, ◌-◌, ℕ, Bool, true, false, List, [], ◌==◌, Some, None, Result, Ok, Err, ap, ◌∙◌, arith, drop}
use Rattle.std.specs.Prelude.{if◌then◌else◌}
use Rattle.cfi_perf.specs.declared.error.PerfError.{PerfError}
use Rattle.cfi_perf.specs.Pipes.{attributes_up_to, build_ids_up_to, build_ids_with, count_with, events_of, feature_up_to, is_feature, section_with}
use Rattle.cfi_perf.specs.RecordFrames.{FramedRecord, split_record}
use Rattle.cfi_perf.proofs.EntrySteps.{one_more}

module _ (count index : ℕ) (big : Bool) (records : List ℕ) where
  -- ---- how many have attributes
  first_counted : index < count → (r : Result FramedRecord PerfError) → split_record big records ≡ r → attributes_up_to (count - index) big records ≡ count_with r (attributes_up_to (count - (index + 1)) big)
  unfolding attributes_up_to
  first_counted inside r is =
      ap (λ (n : ℕ). attributes_up_to n big records) (one_more count index inside)
      ∙ ap (λ (r : Result FramedRecord PerfError). count_with r (attributes_up_to (count - (index + 1)) big)) is

  pub one_counted : (r : FramedRecord) → index < count → split_record big records ≡ Ok r → attributes_up_to (count - index) big records ≡ events_of r + attributes_up_to (count - (index + 1)) big r.others
  one_counted r inside is = first_counted inside (Ok r) is

  pub none_counted : (e : PerfError) → index < count → split_record big records ≡ Err e → attributes_up_to (count - index) big records ≡ 0
  none_counted e inside is = first_counted inside (Err e) is

  pub all_counted : count ≤ index → attributes_up_to (count - index) big records ≡ 0
  unfolding attributes_up_to
  all_counted passed = let none : count - index ≡ 0 = omega arith in ap (λ (n : ℕ). attributes_up_to n big records) none

  -- ---- which has a feature
  module _ (number : ℕ) where
    first_section : index < count → (r : Result FramedRecord PerfError) → split_record big records ≡ r → feature_up_to (count - index) big number records ≡ section_with big number r (feature_up_to (count - (index + 1)) big number)
    unfolding feature_up_to
    first_section inside r is =
        ap (λ (n : ℕ). feature_up_to n big number records) (one_more count index inside)
        ∙ ap (λ (r : Result FramedRecord PerfError). section_with big number r (feature_up_to (count - (index + 1)) big number)) is

    pub section_here : (r : FramedRecord) → index < count → split_record big records ≡ Ok r → is_feature big number r ≡ true → feature_up_to (count - index) big number records ≡ Some (drop 8 r.body)
    section_here r inside is has =
        first_section inside (Ok r) is ∙ ap (λ (b : Bool). if b then Some (drop 8 r.body) else feature_up_to (count - (index + 1)) big number r.others) has

    pub section_later : (r : FramedRecord) → index < count → split_record big records ≡ Ok r → is_feature big number r ≡ false
        → feature_up_to (count - index) big number records ≡ feature_up_to (count - (index + 1)) big number r.others
    section_later r inside is other =
        first_section inside (Ok r) is ∙ ap (λ (b : Bool). if b then Some (drop 8 r.body) else feature_up_to (count - (index + 1)) big number r.others) other

    pub section_refused : (e : PerfError) → index < count → split_record big records ≡ Err e → feature_up_to (count - index) big number records ≡ None
    section_refused e inside is = first_section inside (Err e) is

    pub no_section : count ≤ index → feature_up_to (count - index) big number records ≡ None
    unfolding feature_up_to
    no_section passed = let none : count - index ≡ 0 = omega arith in ap (λ (n : ℕ). feature_up_to n big number records) none

  -- ---- from which on they have builds
  first_build : index < count → (r : Result FramedRecord PerfError) → split_record big records ≡ r → build_ids_up_to (count - index) big records ≡ build_ids_with records r (build_ids_up_to (count - (index + 1)) big)
  unfolding build_ids_up_to
  first_build inside r is =
      ap (λ (n : ℕ). build_ids_up_to n big records) (one_more count index inside)
      ∙ ap (λ (r : Result FramedRecord PerfError). build_ids_with records r (build_ids_up_to (count - (index + 1)) big)) is

  pub build_here : (r : FramedRecord) → index < count → split_record big records ≡ Ok r → (r.header.kind == 67) ≡ true → build_ids_up_to (count - index) big records ≡ records
  build_here r inside is has =
      first_build inside (Ok r) is ∙ ap (λ (b : Bool). if b then records else build_ids_up_to (count - (index + 1)) big r.others) has

  pub build_later : (r : FramedRecord) → index < count → split_record big records ≡ Ok r → (r.header.kind == 67) ≡ false
      → build_ids_up_to (count - index) big records ≡ build_ids_up_to (count - (index + 1)) big r.others
  build_later r inside is other =
      first_build inside (Ok r) is ∙ ap (λ (b : Bool). if b then records else build_ids_up_to (count - (index + 1)) big r.others) other

  pub build_refused : (e : PerfError) → index < count → split_record big records ≡ Err e → build_ids_up_to (count - index) big records ≡ []
  build_refused e inside is = first_build inside (Err e) is

  pub no_build : count ≤ index → build_ids_up_to (count - index) big records ≡ []
  unfolding build_ids_up_to
  no_build passed = let none : count - index ≡ 0 = omega arith in ap (λ (n : ℕ). build_ids_up_to n big records) none
