-- The table of builds, entry after entry.
use Rattle.std.proofs.Common.{◌≡◌, ◌<◌, ◌≤◌, ◌+◌, ◌-◌, ℕ, Bool, true, false, List, None, Result, Ok, Err, ap, ◌∙◌, arith}
use Rattle.std.specs.Prelude.{if◌then◌else◌}
use Rattle.cfi_perf.specs.declared.error.PerfError.{PerfError}
use Rattle.cfi_perf.specs.RecordFrames.{FramedRecord, split_record}
use Rattle.cfi_perf.specs.BuildIds.{entry_id, id_up_to, id_with, is_entry_named}
use Rattle.cfi_perf.proofs.EntrySteps.{one_more}

module _ (count index : ℕ) (big : Bool) (name table : List ℕ) where
  -- an entry of the first is found
  first_is : (inside : index < count) (r : Result FramedRecord PerfError) → split_record big table ≡ r → id_up_to (count - index) big name table ≡ id_with name r (id_up_to (count - (index + 1)) big name)
  unfolding id_up_to
  first_is inside r is =
      ap (λ (n : ℕ). id_up_to n big name table) (one_more count index inside)
      ∙ ap (λ (r : Result FramedRecord PerfError). id_with name r (id_up_to (count - (index + 1)) big name)) is

  pub entry_here : (entry : FramedRecord) → index < count → split_record big table ≡ Ok entry → is_entry_named name entry ≡ true → id_up_to (count - index) big name table ≡ entry_id entry
  entry_here entry inside is named =
      first_is inside (Ok entry) is ∙ ap (λ (b : Bool). if b then entry_id entry else id_up_to (count - (index + 1)) big name entry.others) named

  pub entry_passed : (entry : FramedRecord) → index < count → split_record big table ≡ Ok entry → is_entry_named name entry ≡ false
      → id_up_to (count - index) big name table ≡ id_up_to (count - (index + 1)) big name entry.others
  entry_passed entry inside is other =
      first_is inside (Ok entry) is ∙ ap (λ (b : Bool). if b then entry_id entry else id_up_to (count - (index + 1)) big name entry.others) other

  pub entry_refused : (e : PerfError) → index < count → split_record big table ≡ Err e → id_up_to (count - index) big name table ≡ None
  entry_refused e inside is = first_is inside (Err e) is

  pub none_left : count ≤ index → id_up_to (count - index) big name table ≡ None
  unfolding id_up_to
  none_left passed = let none : count - index ≡ 0 = omega arith in ap (λ (n : ℕ). id_up_to n big name table) none
