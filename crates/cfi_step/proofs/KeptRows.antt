-- Rows that are kept for the next walk.
use Rattle.std.proofs.Common.{◌≡◌, ◌∙◌, ℕ, Bool, false, List, length, Option, Some, None, Result, Ok, IfOk, sym, ap, subst, inl, inr, get_or, true≢false}
use Rattle.std.specs.List.{All, Contains, position, slice_get}
use Rattle.std.specs.Option.{option_and_then}
use Rattle.std.proofs.lemmas.Option.{get_or_from_slice_get, slice_get_within}
use Rattle.std.proofs.lemmas.List.Elements.{All-get_or, All-set}
use Rattle.cfi_read_core.specs.declared.common.Register.{Register}
use Rattle.cfi_read_core.specs.ReadFunctions.{Position}
use Rattle.cfi_state.specs.Machine.{Parts}
use Rattle.cfi_state.specs.MappedStates.{map_row}
use Rattle.cfi_state.specs.Row.{Row}
use Rattle.cfi_entry.specs.Augmentations.{is_trampoline}
use Rattle.cfi_entry.specs.Fdes.{Covers, Fde}
use Rattle.cfi_entry.specs.Sections.{Section}
use Rattle.cfi_entry.specs.SectionViews.{eh_frame_view}
use Rattle.cfi_unwind.specs.AddressRow.{IsRowOfFde}
use Rattle.cfi_expression.specs.declared.error.FrameError.{FrameError}
use Rattle.cfi_expression.specs.Frames.{Frame}
use Rattle.cfi_step.specs.declared.abi.Abi.{Abi}
use Rattle.cfi_step.specs.declared.cached_rows.CachedRow.{CachedRow}
use Rattle.cfi_step.specs.declared.module.LoadedModule.{LoadedModule}
use Rattle.cfi_step.specs.declared.step.Caller.{Caller}
use Rattle.cfi_step.specs.Callers.{AreRecovered}
use Rattle.cfi_step.specs.CachedRows.{AreAlike, AreCachedFor, AreCachedIn, AreEmpty, AreNumbered, AreRightFor, AreRightIn, IsRightIn, StayRightFor, StayRightIn, is_full, slot_view}
use Rattle.cfi_step.specs.Modules.{IsFoundIn, IsStepByFound, first_module, has_code, module_section}
use Rattle.cfi_step.specs.Slots.{HoldsRowOf, KeepsRow, KeepsRowOf, SaysRowOf, Slot}
use Rattle.cfi_step.specs.Steps.{caller_by}

-- ---- a slot of a cache

all_has : {X : Type 0} (P : X → Type 0) (xs : List X) (x : X) → Contains xs x → All P xs → P x
all_has P xs x has all = subst P has.2 (All-get_or P xs has.0 x has.1 all)

all_for : {X : Type 0} (P Q : X → Type 0) (xs : List X) → ((x : X) → P x → Q x) → All P xs → All Q xs
all_for P Q xs then all k d inside = then (get_or xs k d) (all k d inside)

-- ---- a module of several

module _ {A : Type 0} (P : A → Type 0) (xs : List A) (all : All P xs) (x : A) where
  has_at : (o : Option ℕ) → Some x ≡ option_and_then (slice_get xs) o → P x
  has_at None is = absurd (cc)
  has_at (Some k) is = subst P (get_or_from_slice_get xs k x x (sym is)) (all k x (slice_get_within xs k x (sym is)))

pub module_has : {R : Type 0} (P : LoadedModule R → Type 0) (modules : List (LoadedModule R)) (loaded : LoadedModule R) (a : ℕ) →
    Some loaded ≡ first_module modules a → All P modules → P loaded
module_has P modules loaded a is all = has_at P modules all loaded (position (λ m. has_code m a) modules) is

-- ---- a row that was found

module _ {K T : Type 0} (slot_of : K → Slot T) (number : T → ℕ) (rule_limit stack_limit : Option ℕ) (copies_free : Bool) (section : Section) (a : ℕ) (fde : Fde) where
  pub keeps_row : (file : ℕ) (row : Row T) (ra : Register) (trampoline : Bool) (old new : List K) →
      IsRowOfFde rule_limit stack_limit copies_free section a fde (Ok (map_row number row)) →
      ra ≡ fde.cie.return_address_register → trampoline ≡ is_trampoline fde.cie.augmentation → KeepsRow slot_of file a row.parts ra trampoline old new →
      KeepsRowOf number rule_limit stack_limit copies_free section a fde slot_of file old new
  keeps_row file row ra trampoline old new is_row is_ra is_tr (inl same) = inl same
  keeps_row file row ra trampoline old new is_row is_ra is_tr (inr (k, slot, written, holds)) =
      inr (k, slot, written, λ other b h. let (of, at, says) = holds other b h in (of, at, (row, is_row, (says.0, says.1 ∙ is_ra, says.2 ∙ is_tr))))

-- ---- a cache

module _ {R K T : Type 0} (position : R → Position) (number : T → ℕ) (slot_of : K → Slot T) (size : ℕ) (rule_limit stack_limit : Option ℕ) (copies_free : Bool) where
  abbrev InSlot : LoadedModule R → ℕ → Slot T → Type 0
  InSlot loaded a slot =
      (fde : Fde) × IsFoundIn position size loaded a (Ok fde) × Covers fde a
      × SaysRowOf number rule_limit stack_limit copies_free (module_section position size loaded) a fde slot

  pub is_in_cache : (loaded : LoadedModule R) (a : ℕ) (cache : List K) (slot : K) → Contains cache slot → HoldsRowOf loaded.file a (slot_of slot) →
      AreRightIn position number slot_of size rule_limit stack_limit copies_free loaded cache → InSlot loaded a (slot_of slot)
  is_in_cache loaded a cache slot has holds all =
      all_has (IsRightIn position number slot_of size rule_limit stack_limit copies_free loaded) cache slot has all a holds

  -- a row of a module is that of each with the same call frames
  in_other : (loaded other : LoadedModule R) (a b : ℕ) (slot : Slot T) → b ≡ a →
      (loaded.frame ≡ other.frame) × (loaded.header ≡ other.header) × (loaded.bases ≡ other.bases) → InSlot loaded a slot → InSlot other b slot
  in_other loaded other a b slot at same is =
      let with_frames : loaded ≡ record loaded { frame = other.frame; header = other.header; bases = other.bases } =
      λ i. record loaded { frame = same.0 i; header = same.1 i; bases = same.2 i } in
      subst (λ (m : LoadedModule R). InSlot m b slot) with_frames (subst (λ (n : ℕ). InSlot loaded n slot) (sym at) is)

  pub keeps_in : (loaded : LoadedModule R) (a : ℕ) (fde : Fde) (old new : List K) → IsFoundIn position size loaded a (Ok fde) → Covers fde a →
      KeepsRowOf number rule_limit stack_limit copies_free (module_section position size loaded) a fde slot_of loaded.file old new →
      StayRightIn position number slot_of size rule_limit stack_limit copies_free loaded old new
  keeps_in loaded a fde old new found covers (inl same) other alike all =
      subst (AreRightIn position number slot_of size rule_limit stack_limit copies_free other) (sym same) all
  keeps_in loaded a fde old new found covers (inr (k, slot, written, holds)) other alike all =
      subst (AreRightIn position number slot_of size rule_limit stack_limit copies_free other) (sym written)
      (All-set (IsRightIn position number slot_of size rule_limit stack_limit copies_free other) old k slot
      (λ b h. let (of, at, says) = holds other.file b h in in_other loaded other a b (slot_of slot) at (alike (sym of)) (fde, found, covers, says)) all)

  -- what a walk in one module keeps, by the modules of the process
  pub kept_in_all : (modules : List (LoadedModule R)) (loaded : LoadedModule R) (a : ℕ) (old new : List K) → Some loaded ≡ first_module modules a →
      StayRightIn position number slot_of size rule_limit stack_limit copies_free loaded old new →
      StayRightFor position number slot_of size rule_limit stack_limit copies_free modules old new
  kept_in_all modules loaded a old new there keeps other alike all =
      keeps other (module_has (λ m. AreAlike m other) modules loaded a there alike) all

  pub kept_then : (modules : List (LoadedModule R)) (old next new : List K) → StayRightFor position number slot_of size rule_limit stack_limit copies_free modules old next →
      StayRightFor position number slot_of size rule_limit stack_limit copies_free modules next new →
      StayRightFor position number slot_of size rule_limit stack_limit copies_free modules old new
  kept_then modules old next new first then other alike all = then other alike (first other alike all)

  pub kept_for_numbered : (modules : List (LoadedModule R)) (old new : List K) → AreNumbered modules →
      StayRightFor position number slot_of size rule_limit stack_limit copies_free modules old new →
      AreRightFor position number slot_of size rule_limit stack_limit copies_free modules old →
      AreRightFor position number slot_of size rule_limit stack_limit copies_free modules new
  kept_for_numbered modules old new numbered keeps before k d inside = keeps (get_or modules k d) (numbered k d inside) (before k d inside)

-- an empty cache is right for any modules
module _ {R : Type 0} (position : R → Position) (size : ℕ) (rule_limit stack_limit : Option ℕ) (copies_free : Bool) where
  empty_in : (loaded : LoadedModule R) (cache : List CachedRow) → AreEmpty cache → AreCachedIn position size rule_limit stack_limit copies_free loaded cache
  empty_in loaded cache empty =
      all_for (λ slot. is_full slot ≡ false) (IsRightIn position (λ (n : ℕ). n) slot_view size rule_limit stack_limit copies_free loaded) cache
      (λ slot none a holds. absurd (true≢false (sym holds.0 ∙ none))) empty

  pub empty_for_all : (modules : List (LoadedModule R)) (cache : List CachedRow) → AreEmpty cache →
      AreCachedFor position size rule_limit stack_limit copies_free modules cache
  empty_for_all modules cache empty k d inside = empty_in (get_or modules k d) cache empty

-- ---- a step by a slot

module _ {T : Type 0} (number : T → ℕ) (frame : Frame) (bytes : Position) (abi : Abi) (parts : Parts T) (result : Result Caller FrameError) where
  pub same_caller : (ra ra' : Register) (trampoline trampoline' : Bool) → result ≡ caller_by frame bytes abi number ra trampoline parts →
      ra ≡ ra' → trampoline ≡ trampoline' → result ≡ caller_by frame bytes abi number ra' trampoline' parts
  same_caller ra ra' trampoline trampoline' is same_ra same_trampoline =
      is ∙ (ap (λ (r : Register). caller_by frame bytes abi number r trampoline parts) same_ra
      ∙ ap (λ (t : Bool). caller_by frame bytes abi number ra' t parts) same_trampoline)

module _ {R K T : Type 0} (position : R → Position) (number : T → ℕ) (slot_of : K → Slot T) (frame : Frame) (abi : Abi) (rule_limit stack_limit : Option ℕ) (copies_free : Bool) (loaded : LoadedModule R) (a : ℕ) (result : Result Caller FrameError) (caller : List (Option ℕ)) where
  pub step_by_slot : (slot : Slot T) (parts : Parts T) → slot.parts ≡ parts →
      InSlot position number slot_of frame.size rule_limit stack_limit copies_free loaded a slot →
      result ≡ caller_by frame (eh_frame_view position loaded.frame).position abi number slot.return_address slot.is_signal_trampoline parts →
      IfOk result (λ c. AreRecovered frame (eh_frame_view position loaded.frame).position abi number parts c.cfa (length caller) caller) →
      IsStepByFound position number frame abi rule_limit stack_limit copies_free loaded a result caller
  step_by_slot slot parts same (fde, found, covers, (row, is_row, (says, is_ra, is_tr))) is recovered =
      let bytes = (eh_frame_view position loaded.frame).position in
      let parts_of_row : parts ≡ row.parts = sym same ∙ says in (
        Ok fde,
        (
          found,
          covers,
          (
            Ok row,
            is_row,
            (
              same_caller number frame bytes abi parts result slot.return_address fde.cie.return_address_register slot.is_signal_trampoline (is_trampoline fde.cie.augmentation) is is_ra is_tr
                  ∙ ap (caller_by frame bytes abi number fde.cie.return_address_register (is_trampoline fde.cie.augmentation)) parts_of_row,
              subst (λ (p : Parts T). IfOk result (λ c. AreRecovered frame bytes abi number p c.cfa (length caller) caller)) parts_of_row recovered,
            ),
          ),
        ),
      )
