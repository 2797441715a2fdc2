-- Rows (DWARF 5 section 6.4.1) that are kept for the next walk of a stack, each by its file and its
-- address in the file. Keeping them is this library's own: the standard has no such thing.
--     is_full slot, slot_view slot      whether a slot holds a row, and what it holds
--     AreEmpty cache      no slot holds a row
--     AreAlike m n      if modules have one number of a file, they have the same call frames
--     AreNumbered modules      that holds of any two of them
--     AreCachedIn .. loaded cache      each row that is held of the module's file is that of the
--         FDE that the module has for its address
--     AreCachedFor .. modules cache      the same for all modules
--     KeepsIn .. loaded old new, KeepsFor .. modules old new      rows may have been kept of these
--         modules: what was right stays right, also for other modules, if they have the call frames
--         of these where they have their numbers
--     AreRightIn, AreRightFor, StayRightIn, StayRightFor      the same of slots of any type
use Rattle.std.specs.Prelude.{◌≡◌, ℕ, Bool, false, List, Option, Ok}
use Rattle.std.specs.List.{All}
use Rattle.cfi_read_core.specs.ReadFunctions.{Position}
use Rattle.cfi_state.specs.Machine.{Parts}
use Rattle.cfi_state.specs.RulePairs.{rules_of}
use Rattle.cfi_entry.specs.Fdes.{Covers, Fde}
use Rattle.cfi_step.specs.declared.cached_rows.CachedRow.{CachedRow}
use Rattle.cfi_step.specs.declared.module.LoadedModule.{LoadedModule}
use Rattle.cfi_step.specs.Modules.{IsFoundIn, module_section}
use Rattle.cfi_step.specs.Slots.{Slot, HoldsRowOf, SaysRowOf}

-- ---- a slot

abbrev pub is_full : CachedRow → Bool
is_full slot = slot.is_kept

abbrev pub parts_cached : CachedRow → Parts ℕ
parts_cached slot =
    record { cfa = slot.cfa; rules = rules_of slot.rules.items; args_size = slot.saved_args_size }

abbrev pub slot_view : CachedRow → Slot ℕ
slot_view slot = record {
  is_kept = slot.is_kept;
  file = slot.file;
  address = slot.address;
  parts = parts_cached slot;
  return_address = slot.return_address;
  is_signal_trampoline = slot.is_signal_trampoline;
}

abbrev pub AreEmpty : List CachedRow → Type 0
AreEmpty cache = All (λ slot. is_full slot ≡ false) cache

-- ---- modules and their files

-- only a cache goes by the number of a file
abbrev pub AreAlike : {R : Type 0} → LoadedModule R → LoadedModule R → Type 0
AreAlike m n = m.file ≡ n.file → (m.frame ≡ n.frame) × (m.header ≡ n.header) × (m.bases ≡ n.bases)

abbrev pub AreAllAlike : {R : Type 0} → List (LoadedModule R) → LoadedModule R → Type 0
AreAllAlike modules n = All (λ m. AreAlike m n) modules

abbrev pub AreNumbered : {R : Type 0} → List (LoadedModule R) → Type 0
AreNumbered modules = All (AreAllAlike modules) modules

-- ---- a cache, for addresses of this size and a storage with these limits

module _ {R K T : Type 0} (position : R → Position) (number : T → ℕ) (slot_of : K → Slot T)
    (size : ℕ) (rule_limit stack_limit : Option ℕ) (copies_free : Bool) where
  abbrev pub IsRightIn : LoadedModule R → K → Type 0
  IsRightIn loaded slot =
      (a : ℕ) → HoldsRowOf loaded.file a (slot_of slot) →
      (fde : Fde) × IsFoundIn position size loaded a (Ok fde) × Covers fde a
      × SaysRowOf number rule_limit stack_limit copies_free (module_section position size loaded) a
      fde (slot_of slot)

  abbrev pub AreRightIn : LoadedModule R → List K → Type 0
  AreRightIn loaded cache = All (IsRightIn loaded) cache

  abbrev pub AreRightFor : List (LoadedModule R) → List K → Type 0
  AreRightFor modules cache = All (λ loaded. AreRightIn loaded cache) modules

  abbrev pub StayRightIn : LoadedModule R → List K → List K → Type 0
  StayRightIn loaded old new =
      (other : LoadedModule R) → AreAlike loaded other → AreRightIn other old → AreRightIn other new

  abbrev pub StayRightFor : List (LoadedModule R) → List K → List K → Type 0
  StayRightFor modules old new =
      (other : LoadedModule R) → AreAllAlike modules other → AreRightIn other old →
      AreRightIn other new

module _ {R : Type 0} (position : R → Position) (size : ℕ) (rule_limit stack_limit : Option ℕ)
    (copies_free : Bool) where
  abbrev pub AreCachedIn : LoadedModule R → List CachedRow → Type 0
  AreCachedIn = AreRightIn position (λ (n : ℕ). n) slot_view size rule_limit stack_limit copies_free

  abbrev pub AreCachedFor : List (LoadedModule R) → List CachedRow → Type 0
  AreCachedFor =
      AreRightFor position (λ (n : ℕ). n) slot_view size rule_limit stack_limit copies_free

  abbrev pub KeepsIn : LoadedModule R → List CachedRow → List CachedRow → Type 0
  KeepsIn = StayRightIn position (λ (n : ℕ). n) slot_view size rule_limit stack_limit copies_free

  abbrev pub KeepsFor : List (LoadedModule R) → List CachedRow → List CachedRow → Type 0
  KeepsFor = StayRightFor position (λ (n : ℕ). n) slot_view size rule_limit stack_limit copies_free
