-- What a slot of a cache of rows holds: the row of an address of a file, with what its CIE says of
-- the return (DWARF 5 section 6.4.1).
--     HoldsRowOf file a slot      it holds the row of an address of a file
--     Says parts ra trampoline slot      what its row says, and what the CIE says of the return
--     HoldsRowAtMost file a parts ra trampoline slot      it holds a row that says this, or none
--     KeepsRow file a parts ra trampoline old new      a row that says this may have been kept
--     SaysRowOf .. a fde slot      the slot says what the FDE has for the address
--     KeepsRowOf .. a fde file old new      what the FDE has for the address may have been kept
use Rattle.std.specs.Prelude.{◌≡◌, ℕ, Bool, true, List, Option, Ok}
use Rattle.cfi_read_core.specs.declared.common.Register.{Register}
use Rattle.cfi_state.specs.Machine.{Parts}
use Rattle.cfi_state.specs.MappedStates.{map_row}
use Rattle.cfi_state.specs.Row.{Row}
use Rattle.cfi_entry.specs.Augmentations.{is_trampoline}
use Rattle.cfi_entry.specs.Fdes.{Fde}
use Rattle.cfi_entry.specs.Sections.{Section}
use Rattle.cfi_unwind.specs.AddressRow.{IsRowOfFde}
use Rattle.cfi_step.specs.KeptSlots.{HoldsAtMost, Keeps}

pub record Slot (T : Type 0) : Type 0 where
  pub is_kept : Bool
  pub file : ℕ
  pub address : ℕ
  pub parts : Parts T
  pub return_address : Register
  pub is_signal_trampoline : Bool

module _ {T : Type 0} where
  -- the address is one that the file has
  abbrev pub HoldsRowOf : ℕ → ℕ → Slot T → Type 0
  HoldsRowOf file a slot = (slot.is_kept ≡ true) × (slot.file ≡ file) × (slot.address ≡ a)

  abbrev pub Says : Parts T → Register → Bool → Slot T → Type 0
  Says parts ra trampoline slot =
      (slot.parts ≡ parts) × (slot.return_address ≡ ra) × (slot.is_signal_trampoline ≡ trampoline)

  -- a row that says this, or none
  abbrev pub HoldsRowAtMost : ℕ → ℕ → Parts T → Register → Bool → Slot T → Type 0
  HoldsRowAtMost file a parts ra trampoline =
      HoldsAtMost HoldsRowOf file a (Says parts ra trampoline)

module _ {K T : Type 0} (slot_of : K → Slot T) where
  abbrev pub HoldsIn : ℕ → ℕ → K → Type 0
  HoldsIn file a slot = HoldsRowOf file a (slot_of slot)

  abbrev pub KeepsRow : ℕ → ℕ → Parts T → Register → Bool → List K → List K → Type 0
  KeepsRow file a parts ra trampoline =
      Keeps HoldsIn file a (λ slot. Says parts ra trampoline (slot_of slot))

-- ---- rows of an FDE

module _ {T : Type 0} (number : T → ℕ) (rule_limit stack_limit : Option ℕ) (copies_free : Bool)
    (section : Section) (a : ℕ) (fde : Fde) where
  -- the slot says what the FDE has for the address
  abbrev pub SaysRowOf : Slot T → Type 0
  SaysRowOf slot =
      (row : Row T)
      × IsRowOfFde rule_limit stack_limit copies_free section a fde (Ok (map_row number row))
      × Says row.parts fde.cie.return_address_register (is_trampoline fde.cie.augmentation) slot

  abbrev pub KeepsRowOf : {K : Type 0} → (K → Slot T) → ℕ → List K → List K → Type 0
  KeepsRowOf slot_of file =
      Keeps (HoldsIn slot_of) file a (λ slot. SaysRowOf (slot_of slot))
