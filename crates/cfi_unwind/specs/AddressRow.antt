-- The row that a section gives for an address, or the first refusal on the way.
--     setting rule_limit stack_limit fde      what stays fixed while the programs of an FDE and its
--         CIE run
--     row_of_fde .. fde      the answer of one FDE: the refusal of its CIE's initial instructions,
--         else its first refusal or row with the address
--     row_by_scan .. section a      that of the first FDE that covers the address, or the first
--         refusal before it
--     ScansForRow, ScansForRowFrom asks .. section a      the section is scanned for the FDE of the
--         address, with `get_cie`, for the row
--     IsRowOfFde, IsRowOfFound, IsRowByScan      over any storage: the answer of an FDE, of the FDE
--         or refusal that was found, and of the section, or `OutOfMemory` where an instruction that
--         may allocate is reached on the way to it
use Rattle.std.specs.Prelude.{ℕ, Bool, false, Option, Result, Ok, Err}
use Rattle.cfi_read_core.specs.declared.error.Error.{Error}
use Rattle.cfi_state.specs.MachineSettings.{Setting}
use Rattle.cfi_state.specs.Row.{Row}
use Rattle.cfi_state.specs.FdeAnswers.{fde_answer}
use Rattle.cfi_state.specs.Allocation.{may_allocate}
use Rattle.cfi_state.specs.MemoryOnTheWay.{may_allocate_on_the_way, IsDueOrOutOfMemory}
use Rattle.cfi_entry.specs.Sections.{Section}
use Rattle.cfi_entry.specs.Cies.{Cie}
use Rattle.cfi_entry.specs.Fdes.{Fde, end_of}
use Rattle.cfi_entry.specs.Entries.{entries}
use Rattle.cfi_entry.specs.EntryInstructions.{cie_instructions, fde_instructions}
use Rattle.cfi_unwind.specs.Scan.{answer_by, chosen_fde, scan_answer}
use Rattle.cfi_unwind.specs.GetCieCalls.{Scans}

-- by the limits of a storage: of the rules in a row, and of the rows that are held
abbrev pub setting : Option ℕ → Option ℕ → Fde → Setting
setting rule_limit stack_limit fde = record {
  address_size = fde.cie.address_size;
  code_alignment_factor = fde.cie.code_alignment_factor;
  data_alignment_factor = fde.cie.data_alignment_factor;
  initial_address = fde.initial;
  end_address = end_of fde;
  rule_limit = rule_limit;
  stack_limit = stack_limit;
}

abbrev pub row_of_fde : Option ℕ → Option ℕ → Section → ℕ → Fde → Result (Row ℕ) Error
row_of_fde rule_limit stack_limit section a fde =
    fde_answer (setting rule_limit stack_limit fde) (cie_instructions section fde.cie)
    (fde_instructions section fde) a

abbrev pub row_by_scan : Option ℕ → Option ℕ → Section → ℕ → Result (Row ℕ) Error
row_by_scan rule_limit stack_limit section a =
    scan_answer (row_of_fde rule_limit stack_limit section a) section a

-- ---- over any storage; `copies_free` is whether it copies the rules of a row without taking
--     memory

-- On the way to the answer for the address an instruction of the FDE or its CIE is reached that may
-- allocate: all before it are accepted, and no row with the address has ended. Over a fixed storage
-- there is none.
abbrev pub allocates_in_fde : Option ℕ → Option ℕ → Bool → Section → ℕ → Fde → Bool
allocates_in_fde rule_limit stack_limit copies_free section a fde =
    let s = setting rule_limit stack_limit fde in
    may_allocate_on_the_way (may_allocate s copies_free) s (cie_instructions section fde.cie)
    (fde_instructions section fde) a

-- nothing allocates where a refusal was found
abbrev pub allocates_in_found : Option ℕ → Option ℕ → Bool → Section → ℕ → Result Fde Error → Bool
allocates_in_found rule_limit stack_limit copies_free section a (Ok fde) =
    allocates_in_fde rule_limit stack_limit copies_free section a fde
allocates_in_found rule_limit stack_limit copies_free section a (Err e) = false

-- the row for an address of this FDE
abbrev pub IsRowOfFde :
    Option ℕ → Option ℕ → Bool → Section → ℕ → Fde → Result (Row ℕ) Error → Type 0
IsRowOfFde rule_limit stack_limit copies_free section a fde row =
    IsDueOrOutOfMemory (row_of_fde rule_limit stack_limit section a fde)
    (allocates_in_fde rule_limit stack_limit copies_free section a fde) row

-- the row for an address where this FDE or refusal was found
abbrev pub IsRowOfFound :
    Option ℕ → Option ℕ → Bool → Section → ℕ → Result Fde Error → Result (Row ℕ) Error → Type 0
IsRowOfFound rule_limit stack_limit copies_free section a found row =
    IsDueOrOutOfMemory (answer_by (row_of_fde rule_limit stack_limit section a) found)
    (allocates_in_found rule_limit stack_limit copies_free section a found) row

-- the row for an address by going through the section, each FDE with the CIE to which it points
abbrev pub IsRowByScan : Option ℕ → Option ℕ → Bool → Section → ℕ → Result (Row ℕ) Error → Type 0
IsRowByScan rule_limit stack_limit copies_free section a row =
    IsDueOrOutOfMemory (row_by_scan rule_limit stack_limit section a)
    (allocates_in_found rule_limit stack_limit copies_free section a (chosen_fde section a)) row

-- The same where a closure gives the CIEs: from its state f to its state g, or to some state, where
-- it was passed by value.
abbrev pub ScansForRow :
    {F : Type 0} → (F → ℕ → Result Cie Error → F → Type 0) → Option ℕ → Option ℕ → Bool → Section →
    ℕ → F → Result (Row ℕ) Error → F → Type 0
ScansForRow asks rule_limit stack_limit copies_free section a f row g =
    (found : Result Fde Error) × Scans asks section a (entries section) f found g
    × IsRowOfFound rule_limit stack_limit copies_free section a found row

abbrev pub ScansForRowFrom :
    {F : Type 0} → (F → ℕ → Result Cie Error → F → Type 0) → Option ℕ → Option ℕ → Bool → Section →
    ℕ → F → Result (Row ℕ) Error → Type 0
ScansForRowFrom {F} asks rule_limit stack_limit copies_free section a f row =
    (found : Result Fde Error) × (last : F) × Scans asks section a (entries section) f found last
    × IsRowOfFound rule_limit stack_limit copies_free section a found row
