-- What a table with its section gives for an address. `start` has the start of each row, by a
-- source of starts.
--     IsFdeFound start listing address found      the FDE that the table names for it, or the error
--         in its place
--     IsRowByTable .. start listing address row      the row of what is found
--     IfStartsOf listing start P      P, if the source gives the starts of the table's rows
--     IfFaithful start listing P      P, if it does and the table lists the FDEs faithfully
-- With any `get_cie` closure, from its state f to its state g, and by the table's own starts:
--     FindsFde asks listing address f found g      the FDE, or the error in its place
--     LeadsToRow asks .. listing address f row g, FindsRow asks .. listing address f row      its
--         row
use Rattle.std.specs.Prelude.{◌≡◌, ◌<◌, ℕ, Bool, Option, Result}
use Rattle.cfi_read_core.specs.declared.error.Error.{Error}
use Rattle.cfi_parts.specs.declared.pointer.Pointer.TheVariants.{Direct}
use Rattle.cfi_state.specs.Row.{Row}
use Rattle.cfi_entry.specs.Cies.{Cie}
use Rattle.cfi_entry.specs.Fdes.{Fde}
use Rattle.cfi_unwind.specs.AddressRow.{IsRowOfFound}
use Rattle.gimli_cfi.specs.EhFrameHdr.{start_of}
use Rattle.gimli_cfi.specs.FaithfulTables.{IsFaithful}
use Rattle.gimli_cfi.specs.TableCheck.{Listing}
use Rattle.gimli_cfi.specs.TableLookup.{FindsByTable, IsFoundByTable}

abbrev pub IsFdeFound : (ℕ → Result ℕ Error) → Listing → ℕ → Result Fde Error → Type 0
IsFdeFound start l address found =
    IsFoundByTable start l.header l.table l.eh_frame l.section address found

abbrev pub IsRowByTable :
    Option ℕ → Option ℕ → Bool → (ℕ → Result ℕ Error) → Listing → ℕ → Result (Row ℕ) Error → Type 0
IsRowByTable rule_limit stack_limit copies_free start l address row =
    (found : Result Fde Error) × IsFdeFound start l address found
    × IsRowOfFound rule_limit stack_limit copies_free l.section address found row

abbrev pub IfStartsOf : Listing → (ℕ → Result ℕ Error) → Type 0 → Type 0
IfStartsOf l start P = ((k : ℕ) → k < l.table.count → start k ≡ start_of l.header l.table k) → P

abbrev pub IfFaithful : (ℕ → Result ℕ Error) → Listing → Type 0 → Type 0
IfFaithful start l P =
    (eh_frame : ℕ) → l.eh_frame ≡ Direct eh_frame → IsFaithful l.header l.table eh_frame l.section →
    IfStartsOf l start P

-- ---- with any `get_cie` closure

module _ {F : Type 0} (asks : F → ℕ → Result Cie Error → F → Type 0) where
  abbrev pub FindsFde : Listing → ℕ → F → Result Fde Error → F → Type 0
  FindsFde l address f found g =
      FindsByTable asks l.header l.table l.eh_frame l.section address f found g

  abbrev pub LeadsToRow :
      Option ℕ → Option ℕ → Bool → Listing → ℕ → F → Result (Row ℕ) Error → F → Type 0
  LeadsToRow rule_limit stack_limit copies_free l address f row g =
      (found : Result Fde Error) × FindsFde l address f found g
      × IsRowOfFound rule_limit stack_limit copies_free l.section address found row

  -- the state in which the closure is left is not named
  abbrev pub FindsRow : Option ℕ → Option ℕ → Bool → Listing → ℕ → F → Result (Row ℕ) Error → Type 0
  FindsRow rule_limit stack_limit copies_free l address f row =
      (found : Result Fde Error) × (last : F) × FindsFde l address f found last
      × IsRowOfFound rule_limit stack_limit copies_free l.section address found row
