-- The row that a section with a header gives for an address.
--     FoundByTable section a header eh_frame table found      the FDE, or the error in its place,
--         by the table; by a scan of the section if there is none
--     FoundByHeader section a header read found      the same by a parsed header, or the error of
--         one that can't be parsed
--     IsRowByHeader .. section a header row      the row of what is found
use Rattle.std.specs.Prelude.{◌≡◌, ℕ, Bool, Option, Some, None, Result, Ok, Err}
use Rattle.cfi_read_core.specs.declared.error.Error.{Error}
use Rattle.cfi_parts.specs.declared.pointer.Pointer.{Pointer}
use Rattle.cfi_state.specs.Row.{Row}
use Rattle.cfi_entry.specs.Sections.{Section}
use Rattle.cfi_entry.specs.Fdes.{Fde}
use Rattle.cfi_unwind.specs.Scan.{chosen_fde}
use Rattle.cfi_unwind.specs.AddressRow.{IsRowOfFound}
use Rattle.gimli_cfi.specs.EhFrameHdr.{HeaderSection, Header, Table, header_of, start_of}
use Rattle.gimli_cfi.specs.TableLookup.{IsFoundByTable}

abbrev pub FoundByTable :
    Section → ℕ → HeaderSection → Pointer → Option Table → Result Fde Error → Type 0
FoundByTable section a header eh_frame None found = found ≡ chosen_fde section a
FoundByTable section a header eh_frame (Some table) found =
    IsFoundByTable (start_of header table) header table eh_frame section a found

abbrev pub FoundByHeader :
    Section → ℕ → HeaderSection → Result Header Error → Result Fde Error → Type 0
FoundByHeader section a header (Err e) found = found ≡ Err e
FoundByHeader section a header (Ok read) found =
    FoundByTable section a header read.eh_frame read.table found

abbrev pub IsRowByHeader :
    Option ℕ → Option ℕ → Bool → Section → ℕ → HeaderSection → Result (Row ℕ) Error → Type 0
IsRowByHeader rule_limit stack_limit copies_free section a header answer =
    (found : Result Fde Error) × FoundByHeader section a header (header_of header) found
    × IsRowOfFound rule_limit stack_limit copies_free section a found answer
