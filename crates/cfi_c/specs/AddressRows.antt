-- The row of an address, as C gets it.
--     IsAnsweredForC answer out rules first count      the row with its status and, from `first`
--         on, the rules of the registers below `count`; after an error the number that it carries
--     IsAnswerOf bases bytes header a answer      the row of the address, without a header by a
--         scan of the section
--     IsAnswerForC live bases bytes header a out rules first count      what C gets, with a context
--         or none
use Rattle.std.specs.Prelude.{◌≡◌, ℕ, pos, Bool, true, false, List, Option, Some, None, Result, Ok}
use Rattle.std.specs.Prelude.{Err}
use Rattle.cfi_read_core.specs.declared.error.Error.{Error}
use Rattle.cfi_read_core.specs.declared.error.Error.TheVariants.{UnsupportedAddressSize}
use Rattle.cfi_read_core.specs.Addresses.{IsAddressSize}
use Rattle.cfi_parts.specs.declared.pointer.Pointer.TheVariants.{Direct}
use Rattle.cfi_state.specs.Row.{Row}
use Rattle.cfi_entry.specs.Sections.{Section}
use Rattle.cfi_entry.specs.Fdes.{Fde}
use Rattle.cfi_unwind.specs.Scan.{answer_by}
use Rattle.cfi_unwind.specs.AddressRow.{row_by_scan, row_of_fde}
use Rattle.gimli_cfi.specs.EhFrameHdr as headers
use Rattle.gimli_cfi.specs.FaithfulTables.{IsFaithful}
use Rattle.gimli_cfi.specs.RowsByHeader.{FoundByHeader}
use Rattle.cfi_c.specs.declared.section.CfiBases.{CfiBases}
use Rattle.cfi_c.specs.declared.written.CfiRow.{CfiRow}
use Rattle.cfi_c.specs.declared.written.CfiRule.{CfiRule}
use Rattle.cfi_c.specs.Refusals.{error_status}
use Rattle.cfi_read_core.specs.RefusalNames.{value_of}
use Rattle.cfi_c.specs.PassedSections.{eh_frame_of, passed_header, passed_section}
use Rattle.cfi_c.specs.WrittenRows.{IsRules, IsWritten}

abbrev pub IsAnsweredForC : Result (Row ℕ) Error → CfiRow → List CfiRule → ℕ → ℕ → Type 0
IsAnsweredForC (Ok row) out rules first count =
    (out.status ≡ pos 0) × IsWritten row out × IsRules row rules first count
IsAnsweredForC (Err e) out rules first count =
    (out.status ≡ error_status e) × (out.refused ≡ value_of e)

-- of the FDE that is found, or the refusal in its place
abbrev pub IsTableAnswer : Section → headers.HeaderSection → ℕ → Result (Row ℕ) Error → Type 0
IsTableAnswer section header a answer =
    (found : Result Fde Error) × FoundByHeader section a header (headers.header_of header) found
    × (answer ≡ answer_by (row_of_fde (Some 192) (Some 4) section a) found)

abbrev pub IsAnswerOf : CfiBases → List ℕ → Option (List ℕ) → ℕ → Result (Row ℕ) Error → Type 0
IsAnswerOf bases bytes None a answer =
    answer ≡ row_by_scan (Some 192) (Some 4) (passed_section bases bytes) a
IsAnswerOf bases bytes (Some header) a answer =
    IsTableAnswer (eh_frame_of bases bytes) (passed_header bases header) a answer

abbrev pub IsSizedAnswer : CfiBases → List ℕ → Option (List ℕ) → ℕ → Result (Row ℕ) Error → Type 0
IsSizedAnswer bases bytes header a answer =
    ((IsAddressSize bases.address_size → ⊥) →
    answer ≡ Err (UnsupportedAddressSize bases.address_size))
    × (IsAddressSize bases.address_size → IsAnswerOf bases bytes header a answer)

-- the header has a table, and it lists the FDEs of the section faithfully
abbrev pub IsFaithfulHeader : CfiBases → List ℕ → List ℕ → Type 0
IsFaithfulHeader bases bytes header =
    (read : headers.Header) × (table : headers.Table) × (eh_frame : ℕ)
    × (headers.header_of (passed_header bases header) ≡ Ok read) × (read.table ≡ Some table)
    × (read.eh_frame ≡ Direct eh_frame)
    × IsFaithful (passed_header bases header) table eh_frame (eh_frame_of bases bytes)

-- the row by a scan of .eh_frame
abbrev pub IsScannedForC : CfiBases → List ℕ → ℕ → CfiRow → List CfiRule → ℕ → ℕ → Type 0
IsScannedForC bases bytes a out rules first count =
    IsAnsweredForC (row_by_scan (Some 192) (Some 4) (eh_frame_of bases bytes) a) out rules first
    count

-- 64: there is no context
abbrev pub IsAnswerForC :
    Bool → CfiBases → List ℕ → Option (List ℕ) → ℕ → CfiRow → List CfiRule → ℕ → ℕ → Type 0
IsAnswerForC true bases bytes header a out rules first count =
    (answer : Result (Row ℕ) Error) × IsSizedAnswer bases bytes header a answer
    × IsAnsweredForC answer out rules first count
IsAnswerForC false bases bytes header a out rules first count =
    (out.status ≡ pos 64) × (out.refused ≡ 0)

-- whether there is a context
abbrev pub is_live : {A : Type 0} → Option A → Bool
is_live None = false
is_live (Some context) = true
