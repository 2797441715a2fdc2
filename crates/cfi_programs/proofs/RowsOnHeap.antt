-- Over the fixed storage the answer is that of the bytes alone.
use Rattle.std.proofs.Common.{◌≡◌, ℕ, true, Option, Some, None, Result, refl, subst}
use Rattle.cfi_read_core.specs.declared.error.Error.{Error}
use Rattle.cfi_state.specs.Row.{Row}
use Rattle.cfi_entry.specs.Fdes.{Fde}
use Rattle.cfi_entry.specs.Sections.{Section}
use Rattle.cfi_unwind.specs.Scan.{answer_by, chosen_fde}
use Rattle.cfi_unwind.specs.AddressRow.{row_of_fde}
use Rattle.cfi_unwind.proofs.Laws.{row_is_due_where_fixed}
use Rattle.gimli_cfi.specs.EhFrameHdr.{HeaderSection, header_of}
use Rattle.gimli_cfi.specs.RowsByHeader.{FoundByHeader}
use Rattle.gimli_cfi.specs.SectionSources.{GivenSection, IsRowIn, given_header, given_section}
use Rattle.cfi_programs.specs.declared.rows.command_line.Request.{Request}
use Rattle.cfi_programs.specs.declared.rows.command_line.Storage.TheVariants.{OnHeap}
use Rattle.cfi_programs.specs.Input.{Bytes}
use Rattle.cfi_programs.specs.SectionOfWords.{given_by}
use Rattle.cfi_programs.specs.RowsProgramOutput.{IsRequestedRow, limits_of}

-- the FDE for the address, or the refusal in its place
abbrev FoundIn : Section → Option HeaderSection → ℕ → Result Fde Error → Type 0
FoundIn section None a found = found ≡ chosen_fde section a
FoundIn section (Some header) a found = FoundByHeader section a header (header_of header) found

row_of_found : (section : Section) (header : Option HeaderSection) (a : ℕ) (answer : Result (Row ℕ) Error) → IsRowIn (Some 192) (Some 4) true section header a answer
    → (found : Result Fde Error) × FoundIn section header a found × (answer ≡ answer_by (row_of_fde (Some 192) (Some 4) section a) found)
row_of_found section None a answer is =
    (chosen_fde section a, refl, row_is_due_where_fixed (Some 192) (Some 4) true section a (refl, refl, refl) (chosen_fde section a) answer is)
row_of_found section (Some header) a answer (found, finds, is) =
    (found, finds, row_is_due_where_fixed (Some 192) (Some 4) true section a (refl, refl, refl) found answer is)

abbrev given : Request → Bytes → GivenSection
given r bytes = given_by r.words bytes.section bytes.header

pub answer_of_found : (r : Request) (bytes : Bytes) (answer : Result (Row ℕ) Error) → r.storage ≡ OnHeap → IsRequestedRow (limits_of r.storage) r bytes answer
    → (found : Result Fde Error) × FoundIn (given_section (given r bytes)) (given_header (given r bytes)) r.address found × (answer ≡ answer_by (row_of_fde (Some 192) (Some 4) (given_section (given r bytes)) r.address) found)
answer_of_found r bytes answer e is =
    row_of_found (given_section (given r bytes)) (given_header (given r bytes)) r.address answer (subst (λ storage. IsRequestedRow (limits_of storage) r bytes answer) e is)
