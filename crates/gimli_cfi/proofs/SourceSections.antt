-- What the code makes of a section's source is the section that it means.
use Rattle.std.proofs.Common.{◌≡◌, ◌∙◌, ℕ, Bool, Option, Some, Result, Ok, Err, refl, ap, subst}
use Rattle.cfi_read_core.specs.declared.common.Vendor.{Vendor}
use Rattle.cfi_read_core.specs.declared.error.Error.{Error}
use Rattle.cfi_read_core.specs.ByteOrder.{is_big}
use Rattle.cfi_read_core.specs.CallFrameSections as kinds
use Rattle.cfi_read_core.specs.ReadFunctions.{Position}
use Rattle.cfi_read_core.specs.ReaderCalls.{map_ok}
use Rattle.cfi_read_core.specs.SliceReaders.{slice_over}
use Rattle.cfi_state.specs.MappedStates.{map_row}
use Rattle.cfi_state.specs.Row.{Row}
use Rattle.cfi_state.proofs.MappedEquality.{as_it_is, same_row}
use Rattle.cfi_entry.specs.Sections.{Section, section_of}
use Rattle.cfi_unwind.specs.AddressRow.{IsRowByScan}
use Rattle.gimli_cfi.specs.EhFrameHdr.{HeaderSection}
use Rattle.gimli_cfi.specs.RowsByHeader.{IsRowByHeader}
use Rattle.gimli_cfi.specs.declared.source.SectionKind.{SectionKind}
use Rattle.gimli_cfi.specs.declared.source.SectionKind.TheVariants.{DebugFrame, EhFrame}
use Rattle.gimli_cfi.specs.SectionSources.{GivenSection, IsGivenRow, IsRowIn, given_as, given_header, given_section, header_beside, section_kind}

-- a section by its parts
pub made_as : (kind : kinds.SectionKind) (given : GivenSection) (position : Position) (size : ℕ) (vendor : Vendor)
    → position ≡ slice_over given.bytes (is_big given.endian) → size ≡ given.address_size → vendor ≡ given.vendor
    → section_of (record { kind = kind; position = position; address_size = size; vendor = vendor }) given.bases ≡ given_as kind given
made_as kind given position size vendor stands sizes vendors =
    λ i. section_of (record { kind = kind; position = stands i; address_size = sizes i; vendor = vendors i }) given.bases

-- rows over offsets that are numbers
pub same_rows : {B : Type 0} (now : B → Row ℕ) (r : Result B Error) → map_ok (λ row. map_row as_it_is (now row)) r ≡ map_ok (λ row. now row) r
same_rows now (Ok row) = ap Ok (same_row (now row))
same_rows now (Err e) = refl

-- ---- only .eh_frame has a header

headed : (kind : SectionKind) (given : GivenSection) (header : HeaderSection) → Some header ≡ header_beside kind given → given_as kinds.EhFrame given ≡ given_as (section_kind kind) given
headed DebugFrame given header is = cc
headed EhFrame given header is = refl

pub of_eh_frame : (given : GivenSection) (section : Section) (header : HeaderSection) → section ≡ given_as kinds.EhFrame given → Some header ≡ given_header given → section ≡ given_section given
of_eh_frame given section header same is = same ∙ headed given.kind given header is

-- ---- the rows

module _ (rule_limit stack_limit : Option ℕ) (copies_free : Bool) where
  pub scanned : (section section' : Section) (a : ℕ) (answer : Result (Row ℕ) Error) → section ≡ section'
      → IsRowByScan rule_limit stack_limit copies_free section a answer → IsRowByScan rule_limit stack_limit copies_free section' a answer
  scanned section section' a answer same is = subst (λ s. IsRowByScan rule_limit stack_limit copies_free s a answer) same is

  pub by_header : (given : GivenSection) (section : Section) (header : HeaderSection) (a : ℕ) (answer : Result (Row ℕ) Error) → section ≡ given_as kinds.EhFrame given → Some header ≡ given_header given
      → IsRowByHeader rule_limit stack_limit copies_free section a header answer → IsGivenRow rule_limit stack_limit copies_free given a answer
  by_header given section header a answer same is row =
      subst (λ h. IsRowIn rule_limit stack_limit copies_free (given_section given) h a answer) is
      (subst (λ s. IsRowByHeader rule_limit stack_limit copies_free s a header answer) (of_eh_frame given section header same is) row)
