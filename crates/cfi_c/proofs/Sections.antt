-- The section that C passes is the one that is given, and so are its header and what is found.
use Rattle.std.proofs.Common.{◌≡◌, ◌∙◌, ℕ, Bool, true, false, List, Option, Some, None, Result, option_map, refl, ap, subst}
use Rattle.cfi_read_core.specs.declared.endianity.RunTimeEndian.{RunTimeEndian}
use Rattle.cfi_read_core.specs.declared.endianity.RunTimeEndian.TheVariants.{Little, Big}
use Rattle.cfi_read_core.specs.declared.error.Error.{Error}
use Rattle.cfi_read_core.specs.ByteOrder.{is_big}
use Rattle.cfi_read_core.specs.SliceReaders.{slice_over}
use Rattle.cfi_state.specs.Row.{Row}
use Rattle.cfi_entry.specs.Sections.{Section, SectionKind, EhFrame}
use Rattle.cfi_entry.specs.Sections as entry
use Rattle.cfi_unwind.specs.AddressRow.{IsRowByScan, row_by_scan}
use Rattle.cfi_unwind.proofs.Laws.{row_is_due_where_fixed, scan_is_due_where_fixed}
use Rattle.gimli_cfi.specs.CheckVerdicts.{IsVerdictIf, IsVerdictOf}
use Rattle.gimli_cfi.specs.EhFrameHdr.{HeaderSection, header_section}
use Rattle.gimli_cfi.specs.RowsByHeader.{IsRowByHeader}
use Rattle.gimli_cfi.specs.SectionSources.{GivenSection, IsGivenRow, IsRowIn, given_as, given_section, header_beside, header_given, section_kind}
use Rattle.gimli_cfi.specs.declared.hdr.verdict.Verdict.{Verdict}
use Rattle.cfi_c.specs.declared.section.CfiBases.{CfiBases}
use Rattle.cfi_c.specs.declared.check.CfiVerdict.{CfiVerdict}
use Rattle.cfi_c.specs.PassedSections.{eh_frame_of, passed_header, kind_beside, passed_kind, passed_order, passed_source, section_as, passed_section, passed_vendor}
use Rattle.cfi_c.specs.AddressRows.{IsAnswerOf, IsTableAnswer}
use Rattle.cfi_c.specs.TableVerdicts.{IsPassedCheck, written_if}

-- ---- byte orders

pub by_order : (e : RunTimeEndian) (big : Bool) → is_big e ≡ big → e ≡ passed_order big
by_order Little big is = ap passed_order is
by_order Big big is = ap passed_order is

same_order : (big : Bool) → is_big (passed_order big) ≡ big
same_order true = refl
same_order false = refl

-- ---- the section

passed_as : (kind : SectionKind) (b : CfiBases) (bytes : List ℕ) (header : Option (List ℕ)) → given_as kind (passed_source b bytes header) ≡ section_as kind b bytes
passed_as kind b bytes header =
    ap (λ big. entry.section_of (record { kind = kind; position = slice_over bytes big; address_size = b.address_size; vendor = passed_vendor b.aarch64 }) (passed_source b bytes header).bases) (same_order b.big_endian)

same_kind : (debug_frame : Bool) → section_kind (kind_beside debug_frame None) ≡ passed_kind debug_frame
same_kind true = refl
same_kind false = refl

pub same_section : (b : CfiBases) (bytes : List ℕ) → given_section (passed_source b bytes None) ≡ passed_section b bytes
same_section b bytes = passed_as (section_kind (kind_beside b.debug_frame None)) b bytes None ∙ ap (λ kind. section_as kind b bytes) (same_kind b.debug_frame)

-- ---- its header

no_header : (debug_frame : Bool) (given : GivenSection) → given.header ≡ None → header_beside (kind_beside debug_frame None) given ≡ None
no_header true given none = refl
no_header false given none = ap (option_map (header_given given)) none

same_header : (b : CfiBases) (bytes header : List ℕ) → header_given (passed_source b bytes (Some header)) header ≡ passed_header b header
same_header b bytes header = ap (λ big. header_section (slice_over header big) b.address_size (passed_source b bytes (Some header)).bases.eh_frame_hdr) (same_order b.big_endian)

-- ---- the row: over the fixed storage the answer is determined by what is found

scanned : (section section' : Section) (a : ℕ) (answer : Result (Row ℕ) Error) → section ≡ section' → IsRowByScan (Some 192) (Some 4) true section a answer → answer ≡ row_by_scan (Some 192) (Some 4) section' a
scanned section section' a answer same is = scan_is_due_where_fixed (Some 192) (Some 4) true _ _ (refl, refl, refl) _ is ∙ ap (λ s. row_by_scan (Some 192) (Some 4) s a) same

by_table : (section section' : Section) (header header' : HeaderSection) (a : ℕ) (answer : Result (Row ℕ) Error)
    → section ≡ section' → header ≡ header' → IsRowByHeader (Some 192) (Some 4) true section a header answer → IsTableAnswer section' header' a answer
by_table section section' header header' a answer sections headers is =
    let so : IsRowByHeader (Some 192) (Some 4) true section' a header' answer =
    subst (λ s. IsRowByHeader (Some 192) (Some 4) true s a header' answer) sections (subst (λ h. IsRowByHeader (Some 192) (Some 4) true section a h answer) headers is) in
    (so.0, so.1, row_is_due_where_fixed (Some 192) (Some 4) true section' a (refl, refl, refl) so.0 answer so.2)

pub passed_answer : (b : CfiBases) (bytes : List ℕ) (header : Option (List ℕ)) (a : ℕ) (answer : Result (Row ℕ) Error)
    → IsGivenRow (Some 192) (Some 4) true (passed_source b bytes header) a answer → IsAnswerOf b bytes header a answer
passed_answer b bytes None a answer is =
    let given = passed_source b bytes None in
    scanned (given_section given) (passed_section b bytes) a answer (same_section b bytes)
    (subst (λ h. IsRowIn (Some 192) (Some 4) true (given_section given) h a answer) (no_header b.debug_frame given refl) is)
passed_answer b bytes (Some header) a answer is =
    by_table (given_as EhFrame (passed_source b bytes (Some header))) (eh_frame_of b bytes) (header_given (passed_source b bytes (Some header)) header) (passed_header b header) a answer
    (passed_as EhFrame b bytes (Some header)) (same_header b bytes header) is

-- ---- the verdict

pub passed_verdict : (b : CfiBases) (bytes : List ℕ) (header : Option (List ℕ)) (verdict : Option Verdict) (out : CfiVerdict)
    → IsVerdictOf (passed_source b bytes header) verdict → out ≡ written_if verdict → IsPassedCheck b bytes header out
passed_verdict b bytes None verdict out is written =
    let given = passed_source b bytes None in
    (verdict, subst (λ h. IsVerdictIf (given_section given) h verdict) (no_header b.debug_frame given refl) is, written)
passed_verdict b bytes (Some header) verdict out is written = (
  verdict,
  subst (λ s. IsVerdictIf s (Some (passed_header b header)) verdict) (passed_as EhFrame b bytes (Some header))
      (subst (λ h. IsVerdictIf (given_as EhFrame (passed_source b bytes (Some header))) (Some h) verdict) (same_header b bytes header) is),
  written,
)
