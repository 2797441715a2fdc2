-- The verdict is that of the section and its header.
use Rattle.std.proofs.Common.{◌≡◌, Some, None, Ok, refl, subst, sym}
use Rattle.cfi_entry.specs.Sections.{Section, EhFrame}
use Rattle.gimli_cfi.specs.EhFrameHdr.{Header, HeaderSection, header_of}
use Rattle.gimli_cfi.specs.SectionSources.{GivenSection, given_as, given_header, given_section}
use Rattle.gimli_cfi.specs.TableCheck.{Listing}
use Rattle.gimli_cfi.proofs.SourceSections.{of_eh_frame}
use Rattle.gimli_cfi.specs.declared.hdr.verdict.Verdict.{Verdict}
use Rattle.gimli_cfi.specs.CheckVerdicts.{IsChecked, IsVerdict, IsVerdictIf, IsVerdictOf}

pub is_checked : (section : Section) (header : HeaderSection) (read : Header) (l : Listing) → Ok read ≡ header_of header → Some l.table ≡ read.table → read.eh_frame ≡ l.eh_frame → l.header ≡ header → l.section ≡ section
    → IsChecked section header l
is_checked section header read l reads rows points of_header of_section = record {
  read = read;
  reads = sym reads;
  rows = sym rows;
  points = points;
  of_header = of_header;
  of_section = of_section;
}

-- that of the section and its header
pub verdict_of : (given : GivenSection) (section : Section) (header : HeaderSection) (verdict : Verdict) → section ≡ given_as EhFrame given → Some header ≡ given_header given
    → IsVerdict section header verdict → IsVerdictOf given (Some verdict)
verdict_of given section header verdict same headed is =
    subst (λ h. IsVerdictIf (given_section given) h (Some verdict)) headed (subst (λ s. IsVerdict s header verdict) (of_eh_frame given section header same headed) is)

pub no_verdict : (given : GivenSection) → None ≡ given_header given → IsVerdictOf given None
no_verdict given none = subst (λ h. IsVerdictIf (given_section given) h None) none refl
