-- What is right to say of a section and its header.
use Rattle.std.specs.Prelude.{◌≡◌, Option, Some, None, Ok, Err}
use Rattle.cfi_entry.specs.Sections.{Section}
use Rattle.gimli_cfi.specs.EhFrameHdr.{Header, HeaderSection, header_of}
use Rattle.gimli_cfi.specs.SectionSources.{GivenSection, given_header, given_section}
use Rattle.gimli_cfi.specs.TableCheck.{IsReason, Listing, ListsFaithfully}
use Rattle.gimli_cfi.specs.declared.hdr.verdict.Verdict.{Verdict}
use Rattle.gimli_cfi.specs.declared.hdr.verdict.Verdict.TheVariants.{Faithful, Unfaithful}
use Rattle.gimli_cfi.specs.declared.hdr.verdict.Verdict.TheVariants.{NoTable, Refused}

-- The header is read and has rows: the table that is checked, with its section.
pub record IsChecked (section : Section) (header : HeaderSection) (listing : Listing) : Type 0 where
  pub read : Header
  pub reads : header_of header ≡ Ok read
  pub rows : read.table ≡ Some listing.table
  pub points : read.eh_frame ≡ listing.eh_frame
  pub of_header : listing.header ≡ header
  pub of_section : listing.section ≡ section

-- The table lists the FDEs of the section faithfully; or a reason holds, and it doesn't; or there
-- is no table.
abbrev pub IsVerdict : Section → HeaderSection → Verdict → Type 0
IsVerdict section header (Faithful rows) =
    (listing : Listing) × IsChecked section header listing × ListsFaithfully listing
    × (rows ≡ listing.table.count)
IsVerdict section header (Unfaithful reason) =
    (listing : Listing) × IsChecked section header listing × IsReason listing reason
    × (ListsFaithfully listing → ⊥)
IsVerdict section header NoTable =
    (read : Header) × (header_of header ≡ Ok read) × (read.table ≡ None)
IsVerdict section header (Refused error) = header_of header ≡ Err error

-- there is none where there is no header
abbrev pub IsVerdictIf : Section → Option HeaderSection → Option Verdict → Type 0
IsVerdictIf section None verdict = verdict ≡ None
IsVerdictIf section (Some header) None = ⊥
IsVerdictIf section (Some header) (Some verdict) = IsVerdict section header verdict

abbrev pub IsVerdictOf : GivenSection → Option Verdict → Type 0
IsVerdictOf given verdict = IsVerdictIf (given_section given) (given_header given) verdict
