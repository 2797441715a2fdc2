-- A section whose kind is known only when the program runs, as a caller gives it.
--     GivenSection, source_view source      what is given, and that of a `SectionSource`
--     given_section given      the section that it means; given_as kind given the same read as one
--         of the two, whichever it is
--     given_header given      its header, which only .eh_frame has
--     section_made section      what a `CallFrameSection` of the code is
--     IsGivenRow .. given address row      the row by the header's table, or by a scan where there
--         is no header
use Rattle.std.specs.Prelude.{ℕ, Bool, Option, Some, None, Result, option_map, List}
use Rattle.cfi_read_core.specs.declared.common.Vendor.{Vendor}
use Rattle.cfi_read_core.specs.declared.endianity.RunTimeEndian.{RunTimeEndian}
use Rattle.cfi_read_core.specs.declared.error.Error.{Error}
use Rattle.cfi_read_core.specs.AddressSizes.{size_in_bytes}
use Rattle.cfi_read_core.specs.ByteOrder.{is_big}
use Rattle.cfi_read_core.specs.CallFrameSections as kinds
use Rattle.cfi_read_core.specs.CallFrameSections.{SectionView}
use Rattle.cfi_read_core.specs.SliceReaders.{slice_over, slice_position}
use Rattle.cfi_parts.specs.declared.pointer.BaseAddresses.{BaseAddresses}
use Rattle.cfi_state.specs.Row.{Row}
use Rattle.cfi_entry.specs.Sections.{Section, section_of}
use Rattle.cfi_entry.specs.SectionViews.{debug_frame_view, eh_frame_view}
use Rattle.cfi_unwind.specs.AddressRow.{IsRowByScan}
use Rattle.gimli_cfi.specs.EhFrameHdr.{HeaderSection, header_section}
use Rattle.gimli_cfi.specs.RowsByHeader.{IsRowByHeader}
use Rattle.gimli_cfi.specs.declared.source.CallFrameSection.{CallFrameSection}
use Rattle.gimli_cfi.specs.declared.source.CallFrameSection.TheVariants as made
use Rattle.gimli_cfi.specs.declared.source.SectionKind.{SectionKind}
use Rattle.gimli_cfi.specs.declared.source.SectionKind.TheVariants.{DebugFrame, EhFrame}
use Rattle.gimli_cfi.specs.declared.source.SectionSource.{SectionSource}

-- A section as a caller gives it: its bytes and those of its header, and what is said of both.
pub record GivenSection : Type 0 where
  pub kind : SectionKind
  pub endian : RunTimeEndian
  pub address_size : ℕ
  pub vendor : Vendor
  pub bases : BaseAddresses
  pub bytes : List ℕ
  pub header : Option (List ℕ)

abbrev pub source_view : SectionSource → GivenSection
source_view source = record {
  kind = source.kind;
  endian = source.endian;
  address_size = size_in_bytes source.address_size;
  vendor = source.vendor;
  bases = source.bases;
  bytes = source.bytes.now;
  header = option_map (λ bytes. bytes.now) source.header;
}

-- ---- the section

abbrev pub section_kind : SectionKind → kinds.SectionKind
section_kind DebugFrame = kinds.DebugFrame
section_kind EhFrame = kinds.EhFrame

-- all of its bytes, from the first on
abbrev pub given_as : kinds.SectionKind → GivenSection → Section
given_as kind given =
    section_of
    (record {
      kind = kind;
      position = slice_over given.bytes (is_big given.endian);
      address_size = given.address_size;
      vendor = given.vendor;
    })
    given.bases

abbrev pub given_section : GivenSection → Section
given_section given = given_as (section_kind given.kind) given

-- as the code has it
abbrev pub section_made : CallFrameSection → SectionView
section_made (made.DebugFrame frame) = debug_frame_view (slice_position is_big) frame
section_made (made.EhFrame frame) = eh_frame_view (slice_position is_big) frame

-- ---- its header

-- all of the header's bytes, with the bases of its pointers
abbrev pub header_given : GivenSection → List ℕ → HeaderSection
header_given given bytes =
    header_section (slice_over bytes (is_big given.endian)) given.address_size
    given.bases.eh_frame_hdr

-- .debug_frame has none
abbrev pub header_beside : SectionKind → GivenSection → Option HeaderSection
header_beside DebugFrame given = None
header_beside EhFrame given = option_map (header_given given) given.header

abbrev pub given_header : GivenSection → Option HeaderSection
given_header given = header_beside given.kind given

-- ---- the row of an address

module _ (rule_limit stack_limit : Option ℕ) (copies_free : Bool) where
  abbrev pub IsRowIn : Section → Option HeaderSection → ℕ → Result (Row ℕ) Error → Type 0
  IsRowIn section None a row = IsRowByScan rule_limit stack_limit copies_free section a row
  IsRowIn section (Some header) a row =
      IsRowByHeader rule_limit stack_limit copies_free section a header row

  abbrev pub IsGivenRow : GivenSection → ℕ → Result (Row ℕ) Error → Type 0
  IsGivenRow given a row = IsRowIn (given_section given) (given_header given) a row
