-- The sections that C passes.
--     passed_section bases bytes      the section; eh_frame_of the same as .eh_frame
--     section_beside header bases bytes      the section, which beside a header is .eh_frame
--     passed_header bases bytes      its header
--     passed_source bases bytes header      the section with what C says of it, and its header if
--         it has one
use Rattle.std.specs.Prelude.{ℕ, Bool, true, false, List, [], ◌∷◌, length, Option, Some, None}
use Rattle.std.specs.Borrow.{Bor}
use Rattle.std.specs.Option.{option_map}
use Rattle.cfi_read_core.specs.declared.common.Vendor.{Vendor}
use Rattle.cfi_read_core.specs.declared.common.Vendor.TheVariants as vendor
use Rattle.cfi_read_core.specs.declared.endianity.RunTimeEndian.{RunTimeEndian}
use Rattle.cfi_read_core.specs.declared.endianity.RunTimeEndian.TheVariants.{Big, Little}
use Rattle.cfi_read_core.specs.ReadFunctions.{Source}
use Rattle.cfi_entry.specs.Sections.{DebugFrame, EhFrame, Section, SectionKind}
use Rattle.gimli_cfi.specs.EhFrameHdr as headers
use Rattle.gimli_cfi.specs.declared.source.SectionKind.{SectionKind as SourceKind}
use Rattle.gimli_cfi.specs.declared.source.SectionKind.TheVariants as kinds
use Rattle.gimli_cfi.specs.SectionSources.{GivenSection}
use Rattle.cfi_c.specs.declared.section.CfiBases.{CfiBases}

abbrev pub passed_kind : Bool → SectionKind
passed_kind true = DebugFrame
passed_kind false = EhFrame

abbrev pub passed_vendor : Bool → Vendor
passed_vendor true = vendor.AArch64
passed_vendor false = vendor.Default

abbrev pub source_of : CfiBases → List ℕ → Source
source_of bases bytes = record {
  whole = bytes;
  last = length bytes;
  big_endian = bases.big_endian;
  greatest = 0xffffffffffffffff;
}

abbrev pub section_as : SectionKind → CfiBases → List ℕ → Section
section_as kind bases bytes = record {
  kind = kind;
  source = source_of bases bytes;
  first = 0;
  address_size = bases.address_size;
  vendor = passed_vendor bases.aarch64;
  bases = record {
    section = Some bases.section;
    text = Some bases.text;
    data_base = Some bases.data_base;
  };
}

abbrev pub passed_section : CfiBases → List ℕ → Section
passed_section bases bytes = section_as (passed_kind bases.debug_frame) bases bytes

-- a header is that of .eh_frame
abbrev pub eh_frame_of : CfiBases → List ℕ → Section
eh_frame_of bases bytes = section_as EhFrame bases bytes

abbrev pub section_beside : Option (List ℕ) → CfiBases → List ℕ → Section
section_beside (Some header) bases bytes = eh_frame_of bases bytes
section_beside None bases bytes = passed_section bases bytes

-- in a header data counts from the header itself
abbrev pub passed_header : CfiBases → List ℕ → headers.HeaderSection
passed_header bases bytes = record {
  source = source_of bases bytes;
  first = 0;
  address_size = bases.address_size;
  bases =
      record { section = Some bases.header; text = Some bases.text; data_base = Some bases.header };
}

-- the bytes of a header, where there is one
abbrev pub lent : {A : Type 0} → Option (Bor A) → Option A
lent header = option_map (λ bytes. bytes.now) header

-- no bytes are no header
abbrev pub header_in : List ℕ → Option (List ℕ)
header_in [] = None
header_in (b ∷ bytes) = Some (b ∷ bytes)

-- ---- both together

abbrev pub passed_order : Bool → RunTimeEndian
passed_order true = Big
passed_order false = Little

-- beside a header the section is .eh_frame
abbrev pub kind_beside : Bool → Option (List ℕ) → SourceKind
kind_beside debug_frame (Some header) = kinds.EhFrame
kind_beside true None = kinds.DebugFrame
kind_beside false None = kinds.EhFrame

abbrev pub passed_source : CfiBases → List ℕ → Option (List ℕ) → GivenSection
passed_source bases bytes header = record {
  kind = kind_beside bases.debug_frame header;
  endian = passed_order bases.big_endian;
  address_size = bases.address_size;
  vendor = passed_vendor bases.aarch64;
  bases = record {
    eh_frame_hdr = record {
      section = Some bases.header;
      text = Some bases.text;
      data_base = Some bases.header;
    };
    eh_frame = record {
      section = Some bases.section;
      text = Some bases.text;
      data_base = Some bases.data_base;
    };
  };
  bytes = bytes;
  header = header;
}
