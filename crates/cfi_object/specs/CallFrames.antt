-- The sections of call frames in an ELF file, with what the headers of the file say of each (LSB
-- Core, "Exception Frames", "The .eh_frame_hdr section"; DWARF 5 section 6.4).
--     eh_frame_of file      .eh_frame, by its name or else by the segment of its header
--     debug_frame_of file      .debug_frame
use Rattle.std.specs.Prelude.{ℕ, List, Option, Some, None, Result, Ok, Err, option_map, codes}
use Rattle.std.specs.Prelude.{length, ◌==◌, if◌then◌else◌}
use Rattle.std.specs.Result.{result_ok}
use Rattle.cfi_read_core.specs.declared.error.Error.{Error}
use Rattle.cfi_read_core.specs.ByteOrder.{is_big}
use Rattle.cfi_read_core.specs.SliceReaders.{slice_over}
use Rattle.cfi_parts.specs.declared.pointer.BaseAddresses.{BaseAddresses}
use Rattle.cfi_parts.specs.Pointers.{direct}
use Rattle.gimli_cfi.specs.EhFrameHdr.{Header, HeaderSection, header_of, header_section}
use Rattle.gimli_cfi.specs.SectionSources.{GivenSection}
use Rattle.gimli_cfi.specs.declared.source.SectionKind.{SectionKind}
use Rattle.gimli_cfi.specs.declared.source.SectionKind.TheVariants.{DebugFrame, EhFrame}
use Rattle.cfi_elf.specs.declared.error.ElfError.{ElfError}
use Rattle.cfi_elf.specs.Results.{and_then}
use Rattle.cfi_elf.specs.ElfFiles.{File, address_size_of, class_of_file, vendor_of}
use Rattle.cfi_elf.specs.Sections.{Section, debug_frame, section_address, section_named}
use Rattle.cfi_elf.specs.Segments.{eh_frame_hdr_segment, loaded_bytes}

infixl 10 ◌>>=◌
abbrev pub ◌>>=◌ : {A B : Type 0} → Result A ElfError → (A → Result B ElfError) → Result B ElfError
given >>= next = and_then given next

-- what comes of a thing that is there
abbrev pub if_there :
    {A B : Type 0} → Option A → (A → Result (Option B) ElfError) → Result (Option B) ElfError
if_there None next = Ok None
if_there (Some x) next = next x

-- by the addresses of a section and its header; in a header data is relative to the header itself
abbrev pub bases_at : Option ℕ → Option ℕ → Option ℕ → Option ℕ → BaseAddresses
bases_at section text base header = record {
  eh_frame_hdr = record { section = header; text = text; data_base = header };
  eh_frame = record { section = section; text = text; data_base = base };
}

-- a section, as the file's header says of all, with no bases and no header
abbrev pub given_section : File → SectionKind → List ℕ → GivenSection
given_section file kind bytes = record {
  kind = kind;
  endian = file.identification.«data»;
  address_size = address_size_of (class_of_file file);
  vendor = vendor_of file.header.kind.e_machine;
  bases = bases_at None None None None;
  bytes = bytes;
  header = None;
}

-- .eh_frame with its bases, and its header if there is one
abbrev pub eh_frame_at : File → Section → Option ℕ → Option ℕ → Option Section → GivenSection
eh_frame_at file section text base header =
    record (given_section file EhFrame section.bytes) {
      bases =
          bases_at (Some section.address) text base
          (option_map (λ header. header.address) header);
      header = option_map (λ header. header.bytes) header;
    }

-- ---- .eh_frame by its name

-- the first of two addresses that is there
abbrev pub or_address : Option ℕ → Result (Option ℕ) ElfError → Result (Option ℕ) ElfError
or_address (Some address) other = Ok (Some address)
or_address None other = other

-- the base of data
unfoldable pub data_base : File → Result (Option ℕ) ElfError
data_base file = do
  address ← section_address file (codes ".got.plt")
  or_address address (section_address file (codes ".got"))

unfoldable pub named_frames : File → Section → Result GivenSection ElfError
named_frames file section = do
  text ← section_address file (codes ".text")
  base ← data_base file
  header ← section_named file (codes ".eh_frame_hdr")
  Ok (eh_frame_at file section text base header)

-- ---- .eh_frame by the segment of its header

-- where a header points that can be read, if that is no address in memory
abbrev pub pointed_to : Result Header Error → Option ℕ
pointed_to (Ok header) = result_ok (direct header.eh_frame)
pointed_to (Err e) = None

-- the section of a header at its address
abbrev pub header_at : File → Section → HeaderSection
header_at file header =
    header_section (slice_over header.bytes (is_big file.identification.«data»))
    (address_size_of (class_of_file file))
    (bases_at None None None (Some header.address)).eh_frame_hdr

abbrev pub eh_frame_address : File → Section → Option ℕ
eh_frame_address file header = pointed_to (header_of (header_at file header))

-- what is loaded from an address on, with the header
abbrev pub loaded_at : File → Section → ℕ → List ℕ → GivenSection
loaded_at file header address bytes =
    eh_frame_at file (record { address = address; bytes = bytes }) None None (Some header)

abbrev pub loaded_frames : File → Section → ℕ → Result (Option GivenSection) ElfError
loaded_frames file header address = do
  loaded ← loaded_bytes file address
  Ok (option_map (loaded_at file header address) loaded)

unfoldable pub frames_by_header : File → Section → Result (Option GivenSection) ElfError
frames_by_header file header =
    if_there (eh_frame_address file header) (loaded_frames file header)

unfoldable pub frames_by_segment : File → Result (Option GivenSection) ElfError
frames_by_segment file = do
  header ← eh_frame_hdr_segment file
  if_there header (frames_by_header file)

-- ---- the two sections

-- none where the file has no bytes of it, as where its type is SHT_NOBITS
unfoldable pub frames_named : File → Section → Result (Option GivenSection) ElfError
frames_named file section =
    if length section.bytes == 0 then Ok None
    else (named_frames file section >>= λ frames. Ok (Some frames))

-- by its name where a section has it, and else by the segment
abbrev pub by_name_or_segment : File → Option Section → Result (Option GivenSection) ElfError
by_name_or_segment file (Some section) = frames_named file section
by_name_or_segment file None = frames_by_segment file

unfoldable pub eh_frame_of : File → Result (Option GivenSection) ElfError
eh_frame_of file = section_named file (codes ".eh_frame") >>= by_name_or_segment file

-- its addresses are absolute, so it has none of its own
unfoldable pub debug_frame_of : File → Result (Option GivenSection) ElfError
debug_frame_of file = do
  found ← debug_frame file
  Ok (option_map (λ section. given_section file DebugFrame section.bytes) found)
