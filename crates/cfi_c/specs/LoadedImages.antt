-- Modules by the program headers of their files, as a loader has mapped them (System V ABI chapter
-- 5, "Program Header", "Program Loading"; LSB Core, "The .eh_frame_hdr section").
--     range_of bias headers      the addresses of the process that a file's segments take
--     image_module bases windows bias headers      the module, or why there is none
--     image_status e      an error as C gets it
--     IsRangeMade, IsModuleMade      what C gets
use Rattle.std.specs.Prelude.{◌≡◌, ℕ, ℤ, pos, ◌+◌, ◌-◌, ◌^◌, Bool, false, List, [], ◌∷◌, find, max}
use Rattle.std.specs.Prelude.{min, Option, Some, None, Result, Ok, Err, ◌==◌, if◌then◌else◌}
use Rattle.cfi_read_core.specs.declared.error.Error.{Error}
use Rattle.cfi_read_core.specs.declared.error.Error.TheVariants.{UnsupportedAddressSize}
use Rattle.cfi_read_core.specs.Addresses.{is_sized}
use Rattle.cfi_parts.specs.Pointers.{direct}
use Rattle.gimli_cfi.specs.EhFrameHdr as headers
use Rattle.cfi_elf.specs.declared.program_header.ProgramHeader.{ProgramHeader}
use Rattle.cfi_elf.specs.Results.{and_then, or_missing}
use Rattle.cfi_elf.specs.Segments.{is_loaded_at}
use Rattle.cfi_elf.specs.Modular.{minus, plus}
use Rattle.cfi_c.specs.declared.section.CfiBases.{CfiBases}
use Rattle.cfi_c.specs.declared.image.ImageError.{ImageError}
use Rattle.cfi_c.specs.declared.image.ImageError.TheVariants as images
use Rattle.cfi_c.specs.declared.image.Placed.{Placed as PlacedInCode}
use Rattle.cfi_c.specs.declared.memory.CfiWindow.{CfiWindow}
use Rattle.cfi_c.specs.declared.program_header.CfiProgramHeader.{CfiProgramHeader}
use Rattle.cfi_c.specs.declared.program_header.CfiRange.{CfiRange}
use Rattle.cfi_c.specs.declared.module.CfiModule.{CfiModule}
use Rattle.cfi_c.specs.PassedMemories.{bytes_in}
use Rattle.cfi_c.specs.PassedSections.{passed_header}
use Rattle.cfi_c.specs.Refusals.{error_status}

-- ---- program headers

abbrev pub program_header_view : CfiProgramHeader → ProgramHeader
program_header_view header = record {
  p_type = header.p_type;
  p_flags = header.p_flags;
  p_offset = header.p_offset;
  p_vaddr = header.p_vaddr;
  p_filesz = header.p_filesz;
  p_memsz = header.p_memsz;
}

-- PT_LOAD is 1, PT_GNU_EH_FRAME is 0x6474e550
abbrev pub is_type : ℕ → CfiProgramHeader → Bool
is_type p_type header = header.p_type == p_type

-- whether a loaded segment has the address, in the file's addresses, with bytes of the file
abbrev pub has_file_byte : ℕ → CfiProgramHeader → Bool
has_file_byte place header = is_loaded_at place (program_header_view header)

-- ---- the addresses of the process

-- the lowest address of a segment that is loaded
abbrev pub lowest : List CfiProgramHeader → ℕ
lowest [] = 2 ^ 64 - 1
lowest (header ∷ headers) =
    if is_type 1 header then min header.p_vaddr (lowest headers) else lowest headers

-- where a segment ends, if there are so many addresses
abbrev pub end_of_segment : CfiProgramHeader → ℕ
end_of_segment header = min (header.p_vaddr + header.p_memsz) (2 ^ 64 - 1)

-- the first address behind all segments that are loaded
abbrev pub highest : List CfiProgramHeader → ℕ
highest [] = 0
highest (header ∷ headers) =
    if is_type 1 header then max (end_of_segment header) (highest headers) else highest headers

abbrev pub range_if : ℕ → List CfiProgramHeader → Option CfiProgramHeader → Option CfiRange
range_if bias headers None = None
range_if bias headers (Some load) =
    Some (record { start = plus (lowest headers) bias; end = plus (highest headers) bias })

-- none where no segment is loaded
abbrev pub range_of : ℕ → List CfiProgramHeader → Option CfiRange
range_of bias headers = range_if bias headers (find (is_type 1) headers)

-- ---- the bytes that are there

-- bytes at an address of the process
pub record Placed : Type 0 where
  pub address : ℕ
  pub bytes : List ℕ

-- what bytes of the code are
abbrev pub placed_view : PlacedInCode → Placed
placed_view placed = record { address = placed.address; bytes = placed.bytes.now }

abbrev pub placed_at : ℕ → List ℕ → Placed
placed_at a bytes = record { address = a; bytes = bytes }

abbrev pub placed_in : List CfiWindow → ℕ → ℕ → Result Placed ImageError
placed_in windows a size =
    and_then (or_missing images.NotInMemory (bytes_in a size windows)) (λ bytes.
    Ok (placed_at a bytes))

-- ---- the sections

-- the bytes of .eh_frame_hdr in the file, where they are loaded
unfoldable pub placed_header : List CfiWindow → ℕ → List CfiProgramHeader → Result Placed ImageError
placed_header windows bias headers =
    and_then (or_missing images.NoHeader (find (is_type 0x6474e550) headers)) (λ header.
    placed_in windows (plus header.p_vaddr bias) header.p_filesz)

-- as errors of images
abbrev pub refused_by : {A : Type 0} → Result A Error → Result A ImageError
refused_by (Ok x) = Ok x
refused_by (Err e) = Err (images.Refused e)

abbrev pub bases_of : CfiBases → ℕ → ℕ → CfiBases
bases_of given section header =
    record given { section = section; header = header; debug_frame = false }

-- where a header points
unfoldable pub pointed_to : CfiBases → Placed → Result ℕ ImageError
pointed_to given header =
    let section = passed_header (bases_of given 0 header.address) header.bytes in
    and_then (refused_by (headers.header_of section)) (λ parsed.
    refused_by (direct parsed.eh_frame))

-- from there to the end of the file's bytes of the segment, where they are loaded
unfoldable pub placed_section :
    List CfiWindow → ℕ → List CfiProgramHeader → ℕ → Result Placed ImageError
placed_section windows bias headers a =
    let place = minus a bias in
    and_then (or_missing images.NoSection (find (has_file_byte place) headers)) (λ header.
    placed_in windows a (header.p_filesz - (place - header.p_vaddr)))

-- ---- the module

pub record ImageModule : Type 0 where
  pub start : ℕ
  pub end : ℕ
  pub section : List ℕ
  pub header : List ℕ
  pub bases : CfiBases

-- what a module of the code is
abbrev pub image_module_view : CfiModule → ImageModule
image_module_view loaded = record {
  start = loaded.start;
  end = loaded.end;
  section = loaded.section.now;
  header = loaded.header.now;
  bases = loaded.bases;
}

abbrev pub module_with : CfiBases → CfiRange → Placed → Placed → ImageModule
module_with given range header section = record {
  start = range.start;
  end = range.end;
  section = section.bytes;
  header = header.bytes;
  bases = bases_of given section.address header.address;
}

-- with the bases that are given, whose address size is one
unfoldable pub sized_module :
    CfiBases → List CfiWindow → ℕ → List CfiProgramHeader → Result ImageModule ImageError
sized_module given windows bias headers =
    and_then (or_missing images.NoSegments (range_of bias headers)) (λ range.
    and_then (placed_header windows bias headers) (λ header.
    and_then (pointed_to given header) (λ a.
    and_then (placed_section windows bias headers a) (λ section.
    Ok (module_with given range header section)))))

abbrev pub image_module :
    CfiBases → List CfiWindow → ℕ → List CfiProgramHeader → Result ImageModule ImageError
image_module given windows bias headers =
    if is_sized given.address_size
    then sized_module given windows bias headers
    else Err (images.Refused (UnsupportedAddressSize given.address_size))

-- ---- what C gets

abbrev pub image_status : ImageError → ℤ
image_status images.NoSegments = pos 66
image_status images.NoHeader = pos 67
image_status images.NoSection = pos 68
image_status images.NotInMemory = pos 69
image_status (images.Refused e) = error_status e

-- nothing is written where there is none
abbrev pub IsRangeMade : Option CfiRange → CfiRange → CfiRange → ℤ → Type 0
IsRangeMade (Some range) old new status = (status ≡ pos 0) × (new ≡ range)
IsRangeMade None old new status = (status ≡ pos 66) × (new ≡ old)

abbrev pub IsModuleMade : Result ImageModule ImageError → ImageModule → ImageModule → ℤ → Type 0
IsModuleMade (Ok made) old new status = (status ≡ pos 0) × (new ≡ made)
IsModuleMade (Err e) old new status = (status ≡ image_status e) × (new ≡ old)
