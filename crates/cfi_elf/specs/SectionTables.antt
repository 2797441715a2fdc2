-- The section header table (System V ABI chapter 4, "Section Header").
use Rattle.std.specs.Prelude.{ℕ, ◌*◌, Bool, not, List, [], Result, Ok, Err, map, ◌==◌, slice_get}
use Rattle.std.specs.Prelude.{if◌then◌else◌}
use Rattle.cfi_elf.specs.declared.error.ElfError.{ElfError}
use Rattle.cfi_elf.specs.declared.error.ElfError.TheVariants.{SectionEntrySize}
use Rattle.cfi_elf.specs.declared.error.ElfError.TheVariants.{SectionTableOutOfBounds}
use Rattle.cfi_elf.specs.declared.section_header.SectionHeader.{SectionHeader}
use Rattle.cfi_elf.specs.ElfFiles.{File, class_of_file, is_big_file}
use Rattle.cfi_elf.specs.Fields.{entries}
use Rattle.cfi_elf.specs.Headers.{section_header, section_header_bytes}
use Rattle.cfi_elf.specs.Images.{bytes_at}
use Rattle.cfi_elf.specs.Results.{and_then, or_missing}

abbrev pub section_header_of : File → List ℕ → SectionHeader
section_header_of file bytes = section_header (class_of_file file) (is_big_file file) bytes

-- the section headers of a table, in their order
abbrev pub section_headers : File → List ℕ → List SectionHeader
section_headers file table =
    map (section_header_of file) (entries (section_header_bytes (class_of_file file)) table)

-- section 0, which has the numbers that the file header has no room for
unfoldable pub first_section_header : File → Result SectionHeader ElfError
first_section_header file =
    and_then
    (bytes_at file.image file.header.offsets.e_shoff (section_header_bytes (class_of_file file))
    SectionTableOutOfBounds)
    (λ bytes. or_missing SectionTableOutOfBounds (slice_get (section_headers file bytes) 0))

-- a number of the file header, or where it says so one of section 0
abbrev pub or_by_first : File → ℕ → Bool → (SectionHeader → ℕ) → Result ℕ ElfError
or_by_first file number by_first of_first =
    if by_first
    then and_then (first_section_header file) (λ first. Ok (of_first first))
    else Ok number

-- e_shnum, or where it is 0 sh_size of section 0
unfoldable pub section_count : File → Result ℕ ElfError
section_count file =
    let e_shnum = file.header.sizes.e_shnum in
    or_by_first file e_shnum (e_shnum == 0) (λ first. first.sh_size)

-- its bytes; none where e_shoff is 0
unfoldable pub section_table : File → Result (List ℕ) ElfError
section_table file =
    let offset = file.header.offsets.e_shoff in
    let size = section_header_bytes (class_of_file file) in
    if offset == 0 then Ok []
    else if not (file.header.sizes.e_shentsize == size) then Err
    (SectionEntrySize file.header.sizes.e_shentsize)
    else and_then (section_count file)
    (λ count. bytes_at file.image offset (count * size) SectionTableOutOfBounds)
