-- The program headers of a file, in their order (System V ABI chapter 5, "Program Header").
--     segments file      all of them, or why they can't be read
--     segments_left walk      those that an iterator of the code has left
--     segment_bytes file header      the bytes of a segment in the file
use Rattle.std.specs.Prelude.{ℕ, ◌*◌, not, ◌&&◌, List, [], Result, Ok, Err, drop, map, ◌==◌}
use Rattle.std.specs.Prelude.{if◌then◌else◌}
use Rattle.cfi_elf.specs.declared.error.ElfError.{ElfError}
use Rattle.cfi_elf.specs.declared.error.ElfError.TheVariants.{ProgramEntrySize}
use Rattle.cfi_elf.specs.declared.error.ElfError.TheVariants.{ProgramTableOutOfBounds}
use Rattle.cfi_elf.specs.declared.error.ElfError.TheVariants.{SegmentOutOfBounds}
use Rattle.cfi_elf.specs.declared.program_header.ProgramHeader.{ProgramHeader}
use Rattle.cfi_elf.specs.ElfFiles.{File, class_of_file, is_big_file, file_view}
use Rattle.cfi_elf.specs.Fields.{entries}
use Rattle.cfi_elf.specs.Headers.{program_header, program_header_bytes}
use Rattle.cfi_elf.specs.Images.{bytes_at}
use Rattle.cfi_elf.specs.Results.{and_then}
use Rattle.cfi_elf.specs.SectionTables.{or_by_first}
use Rattle.cfi_elf.specs.declared.segment_list.Segments.{Segments}

-- e_phnum, or where it is PN_XNUM and there are section headers sh_info of section 0
unfoldable pub segment_count : File → Result ℕ ElfError
segment_count file =
    let e_phnum = file.header.sizes.e_phnum in
    or_by_first file e_phnum ((e_phnum == 0xffff) && not (file.header.offsets.e_shoff == 0))
    (λ first. first.sh_info)

-- its bytes; none where e_phoff is 0
unfoldable pub program_table : File → Result (List ℕ) ElfError
program_table file =
    let offset = file.header.offsets.e_phoff in
    let size = program_header_bytes (class_of_file file) in
    if offset == 0 then Ok []
    else if not (file.header.sizes.e_phentsize == size) then Err
    (ProgramEntrySize file.header.sizes.e_phentsize)
    else and_then (segment_count file)
    (λ count. bytes_at file.image offset (count * size) ProgramTableOutOfBounds)

-- the program headers of a table, in their order
abbrev pub program_headers : File → List ℕ → List ProgramHeader
program_headers file table =
    map (program_header (class_of_file file) (is_big_file file))
    (entries (program_header_bytes (class_of_file file)) table)

unfoldable pub segments : File → Result (List ProgramHeader) ElfError
segments file = and_then (program_table file) (λ table. Ok (program_headers file table))

abbrev pub segments_left : Segments → List ProgramHeader
segments_left walk = drop walk.index (program_headers (file_view walk.file) walk.table.now)

-- the bytes of a segment in the file
abbrev pub segment_bytes : File → ProgramHeader → Result (List ℕ) ElfError
segment_bytes file header =
    bytes_at file.image header.p_offset header.p_filesz SegmentOutOfBounds
