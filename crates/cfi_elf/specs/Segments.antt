-- What a file has loaded at an address, by its program headers (System V ABI chapter 5, "Program
-- Header", "Program Loading").
use Rattle.std.specs.Prelude.{ℕ, ◌-◌, ◌+◌, ◌%◌, Bool, not, ◌&&◌, bit_and, option_map, List, Option}
use Rattle.std.specs.Prelude.{Result, Ok, drop, find, nat_le, nat_lt, ◌==◌}
use Rattle.cfi_elf.specs.declared.error.ElfError.{ElfError}
use Rattle.cfi_elf.specs.declared.program_header.ProgramHeader.{ProgramHeader}
use Rattle.cfi_elf.specs.declared.segments.Wanted.{Wanted}
use Rattle.cfi_elf.specs.declared.segments.Wanted.TheVariants.{OfType, LoadedAt, CodeAt}
use Rattle.cfi_elf.specs.ElfFiles.{File}
use Rattle.cfi_elf.specs.Results.{and_then, if_found}
use Rattle.cfi_elf.specs.Sections.{Section}
use Rattle.cfi_elf.specs.SegmentLists.{program_headers, program_table, segment_bytes}
use Rattle.cfi_elf.specs.Modular.{plus, minus}

-- whether a segment is loaded (PT_LOAD is 1), and the address is that of one of its bytes in the
-- file
abbrev pub is_loaded_at : ℕ → ProgramHeader → Bool
is_loaded_at address header =
    (header.p_type == 1)
    && (nat_le header.p_vaddr address
    && nat_lt address (header.p_vaddr + header.p_filesz))

-- where a segment begins in the file as it is mapped, by whole pages of 4 KiB (kernels of AArch64
-- may have larger pages: a mapping that begins before this page is none of the segment)
abbrev pub page_offset : ProgramHeader → ℕ
page_offset header = header.p_offset - header.p_offset % 4096

-- whether a segment is loaded and executable (PF_X is 1), and the byte at the offset is mapped with
-- it
abbrev pub is_code_at : ℕ → ProgramHeader → Bool
is_code_at offset header =
    (header.p_type == 1) && (not (bit_and header.p_flags 1 == 0)
    && (nat_le (page_offset header) offset
    && nat_lt offset (header.p_offset + header.p_filesz)))

abbrev pub is_wanted : Wanted → ProgramHeader → Bool
is_wanted (OfType p_type) header = header.p_type == p_type
is_wanted (LoadedAt address) header = is_loaded_at address header
is_wanted (CodeAt offset) header = is_code_at offset header

-- the first program header that is wanted
unfoldable pub wanted_segment : File → Wanted → Result (Option ProgramHeader) ElfError
wanted_segment file wanted =
    and_then (program_table file)
    (λ table. Ok (find (is_wanted wanted) (program_headers file table)))

-- a segment's address and bytes
abbrev pub segment_of : File → ProgramHeader → Result Section ElfError
segment_of file header =
    and_then (segment_bytes file header)
    (λ bytes. Ok (record { address = header.p_vaddr; bytes = bytes }))

-- the first segment of type PT_GNU_EH_FRAME, which has the header of call frame information (LSB
-- Core, "Program Header")
unfoldable pub eh_frame_hdr_segment : File → Result (Option Section) ElfError
eh_frame_hdr_segment file =
    and_then (wanted_segment file (OfType 0x6474e550)) (if_found (segment_of file))

-- a segment's bytes in the file, from an address on
abbrev pub bytes_after : File → ℕ → ProgramHeader → Result (List ℕ) ElfError
bytes_after file address header =
    and_then (segment_bytes file header) (λ bytes. Ok (drop (address - header.p_vaddr) bytes))

-- the file's bytes from an address up to the end of those of the first loaded segment that has it
unfoldable pub loaded_bytes : File → ℕ → Result (Option (List ℕ)) ElfError
loaded_bytes file address =
    and_then (wanted_segment file (LoadedAt address)) (if_found (bytes_after file address))

-- ---- the address of a byte of the file

-- that of the byte at an offset, by the segment's address and offset
abbrev pub loaded_address : ℕ → ProgramHeader → ℕ
loaded_address offset header = plus (minus header.p_vaddr header.p_offset) offset

-- that of the byte at an offset in the first segment of code that has it
unfoldable pub address_of_offset : File → ℕ → Result (Option ℕ) ElfError
address_of_offset file offset =
    and_then (wanted_segment file (CodeAt offset))
    (λ found. Ok (option_map (loaded_address offset) found))
