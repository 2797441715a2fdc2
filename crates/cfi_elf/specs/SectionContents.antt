-- The bytes and the address of a section, by its header (System V ABI chapter 4, "Sections").
use Rattle.std.specs.Prelude.{ℕ, ◌+◌, not, List, [], Result, Ok, Err, nat_le, ◌==◌, bit_and}
use Rattle.std.specs.Prelude.{if◌then◌else◌}
use Rattle.cfi_elf.specs.declared.error.ElfError.{ElfError}
use Rattle.cfi_elf.specs.declared.error.ElfError.TheVariants.{SectionOutOfBounds, Compressed}
use Rattle.cfi_elf.specs.declared.section_header.SectionHeader.{SectionHeader}
use Rattle.cfi_elf.specs.ElfFiles.{File}
use Rattle.cfi_elf.specs.Images.{bytes_at}

-- the first thing for a section without bytes (SHT_NOBITS is 8), the second for any other; an error
-- for one that is compressed (SHF_COMPRESSED is 0x800)
abbrev pub by_type : {A : Type 0} → SectionHeader → A → Result A ElfError → Result A ElfError
by_type header without_bytes stored =
    if header.sh_type == 8 then Ok without_bytes
    else if not (bit_and header.sh_flags 0x800 == 0) then Err Compressed
    else stored

unfoldable pub contents : File → SectionHeader → Result (List ℕ) ElfError
contents file header =
    by_type header [] (bytes_at file.image header.sh_offset header.sh_size SectionOutOfBounds)

-- the address of a section, whose bytes need not be read, if it has them in the file
unfoldable pub address_of : File → SectionHeader → Result ℕ ElfError
address_of file header =
    by_type header header.sh_addr
    (if nat_le (header.sh_offset + header.sh_size) file.image.length then Ok header.sh_addr
    else Err SectionOutOfBounds)
