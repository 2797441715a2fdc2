-- The bytes of a section, by its type and its flags.
use Rattle.std.proofs.Common.{◌≡◌, Err, refl, ne_eqb}
use Rattle.std.specs.Prelude.{bit_and}
use Rattle.cfi_elf.specs.declared.error.ElfError.TheVariants.{SectionOutOfBounds, Compressed}
use Rattle.cfi_elf.specs.declared.section_header.SectionHeader.{SectionHeader}
use Rattle.cfi_elf.specs.ElfFiles.{File}
use Rattle.cfi_elf.specs.Images.{bytes_at}
use Rattle.cfi_elf.specs.SectionContents.{contents}

pub compressed : (file : File) (header : SectionHeader) → (header.sh_type ≡ 8 → ⊥) → (bit_and header.sh_flags 0x800 ≡ 0 → ⊥) → contents file header ≡ Err Compressed
unfolding contents
compressed file header other flags = rw (ne_eqb _ _ other, ne_eqb _ _ flags) refl

pub uncompressed : (file : File) (header : SectionHeader) → (header.sh_type ≡ 8 → ⊥) → bit_and header.sh_flags 0x800 ≡ 0 → contents file header ≡ bytes_at file.image header.sh_offset header.sh_size SectionOutOfBounds
unfolding contents
uncompressed file header other plain = rw (ne_eqb _ _ other, plain) refl
