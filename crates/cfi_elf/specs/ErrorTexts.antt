-- What an error says, in a sentence, with the number that it carries.
--     text_of_elf error      the sentence, and the number after it if there is one
use Rattle.std.specs.Prelude.{ℕ, List, [], ◌++◌, Option, Some, None, codes}
use Rattle.std.specs.Fmt.{decimal}
use Rattle.cfi_elf.specs.declared.error.ElfError.{ElfError}
use Rattle.cfi_elf.specs.declared.error.ElfError.TheVariants.{NotElf, HeaderCut, UnknownClass}
use Rattle.cfi_elf.specs.declared.error.ElfError.TheVariants.{UnknownDataEncoding, UnknownVersion}
use Rattle.cfi_elf.specs.declared.error.ElfError.TheVariants.{Relocatable, Core, NotCore}
use Rattle.cfi_elf.specs.declared.error.ElfError.TheVariants.{SectionEntrySize}
use Rattle.cfi_elf.specs.declared.error.ElfError.TheVariants.{SectionTableOutOfBounds}
use Rattle.cfi_elf.specs.declared.error.ElfError.TheVariants.{NoNameSection, SectionOutOfBounds}
use Rattle.cfi_elf.specs.declared.error.ElfError.TheVariants.{Compressed, NameOutOfBounds}
use Rattle.cfi_elf.specs.declared.error.ElfError.TheVariants.{NameNotTerminated, ProgramEntrySize}
use Rattle.cfi_elf.specs.declared.error.ElfError.TheVariants.{ProgramTableOutOfBounds}
use Rattle.cfi_elf.specs.declared.error.ElfError.TheVariants.{SegmentOutOfBounds, NoteCut, NotRead}
use Rattle.cfi_elf.specs.declared.error.ElfError.TheVariants.{NotRelocatable, UnknownRelocation}
use Rattle.cfi_elf.specs.declared.error.ElfError.TheVariants.{RelocationOutOfBounds}
use Rattle.cfi_elf.specs.declared.error.ElfError.TheVariants.{NoRelocationSymbol}
use Rattle.cfi_elf.specs.declared.error.ElfError.TheVariants.{ExtendedSectionIndex, OutOfMemory}

-- up to the number
abbrev pub sentence_of_elf : ElfError → List ℕ
sentence_of_elf NotElf = codes "not an ELF file"
sentence_of_elf HeaderCut = codes "the file ends in its header"
sentence_of_elf (UnknownClass byte) = codes "unknown class "
sentence_of_elf (UnknownDataEncoding byte) = codes "unknown data encoding "
sentence_of_elf (UnknownVersion version) = codes "unknown version "
sentence_of_elf Relocatable = codes "a relocatable file has no addresses"
sentence_of_elf Core = codes "a core file has no sections"
sentence_of_elf (NotCore e_type) = codes "not a core file, but of type "
sentence_of_elf (SectionEntrySize size) = codes "section headers of size "
sentence_of_elf SectionTableOutOfBounds =
    codes "the section header table goes past the file's end"
sentence_of_elf (NoNameSection index) = codes "there is no section header for names at index "
sentence_of_elf SectionOutOfBounds = codes "a section goes past the file's end"
sentence_of_elf Compressed = codes "the section is compressed"
sentence_of_elf NameOutOfBounds = codes "a name is not in its string table"
sentence_of_elf NameNotTerminated = codes "a name is not terminated"
sentence_of_elf (ProgramEntrySize size) = codes "program headers of size "
sentence_of_elf ProgramTableOutOfBounds =
    codes "the program header table goes past the file's end"
sentence_of_elf SegmentOutOfBounds = codes "a segment goes past the file's end"
sentence_of_elf NoteCut = codes "a note is cut"
sentence_of_elf (NotRead offset size) = codes "bytes of the file have not been read"
sentence_of_elf (NotRelocatable e_type) = codes "not a relocatable file, but of type "
sentence_of_elf (UnknownRelocation kind) = codes "unknown relocation type "
sentence_of_elf RelocationOutOfBounds = codes "a relocation goes past the section's end"
sentence_of_elf (NoRelocationSymbol index) = codes "a relocation has no symbol at index "
sentence_of_elf ExtendedSectionIndex = codes "the section of a symbol has an extended index"
sentence_of_elf OutOfMemory = codes "memory is refused"

abbrev pub number_of_elf : ElfError → Option ℕ
number_of_elf (UnknownClass byte) = Some byte
number_of_elf (UnknownDataEncoding byte) = Some byte
number_of_elf (UnknownVersion version) = Some version
number_of_elf (NotCore e_type) = Some e_type
number_of_elf (SectionEntrySize size) = Some size
number_of_elf (NoNameSection index) = Some index
number_of_elf (ProgramEntrySize size) = Some size
number_of_elf (NotRelocatable e_type) = Some e_type
number_of_elf (UnknownRelocation kind) = Some kind
number_of_elf (NoRelocationSymbol index) = Some index
number_of_elf _ = None

abbrev pub optional_decimal : Option ℕ → List ℕ
optional_decimal None = []
optional_decimal (Some n) = decimal n

abbrev pub text_of_elf : ElfError → List ℕ
text_of_elf error = sentence_of_elf error ++ optional_decimal (number_of_elf error)
