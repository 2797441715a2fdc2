-- The names of the errors, without what they carry.
use Rattle.std.specs.Prelude.{ℕ, List, codes}
use Rattle.cfi_elf.specs.declared.error.ElfError.{ElfError}
use Rattle.cfi_elf.specs.declared.error.ElfError.TheVariants.{NotElf, HeaderCut, UnknownClass}
use Rattle.cfi_elf.specs.declared.error.ElfError.TheVariants.{UnknownDataEncoding, UnknownVersion}
use Rattle.cfi_elf.specs.declared.error.ElfError.TheVariants.{Relocatable, Core, NotCore}
use Rattle.cfi_elf.specs.declared.error.ElfError.TheVariants.{SectionEntrySize}
use Rattle.cfi_elf.specs.declared.error.ElfError.TheVariants.{SectionTableOutOfBounds}
use Rattle.cfi_elf.specs.declared.error.ElfError.TheVariants.{NoNameSection, SectionOutOfBounds}
use Rattle.cfi_elf.specs.declared.error.ElfError.TheVariants.{Compressed, NameOutOfBounds}
use Rattle.cfi_elf.specs.declared.error.ElfError.TheVariants.{NameNotTerminated, ProgramEntrySize}
use Rattle.cfi_elf.specs.declared.error.ElfError.TheVariants.{ProgramTableOutOfBounds}
use Rattle.cfi_elf.specs.declared.error.ElfError.TheVariants.{SegmentOutOfBounds, NoteCut, NotRead}
use Rattle.cfi_elf.specs.declared.error.ElfError.TheVariants.{NotRelocatable, UnknownRelocation}
use Rattle.cfi_elf.specs.declared.error.ElfError.TheVariants.{RelocationOutOfBounds}
use Rattle.cfi_elf.specs.declared.error.ElfError.TheVariants.{NoRelocationSymbol}
use Rattle.cfi_elf.specs.declared.error.ElfError.TheVariants.{ExtendedSectionIndex, OutOfMemory}

abbrev pub name_of_elf : ElfError → List ℕ
name_of_elf NotElf = codes "NotElf"
name_of_elf HeaderCut = codes "HeaderCut"
name_of_elf (UnknownClass byte) = codes "UnknownClass"
name_of_elf (UnknownDataEncoding byte) = codes "UnknownDataEncoding"
name_of_elf (UnknownVersion version) = codes "UnknownVersion"
name_of_elf Relocatable = codes "Relocatable"
name_of_elf Core = codes "Core"
name_of_elf (NotCore e_type) = codes "NotCore"
name_of_elf (SectionEntrySize size) = codes "SectionEntrySize"
name_of_elf SectionTableOutOfBounds = codes "SectionTableOutOfBounds"
name_of_elf (NoNameSection index) = codes "NoNameSection"
name_of_elf SectionOutOfBounds = codes "SectionOutOfBounds"
name_of_elf Compressed = codes "Compressed"
name_of_elf NameOutOfBounds = codes "NameOutOfBounds"
name_of_elf NameNotTerminated = codes "NameNotTerminated"
name_of_elf (ProgramEntrySize size) = codes "ProgramEntrySize"
name_of_elf ProgramTableOutOfBounds = codes "ProgramTableOutOfBounds"
name_of_elf SegmentOutOfBounds = codes "SegmentOutOfBounds"
name_of_elf NoteCut = codes "NoteCut"
name_of_elf (NotRead offset size) = codes "NotRead"
name_of_elf (NotRelocatable e_type) = codes "NotRelocatable"
name_of_elf (UnknownRelocation kind) = codes "UnknownRelocation"
name_of_elf RelocationOutOfBounds = codes "RelocationOutOfBounds"
name_of_elf (NoRelocationSymbol index) = codes "NoRelocationSymbol"
name_of_elf ExtendedSectionIndex = codes "ExtendedSectionIndex"
name_of_elf OutOfMemory = codes "OutOfMemory"
