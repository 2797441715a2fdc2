-- What is said of errors, and the status of a run that ends with one.
--     said_of error      in a line of text
--     status_of error
use Rattle.std.specs.Prelude.{ℕ, List, [], codes}
use Rattle.cfi_elf.specs.declared.error.ElfError.{ElfError}
use Rattle.cfi_elf.specs.declared.error.ElfError.TheVariants.{Compressed, Core}
use Rattle.cfi_elf.specs.ErrorNames.{name_of_elf}
use Rattle.cfi_elf.specs.ErrorTexts.{text_of_elf}
use Rattle.cfi_text.specs.ErrorLines.{refusal_words}
use Rattle.cfi_text.specs.ErrorWords.{advice_on}
use Rattle.cfi_text.specs.declared.reading.InputError.TheVariants.{OutOfMemory}
use Rattle.cfi_read_core.specs.ErrorSentences.{sentence_of}
use Rattle.cfi_read_core.specs.RefusalNames.{name_of}
use Rattle.cfi_files.specs.declared.error.FileError.{FileError}
use Rattle.cfi_files.specs.declared.error.FileError.TheVariants.{Input, Elf, Row}
use Rattle.cfi_files.specs.declared.error.FileError.TheVariants.{NoCallFrames, NoAddress}

abbrev pub elf_advice : ElfError → List ℕ
elf_advice Compressed = codes "; objcopy --decompress-debug-sections decompresses it"
elf_advice Core = codes "; cfi stack reads core files"
elf_advice _ = []

abbrev pub said_of : FileError → List ℕ
said_of (Input OutOfMemory) = codes "refused OutOfMemory"
said_of (Input _) = codes "wrong input"
said_of (Elf error) = refusal_words (name_of_elf error) (text_of_elf error) (elf_advice error)
said_of (Row error) = refusal_words (name_of error) (sentence_of error) (advice_on error)
said_of NoCallFrames = codes "no call frames"
said_of NoAddress = codes "no address"

-- refused memory is no fault of the input
abbrev pub status_of : FileError → ℕ
status_of (Input OutOfMemory) = 1
status_of (Input _) = 2
status_of (Elf error) = 1
status_of (Row error) = 1
status_of NoCallFrames = 1
status_of NoAddress = 1
