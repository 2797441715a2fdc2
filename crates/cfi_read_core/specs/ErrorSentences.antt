-- What errors say: a sentence, with the number that the error carries if any.
--     hexadecimal n      a number as `0x` and its digits
--     sentence_of error      what the error says
use Rattle.std.specs.Prelude.{ℕ, false, List, [], ◌++◌, codes}
use Rattle.std.specs.Fmt.{decimal, digits}
use Rattle.cfi_read_core.specs.declared.error.Error.{Error}
use Rattle.cfi_read_core.specs.declared.error.Error.TheVariants.{UnexpectedEof, BadUnsignedLeb128}
use Rattle.cfi_read_core.specs.declared.error.Error.TheVariants.{BadSignedLeb128}
use Rattle.cfi_read_core.specs.declared.error.Error.TheVariants.{UnknownReservedLength}
use Rattle.cfi_read_core.specs.declared.error.Error.TheVariants.{UnsupportedAddressSize}
use Rattle.cfi_read_core.specs.declared.error.Error.TheVariants.{UnsupportedOffset}
use Rattle.cfi_read_core.specs.declared.error.Error.TheVariants.{UnsupportedRegister}
use Rattle.cfi_read_core.specs.declared.error.Error.TheVariants.{AddressOverflow, UnknownVersion}
use Rattle.cfi_read_core.specs.declared.error.Error.TheVariants.{UnsupportedSegmentSize}
use Rattle.cfi_read_core.specs.declared.error.Error.TheVariants.{UnknownAugmentation}
use Rattle.cfi_read_core.specs.declared.error.Error.TheVariants.{UnknownPointerEncoding}
use Rattle.cfi_read_core.specs.declared.error.Error.TheVariants.{CannotParseOmitPointerEncoding}
use Rattle.cfi_read_core.specs.declared.error.Error.TheVariants.{UnsupportedPointerEncoding}
use Rattle.cfi_read_core.specs.declared.error.Error.TheVariants.{PcRelativePointerButSectionBaseIsUndefined}
use Rattle.cfi_read_core.specs.declared.error.Error.TheVariants.{TextRelativePointerButTextBaseIsUndefined}
use Rattle.cfi_read_core.specs.declared.error.Error.TheVariants.{DataRelativePointerButDataBaseIsUndefined}
use Rattle.cfi_read_core.specs.declared.error.Error.TheVariants.{FuncRelativePointerInBadContext}
use Rattle.cfi_read_core.specs.declared.error.Error.TheVariants.{UnsupportedIndirectPointer}
use Rattle.cfi_read_core.specs.declared.error.Error.TheVariants.{NotCieId, NotCiePointer}
use Rattle.cfi_read_core.specs.declared.error.Error.TheVariants.{NoEntryAtGivenOffset}
use Rattle.cfi_read_core.specs.declared.error.Error.TheVariants.{OffsetOutOfBounds}
use Rattle.cfi_read_core.specs.declared.error.Error.TheVariants.{UnknownCallFrameInstruction}
use Rattle.cfi_read_core.specs.declared.error.Error.TheVariants.{CfiInstructionInInvalidContext}
use Rattle.cfi_read_core.specs.declared.error.Error.TheVariants.{InvalidCfiSetLoc, StackFull}
use Rattle.cfi_read_core.specs.declared.error.Error.TheVariants.{PopWithEmptyStack}
use Rattle.cfi_read_core.specs.declared.error.Error.TheVariants.{TooManyRegisterRules}
use Rattle.cfi_read_core.specs.declared.error.Error.TheVariants.{NoUnwindInfoForAddress}
use Rattle.cfi_read_core.specs.declared.error.Error.TheVariants.{OutOfMemory}

abbrev pub hexadecimal : ℕ → List ℕ
hexadecimal n = codes "0x" ++ digits 16 false n

-- a number between two texts
abbrev pub around : List ℕ → List ℕ → List ℕ → List ℕ
around before number after = before ++ (number ++ after)

abbrev pub sentence_of : Error → List ℕ
sentence_of (UnexpectedEof place) =
    around (codes "unexpected end of input at place ") (hexadecimal place.0) []
sentence_of BadUnsignedLeb128 = codes "an unsigned LEB128 number does not fit 64 bits"
sentence_of BadSignedLeb128 = codes "a signed LEB128 number does not fit 64 bits"
sentence_of (UnknownReservedLength n) =
    around (codes "the length ") (hexadecimal n) (codes " is reserved")
sentence_of (UnsupportedAddressSize n) =
    around (codes "the address size ") (decimal n) (codes " is not 1, 2, 4 or 8")
sentence_of UnsupportedOffset = codes "a number does not fit the offset type"
sentence_of (UnsupportedRegister n) =
    around (codes "the register ") (decimal n) (codes " is above 65535")
sentence_of AddressOverflow = codes "an address does not fit the address size"
sentence_of (UnknownVersion n) = around (codes "unknown version ") (decimal n) []
sentence_of (UnsupportedSegmentSize n) =
    around (codes "segment selectors of size ") (decimal n) (codes " are not supported")
sentence_of UnknownAugmentation = codes "unknown augmentation string"
sentence_of (UnknownPointerEncoding encoding) =
    around (codes "the byte ") (hexadecimal encoding.0) (codes " is not a pointer encoding")
sentence_of CannotParseOmitPointerEncoding = codes "a required pointer is encoded as omitted"
sentence_of (UnsupportedPointerEncoding encoding) =
    around (codes "the pointer encoding ") (hexadecimal encoding.0)
    (codes " is not supported here")
sentence_of PcRelativePointerButSectionBaseIsUndefined =
    codes "section-relative pointer without the address of the section"
sentence_of TextRelativePointerButTextBaseIsUndefined =
    codes "text-relative pointer without a text base"
sentence_of DataRelativePointerButDataBaseIsUndefined =
    codes "data-relative pointer without a data base"
sentence_of FuncRelativePointerInBadContext =
    codes "function-relative pointer without a function base"
sentence_of UnsupportedIndirectPointer = codes "indirect pointers are not supported"
sentence_of (NotCieId n) =
    around (codes "the entry at offset ") (hexadecimal n) (codes " is not a CIE")
sentence_of (NotCiePointer n) =
    around (codes "the entry at offset ") (hexadecimal n) (codes " is not an FDE")
sentence_of (NoEntryAtGivenOffset n) =
    around (codes "there is no entry at offset ") (hexadecimal n) []
sentence_of (OffsetOutOfBounds n) =
    around (codes "the pointer ") (hexadecimal n) (codes " points before the start of the section")
sentence_of (UnknownCallFrameInstruction opcode) =
    around (codes "unknown call frame opcode ") (hexadecimal opcode.0) []
sentence_of CfiInstructionInInvalidContext =
    codes "a call frame instruction is not valid in its context"
sentence_of (InvalidCfiSetLoc n) =
    around (codes "the location is moved back to ") (hexadecimal n) []
sentence_of StackFull = codes "more remembered states than there is room for"
sentence_of PopWithEmptyStack = codes "restore_state without remember_state"
sentence_of TooManyRegisterRules = codes "more register rules than there is room for"
sentence_of NoUnwindInfoForAddress = codes "no unwind information for the address"
sentence_of OutOfMemory = codes "out of memory"
