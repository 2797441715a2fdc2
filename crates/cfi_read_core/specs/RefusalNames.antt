-- The errors in order, each with its number and its name.
--     number_of e, name_of e      the number, from 1 on, and the name, without what it carries
--     value_of e      the place, byte or number that it carries, else 0
--     errors      all of them, in the order of their numbers
use Rattle.std.specs.Prelude.{ℕ, List, [], ◌∷◌, codes}
use Rattle.cfi_read_core.specs.declared.error.Error.{Error}
use Rattle.cfi_read_core.specs.declared.error.Error.TheVariants.{UnexpectedEof, BadUnsignedLeb128}
use Rattle.cfi_read_core.specs.declared.error.Error.TheVariants.{BadSignedLeb128}
use Rattle.cfi_read_core.specs.declared.error.Error.TheVariants.{UnknownReservedLength}
use Rattle.cfi_read_core.specs.declared.error.Error.TheVariants.{UnsupportedAddressSize}
use Rattle.cfi_read_core.specs.declared.error.Error.TheVariants.{UnsupportedOffset}
use Rattle.cfi_read_core.specs.declared.error.Error.TheVariants.{UnsupportedRegister}
use Rattle.cfi_read_core.specs.declared.error.Error.TheVariants.{AddressOverflow, UnknownVersion}
use Rattle.cfi_read_core.specs.declared.error.Error.TheVariants.{UnsupportedSegmentSize}
use Rattle.cfi_read_core.specs.declared.error.Error.TheVariants.{UnknownAugmentation}
use Rattle.cfi_read_core.specs.declared.error.Error.TheVariants.{UnknownPointerEncoding}
use Rattle.cfi_read_core.specs.declared.error.Error.TheVariants.{CannotParseOmitPointerEncoding}
use Rattle.cfi_read_core.specs.declared.error.Error.TheVariants.{UnsupportedPointerEncoding}
use Rattle.cfi_read_core.specs.declared.error.Error.TheVariants.{PcRelativePointerButSectionBaseIsUndefined}
use Rattle.cfi_read_core.specs.declared.error.Error.TheVariants.{TextRelativePointerButTextBaseIsUndefined}
use Rattle.cfi_read_core.specs.declared.error.Error.TheVariants.{DataRelativePointerButDataBaseIsUndefined}
use Rattle.cfi_read_core.specs.declared.error.Error.TheVariants.{FuncRelativePointerInBadContext}
use Rattle.cfi_read_core.specs.declared.error.Error.TheVariants.{UnsupportedIndirectPointer}
use Rattle.cfi_read_core.specs.declared.error.Error.TheVariants.{NotCieId, NotCiePointer}
use Rattle.cfi_read_core.specs.declared.error.Error.TheVariants.{NoEntryAtGivenOffset}
use Rattle.cfi_read_core.specs.declared.error.Error.TheVariants.{OffsetOutOfBounds}
use Rattle.cfi_read_core.specs.declared.error.Error.TheVariants.{UnknownCallFrameInstruction}
use Rattle.cfi_read_core.specs.declared.error.Error.TheVariants.{CfiInstructionInInvalidContext}
use Rattle.cfi_read_core.specs.declared.error.Error.TheVariants.{InvalidCfiSetLoc, StackFull}
use Rattle.cfi_read_core.specs.declared.error.Error.TheVariants.{PopWithEmptyStack}
use Rattle.cfi_read_core.specs.declared.error.Error.TheVariants.{TooManyRegisterRules}
use Rattle.cfi_read_core.specs.declared.error.Error.TheVariants.{NoUnwindInfoForAddress}
use Rattle.cfi_read_core.specs.declared.error.Error.TheVariants.{OutOfMemory}

pub record NumberedName : Type 0 where
  pub number : ℕ
  pub name : List ℕ

abbrev pub numbered : ℕ → List ℕ → NumberedName
numbered number name = record { number = number; name = name }

abbrev pub numbered_name : Error → NumberedName
numbered_name (UnexpectedEof place) = numbered 1 (codes "UnexpectedEof")
numbered_name BadUnsignedLeb128 = numbered 2 (codes "BadUnsignedLeb128")
numbered_name BadSignedLeb128 = numbered 3 (codes "BadSignedLeb128")
numbered_name (UnknownReservedLength n) = numbered 4 (codes "UnknownReservedLength")
numbered_name (UnsupportedAddressSize n) = numbered 5 (codes "UnsupportedAddressSize")
numbered_name UnsupportedOffset = numbered 6 (codes "UnsupportedOffset")
numbered_name (UnsupportedRegister n) = numbered 7 (codes "UnsupportedRegister")
numbered_name AddressOverflow = numbered 8 (codes "AddressOverflow")
numbered_name (UnknownVersion n) = numbered 9 (codes "UnknownVersion")
numbered_name (UnsupportedSegmentSize n) = numbered 10 (codes "UnsupportedSegmentSize")
numbered_name UnknownAugmentation = numbered 11 (codes "UnknownAugmentation")
numbered_name (UnknownPointerEncoding e) = numbered 12 (codes "UnknownPointerEncoding")
numbered_name CannotParseOmitPointerEncoding = numbered 13 (codes "CannotParseOmitPointerEncoding")
numbered_name (UnsupportedPointerEncoding e) = numbered 14 (codes "UnsupportedPointerEncoding")
numbered_name PcRelativePointerButSectionBaseIsUndefined =
    numbered 15 (codes "PcRelativePointerButSectionBaseIsUndefined")
numbered_name TextRelativePointerButTextBaseIsUndefined =
    numbered 16 (codes "TextRelativePointerButTextBaseIsUndefined")
numbered_name DataRelativePointerButDataBaseIsUndefined =
    numbered 17 (codes "DataRelativePointerButDataBaseIsUndefined")
numbered_name FuncRelativePointerInBadContext =
    numbered 18 (codes "FuncRelativePointerInBadContext")
numbered_name UnsupportedIndirectPointer = numbered 19 (codes "UnsupportedIndirectPointer")
numbered_name (NotCieId n) = numbered 20 (codes "NotCieId")
numbered_name (NotCiePointer n) = numbered 21 (codes "NotCiePointer")
numbered_name (NoEntryAtGivenOffset n) = numbered 22 (codes "NoEntryAtGivenOffset")
numbered_name (OffsetOutOfBounds n) = numbered 23 (codes "OffsetOutOfBounds")
numbered_name (UnknownCallFrameInstruction opcode) =
    numbered 24 (codes "UnknownCallFrameInstruction")
numbered_name CfiInstructionInInvalidContext = numbered 25 (codes "CfiInstructionInInvalidContext")
numbered_name (InvalidCfiSetLoc n) = numbered 26 (codes "InvalidCfiSetLoc")
numbered_name StackFull = numbered 27 (codes "StackFull")
numbered_name PopWithEmptyStack = numbered 28 (codes "PopWithEmptyStack")
numbered_name TooManyRegisterRules = numbered 29 (codes "TooManyRegisterRules")
numbered_name NoUnwindInfoForAddress = numbered 30 (codes "NoUnwindInfoForAddress")
numbered_name OutOfMemory = numbered 31 (codes "OutOfMemory")

abbrev pub number_of : Error → ℕ
number_of e = (numbered_name e).number

abbrev pub name_of : Error → List ℕ
name_of e = (numbered_name e).name

-- the place, byte or number that an error carries
abbrev pub value_of : Error → ℕ
value_of (UnexpectedEof x) = x.0
value_of (UnknownReservedLength x) = x
value_of (UnsupportedAddressSize x) = x
value_of (UnsupportedRegister x) = x
value_of (UnknownVersion x) = x
value_of (UnsupportedSegmentSize x) = x
value_of (UnknownPointerEncoding x) = x.0
value_of (UnsupportedPointerEncoding x) = x.0
value_of (NotCieId x) = x
value_of (NotCiePointer x) = x
value_of (NoEntryAtGivenOffset x) = x
value_of (OffsetOutOfBounds x) = x
value_of (UnknownCallFrameInstruction x) = x.0
value_of (InvalidCfiSetLoc x) = x
value_of e = 0

-- a name does not show what an error carries, so it is 0 here
abbrev pub errors : List Error
errors =
    UnexpectedEof (record { 0 = 0 }) ∷ BadUnsignedLeb128 ∷ BadSignedLeb128 ∷
    UnknownReservedLength 0 ∷ UnsupportedAddressSize 0 ∷ UnsupportedOffset ∷ UnsupportedRegister 0 ∷
    AddressOverflow ∷ UnknownVersion 0 ∷ UnsupportedSegmentSize 0 ∷ UnknownAugmentation ∷
    UnknownPointerEncoding (record { 0 = 0 }) ∷ CannotParseOmitPointerEncoding ∷
    UnsupportedPointerEncoding (record { 0 = 0 }) ∷ PcRelativePointerButSectionBaseIsUndefined ∷
    TextRelativePointerButTextBaseIsUndefined ∷ DataRelativePointerButDataBaseIsUndefined ∷
    FuncRelativePointerInBadContext ∷ UnsupportedIndirectPointer ∷ NotCieId 0 ∷ NotCiePointer 0 ∷
    NoEntryAtGivenOffset 0 ∷ OffsetOutOfBounds 0 ∷ UnknownCallFrameInstruction (record { 0 = 0 }) ∷
    CfiInstructionInInvalidContext ∷ InvalidCfiSetLoc 0 ∷ StackFull ∷ PopWithEmptyStack ∷
    TooManyRegisterRules ∷ NoUnwindInfoForAddress ∷ OutOfMemory ∷ []
