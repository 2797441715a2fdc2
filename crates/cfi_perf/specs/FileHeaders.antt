-- The header of a profile (perf.data-file-format.txt).
--     records_section bytes      where the records begin and end, by the header
use Rattle.std.specs.Prelude.{ℕ, ◌+◌, ◌-◌, ◌^◌, not, List, codes, drop, min, Option, Result, Ok}
use Rattle.std.specs.Prelude.{Err, bit_and, nat_eq, ◌==◌, if◌then◌else◌}
use Rattle.std.specs.List.{starts_with}
use Rattle.std.specs.Result.{result_ok}
use Rattle.std.specs.Int.{w64}
use Rattle.cfi_read_core.specs.declared.endianity.RunTimeEndian.{RunTimeEndian}
use Rattle.cfi_read_core.specs.declared.endianity.RunTimeEndian.TheVariants.{Little, Big}
use Rattle.cfi_read_core.specs.ByteOrder.{is_big}
use Rattle.cfi_read_core.specs.ReadFunctions.{Read, ◌>>=◌, give}
use Rattle.cfi_read_core.specs.Numbers.{unsigned}
use Rattle.cfi_read_core.specs.ReaderCalls.{map_ok}
use Rattle.cfi_perf.specs.declared.error.PerfError.{PerfError}
use Rattle.cfi_perf.specs.declared.error.PerfError.TheVariants.{NotPerf, HeaderCut}
use Rattle.cfi_perf.specs.declared.error.PerfError.TheVariants.{HeaderSize, Directory}
use Rattle.cfi_perf.specs.declared.file_header.FileSection.{FileSection}
use Rattle.cfi_perf.specs.declared.file_header.FileHeader.{FileHeader}
use Rattle.cfi_perf.specs.Results.{and_then, or_error}
use Rattle.cfi_perf.specs.ByteReads.{read_from}

-- the magic number 0x32454c4946524550, in the byte order of the file
abbrev pub byte_order : List ℕ → Result RunTimeEndian PerfError
byte_order bytes =
    if starts_with nat_eq bytes (codes "PERFILE2") then Ok Little
    else if starts_with nat_eq bytes (codes "2ELIFREP") then Ok Big
    else Err NotPerf

-- a part of the file
unfoldable pub file_section : Read FileSection
file_section = do
  offset ← unsigned w64
  size ← unsigned w64
  give (record { offset = offset; size = size })

-- which sections stand after the records, as 256 bits; bits from 64 on aren't used here
unfoldable pub feature_bits : Read ℕ
feature_bits = do
  features ← unsigned w64
  from_64 ← unsigned w64
  from_128 ← unsigned w64
  from_192 ← unsigned w64
  give features

-- the header after the magic number and its own size
unfoldable pub header_fields : Read FileHeader
header_fields = do
  attr_size ← unsigned w64
  attrs ← file_section
  records ← file_section
  event_types ← file_section
  features ← feature_bits
  give (record { attr_size = attr_size; attrs = attrs; records = records; features = features })

-- HEADER_DIR_FORMAT, bit 24, says that the samples are in other files, beside this one
abbrev pub in_one_file : FileHeader → Result FileHeader PerfError
in_one_file header = if bit_and header.features 0x1000000 == 0 then Ok header else Err Directory

-- the header, of a file of this byte order
unfoldable pub file_header : RunTimeEndian → List ℕ → Result FileHeader PerfError
file_header endian bytes =
    and_then (or_error HeaderCut (read_from (is_big endian) (drop 8 bytes) (unsigned w64))) (λ size.
    if not (size == 104) then Err (HeaderSize size)
    else
    and_then (or_error HeaderCut (read_from (is_big endian) (drop 16 bytes) header_fields))
    in_one_file)

-- where a part begins and where it ends, at the last offset of 64 bits at most
abbrev pub bounds : FileSection → ℕ × ℕ
bounds part = (part.offset, min (part.offset + part.size) (2 ^ 64 - 1))

-- of the records, where the bytes begin with a header
abbrev pub records_section : List ℕ → Option (ℕ × ℕ)
records_section bytes =
    result_ok
    (and_then (byte_order bytes) (λ endian.
    map_ok (λ header. bounds header.records) (file_header endian bytes)))
