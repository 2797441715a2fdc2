-- What the worked rows compute with.
use Rattle.std.proofs.Common.{ℕ, ◌+◌, ◌-◌, ◌*◌, List, [], ◌∷◌, codes, Option, Some, None, length, false}
use Rattle.std.specs.Prelude.{nat_lt, ◌==◌, if◌then◌else◌}
use Rattle.cfi_read_core.specs.declared.common.Vendor.TheVariants as vendors
use Rattle.cfi_read_core.specs.ReadFunctions.{Source, readings_up_to}
use Rattle.cfi_read_core.specs.Numbers.{unsigned, signed, leb128_bytes, unsigned_leb128, signed_leb128, offset_leb128, register_leb128, initial_length, text}
use Rattle.cfi_read_core.specs.Addresses.{address, address_size}
use Rattle.cfi_parts.specs.Pointers.{encoding_byte, encoded_value, base_of, pointer}
use Rattle.cfi_parts.specs.Instructions.{expression, instruction}
use Rattle.cfi_entry.specs.Sections.{SectionKind, DebugFrame, EhFrame, Section}
use Rattle.cfi_entry.specs.Prefixes.{prefix}
use Rattle.cfi_entry.specs.Augmentations.{letter, letters, letters_with_data, augmentation}
use Rattle.cfi_entry.specs.Cies.{cie_fields}
use Rattle.cfi_entry.specs.Fdes.{fde_fields}
use Rattle.cfi_entry.specs.Entries.{entry_of, entries_from, cie_at, partial_fde_at}
use Rattle.cfi_unwind.specs.Scan.{first_covering}
use Rattle.gimli_cfi.specs.EhFrameHdr.{HeaderSection, Table, row_count, header_fields, row_by, row_field, start_of, target_of}
use Rattle.gimli_cfi.specs.HeaderRows.{rows_from}
use Rattle.gimli_cfi.specs.HalvingSteps.{least_exponent}

-- to name it on an `unfolding` line is to open all these
unfoldable pub computing : ℕ
unfolding readings_up_to unsigned signed leb128_bytes unsigned_leb128 signed_leb128 offset_leb128 register_leb128 initial_length text address address_size encoding_byte encoded_value base_of pointer expression instruction prefix letter letters letters_with_data augmentation cie_fields fde_fields entry_of entries_from cie_at partial_fde_at first_covering row_count header_fields row_by rows_from row_field start_of target_of least_exponent
computing = 0

-- the bytes of hexadecimal text, whose letters are small; spaces are passed over
abbrev digit_of : ℕ → ℕ
digit_of c = if nat_lt c 58 then c - 48 else c - 87

abbrev pub bytes_behind : Option ℕ → List ℕ → List ℕ
bytes_behind high [] = []
bytes_behind None (c ∷ cs) = if c == 32 then bytes_behind None cs else bytes_behind (Some (digit_of c)) cs
bytes_behind (Some high) (c ∷ cs) = if c == 32 then bytes_behind (Some high) cs else (16 * high + digit_of c) ∷ bytes_behind None cs

abbrev pub bytes : List ℕ → List ℕ
bytes digits = bytes_behind None digits

abbrev pub little : ℕ → List ℕ → Source
little greatest bs = record { whole = bs; last = length bs; big_endian = false; greatest = greatest }

-- a little-endian section with addresses of eight bytes; the base is that of the section
abbrev pub section_at : SectionKind → Option ℕ → List ℕ → Section
section_at kind base digits = record {
  kind = kind;
  source = little 0xffffffffffffffff (bytes digits);
  first = 0;
  address_size = 8;
  vendor = vendors.Default;
  bases = record { section = base; text = None; data_base = None };
}

abbrev pub debug_frame : List ℕ → Section
debug_frame digits = section_at DebugFrame None digits

abbrev pub eh_frame : List ℕ → Section
eh_frame digits = section_at EhFrame None digits

-- the same over a reader with offsets of four bytes
abbrev pub narrow : Section → Section
narrow s = record s { source = record s.source { greatest = 0xffffffff } }

abbrev pub header_at : Option ℕ → ℕ → List ℕ → HeaderSection
header_at base size digits = record { source = little 0xffffffffffffffff (bytes digits); first = 0; address_size = size; bases = record { section = base; text = None; data_base = base } }

-- ---- three FDEs of .eh_frame at 0x2000, and their header at 0x1f00

abbrev pub three : Section
three = section_at EhFrame (Some 0x2000) (codes "14000000 00000000 01 7a5200 01 78 10 01 1b 0c0708 9001 0000 10000000 1c000000 e0efffff 10000000 00 000000 10000000 30000000 dcefffff 10000000 00 410e10 10000000 44000000 d8efffff 20000000 00 000000 00000000")

abbrev pub three_header : HeaderSection
three_header = header_at (Some 0x1f00) 8 (codes "01 1b 03 3b fc000000 03000000 00f1ffff 18010000 10f1ffff 2c010000 20f1ffff 40010000")

abbrev pub three_rows : Table
three_rows = record { encoding = 0x3b; count = 3; rows = record { first = 12; last = 36 } }
