-- How the pointers in the rows of a header's table are read.
--     read_by, ReadsPointers, ReadsRows      a way to read them, and that it is the encoding's
--     HasBase      what is added to each value
use Rattle.std.specs.Prelude.{◌≡◌, ◌⊎◌, ℕ, Option, Some, None}
use Rattle.std.specs.Int.{w32}
use Rattle.cfi_read_core.specs.Addresses.{wrap}
use Rattle.cfi_read_core.specs.AddressSizes.{size_in_bytes}
use Rattle.cfi_read_core.specs.Numbers.{signed}
use Rattle.cfi_read_core.specs.PointerEncodings.{application_of}
use Rattle.cfi_read_core.specs.ReadFunctions.{Position, Read, ◌>>=◌, give}
use Rattle.cfi_parts.specs.declared.pointer.BaseAddresses.{BaseAddresses}
use Rattle.cfi_parts.specs.declared.pointer.Pointer.{Pointer}
use Rattle.cfi_parts.specs.declared.pointer.Pointer.TheVariants.{Direct}
use Rattle.cfi_parts.specs.declared.pointer.SectionBaseAddresses.{SectionBaseAddresses}
use Rattle.cfi_parts.specs.Pointers.{PointerContext, in_64_bits, pointer}
use Rattle.gimli_cfi.specs.EhFrameHdr.{header_context, header_section}
use Rattle.gimli_cfi.specs.declared.hdr.header.ParsedEhFrameHdr.{ParsedEhFrameHdr}

-- a value, added to a base
abbrev pub added_to : ℕ → Read ℕ → Read Pointer
added_to base read = read >>= λ value. give (Direct (wrap base value 8))

-- sdata4 with this base, or any encoding
abbrev pub read_by : Option ℕ → ℕ → PointerContext → Read Pointer
read_by (Some base) encoding context = added_to base (in_64_bits (signed w32))
read_by None encoding context = pointer encoding context

-- pointers of this encoding are read so
abbrev pub ReadsPointers : Option ℕ → ℕ → PointerContext → Type 0
ReadsPointers base encoding context = read_by base encoding context ≡ pointer encoding context

-- what is added is this base: 0 for absptr, the data base for datarel
abbrev pub HasBase : ℕ → SectionBaseAddresses → ℕ → Type 0
HasBase encoding bases base =
    ((application_of encoding ≡ 0) × (base ≡ 0))
    ⊎ ((application_of encoding ≡ 3) × (bases.data_base ≡ Some base))

-- In the type below the reader's offset and byte order follow the reader; the braces have what the
-- traits of the three say.
module _ {R O E : Type 0} {a : _} {b : _} {c : _} {d : _} {e : _} {f : _} {g : _} {h : _} {i : _}
    {j : _} {k : _} where
  -- the pointers in the rows of this header are read so, with these bases
  abbrev pub ReadsRows :
      (R → Position) → Option ℕ → ParsedEhFrameHdr R O E a b c d e f g h i j k → BaseAddresses →
      Type 0
  ReadsRows position base header bases =
      ReadsPointers base header.table_enc.0
      (header_context
      (header_section (position header.section) (size_in_bytes header.address_size)
      bases.eh_frame_hdr))
