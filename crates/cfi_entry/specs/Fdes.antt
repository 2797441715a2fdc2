-- Frame description entries (DWARF 5 section 6.4.1; LSB Core, "The Frame Description Entry
-- Format").
use Rattle.std.specs.Prelude.{ℕ, ◌≤◌, ◌<◌, Bool, true, false, ◌&&◌, Option, Some, None, Result}
use Rattle.std.specs.Prelude.{nat_le, nat_lt}
use Rattle.cfi_read_core.specs.declared.error.Error.{Error}
use Rattle.cfi_read_core.specs.ReadFunctions.{Read, Extent, ◌>>=◌, give, split, remainder, within}
use Rattle.cfi_read_core.specs.Numbers.{offset_leb128}
use Rattle.cfi_read_core.specs.Addresses.{address, wrap}
use Rattle.cfi_parts.specs.declared.pointer.Pointer.{Pointer}
use Rattle.cfi_parts.specs.Pointers.{pointer, pointer_value, encoded_value}
use Rattle.cfi_entry.specs.Sections.{Section, pointer_context}
use Rattle.cfi_entry.specs.Prefixes.{Prefix}
use Rattle.cfi_entry.specs.Augmentations.{Augmentation}
use Rattle.cfi_entry.specs.Cies.{Cie}
pub use Rattle.cfi_entry.specs.Augmentations.{address_encoding_of}

-- An FDE as far as the offset of its CIE.
pub record PartialFde : Type 0 where
  pub prefix : Prefix
  pub cie_offset : ℕ

pub record Fde : Type 0 where
  pub offset : ℕ
  pub length : ℕ
  pub cie : Cie
  pub initial : ℕ
  pub range : ℕ
  pub lsda : Option Pointer
  pub instructions : Extent

-- ---- the addresses

-- the initial address, and how many addresses there are; by an indirect encoding (LSB Core,
-- DW_EH_PE_indirect) the address of the pointer stands for the initial one, as in gimli
abbrev pub addresses : Section → ℕ → Option ℕ → Read (ℕ × ℕ)
addresses section size None = do
  initial ← address size
  range ← address size
  give (initial, range)
addresses section size (Some encoding) = do
  initial ← pointer encoding (pointer_context section None size)
  range ← encoded_value encoding size
  give (pointer_value initial, range)

-- ---- the augmentation data

abbrev pub lsda_by : Section → ℕ → ℕ → Option ℕ → Read (Option Pointer)
lsda_by section size initial None = give None
lsda_by section size initial (Some encoding) = do
  p ← pointer encoding (pointer_context section (Some initial) size)
  give (Some p)

abbrev pub lsda_in_data : Bool → Section → ℕ → ℕ → Option ℕ → Read (Option Pointer)
lsda_in_data false section size initial encoding = give None
lsda_in_data true section size initial encoding = do
  length ← offset_leb128
  data_bytes ← split length
  within data_bytes (lsda_by section size initial encoding)

abbrev pub lsda : Section → ℕ → ℕ → Option Augmentation → Read (Option Pointer)
lsda section size initial None = give None
lsda section size initial (Some known) =
    lsda_in_data known.has_augmentation_data section size initial known.lsda_encoding

-- ---- the fields, in order, after the id

unfoldable pub fde_fields : Section → Prefix → Cie → Read Fde
fde_fields section found cie = do
  range ← addresses section cie.address_size (address_encoding_of cie.augmentation)
  lsda ← lsda section cie.address_size range.0 cie.augmentation
  instructions ← remainder
  give (record {
    offset = found.offset;
    length = found.length;
    cie = cie;
    initial = range.0;
    range = range.1;
    lsda = lsda;
    instructions = instructions;
  })

abbrev pub fde_after : Section → Prefix → Cie → Result Fde Error
fde_after section found cie =
    (within found.rest (fde_fields section found cie) section.source found.rest.first).value

abbrev pub fde_of : Section → PartialFde → Cie → Result Fde Error
fde_of section partial cie = fde_after section partial.prefix cie

-- ---- what it covers; an end that wraps lies at or below the initial address, and nothing is
--     contained then

abbrev pub end_of : Fde → ℕ
end_of fde = wrap fde.initial fde.range fde.cie.address_size

abbrev pub Covers : Fde → ℕ → Type 0
Covers fde a = (fde.initial ≤ a) × (a < end_of fde)

-- the same as a test
abbrev pub covers : Fde → ℕ → Bool
covers fde a = nat_le fde.initial a && nat_lt a (end_of fde)
