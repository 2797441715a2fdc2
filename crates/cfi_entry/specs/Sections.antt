-- A section of call frame information as its entries are read (DWARF 5 section 6.4.1; LSB Core,
-- "The .eh_frame section").
use Rattle.std.specs.Prelude.{ℕ, ◌+◌, ◌-◌, Option, Result, Err, nat_le, nat_lt, if◌then◌else◌}
use Rattle.cfi_read_core.specs.declared.common.Vendor.{Vendor}
use Rattle.cfi_read_core.specs.declared.error.Error.{Error}
use Rattle.cfi_read_core.specs.declared.error.Error.TheVariants.{UnsupportedOffset}
use Rattle.cfi_read_core.specs.ReadFunctions.{Source, Position, Read, unexpected_eof}
use Rattle.cfi_parts.specs.declared.pointer.BaseAddresses.{BaseAddresses}
use Rattle.cfi_parts.specs.declared.pointer.SectionBaseAddresses.{SectionBaseAddresses}
use Rattle.cfi_parts.specs.Pointers.{PointerContext}
use Rattle.cfi_read_core.specs.CallFrameSections.{SectionView, SectionKind, cie_offset_from}
pub use Rattle.cfi_read_core.specs.CallFrameSections.{SectionKind, DebugFrame, EhFrame, id_width}
pub use Rattle.cfi_read_core.specs.CallFrameSections.{cie_id, zero_length_ends, has_sizes}
pub use Rattle.cfi_read_core.specs.CallFrameSections.{cie_offset_from}

-- A section as its entries are read: its bytes, and what the caller says of them.
pub record Section : Type 0 where
  pub kind : SectionKind
  pub source : Source
  pub first : ℕ  -- the place where it begins
  pub address_size : ℕ  -- of an entry that gives none
  pub vendor : Vendor
  pub bases : SectionBaseAddresses

-- where a place lies in the section
abbrev pub offset_in : Section → ℕ → ℕ
offset_in section place = place - section.first

-- the section's bytes, from the place where it begins
abbrev pub position_of : Section → Position
position_of section = record { source = section.source; place = section.first }

-- the section's properties, with the bases of the pointers in its entries
abbrev pub section_of : SectionView → BaseAddresses → Section
section_of view bases = record {
  kind = view.kind;
  source = view.position.source;
  first = view.position.place;
  address_size = view.address_size;
  vendor = view.vendor;
  bases = bases.eh_frame;
}

-- where an FDE's CIE begins, by the offset of its id and the id
abbrev pub cie_offset_of : Section → ℕ → ℕ → Result ℕ Error
cie_offset_of section id_offset id =
    if nat_le id section.source.greatest
    then cie_offset_from section.kind id_offset id
    else Err UnsupportedOffset

-- ---- reading in a section

-- the value that a read of the section gives at an offset
abbrev pub at_offset : {A : Type 0} → Section → ℕ → Read A → Result A Error
at_offset section offset read =
    if nat_lt (section.source.last - section.first) offset
    then Err (unexpected_eof section.first)
    else (read section.source (section.first + offset)).value

-- the pointers of the section's entries, with a function base or none
abbrev pub pointer_context : Section → Option ℕ → ℕ → PointerContext
pointer_context section function size =
    record { bases = section.bases; function = function; size = size; section = section.first }
