-- The two sections of call frame information, and how they differ (DWARF 5 section 6.4.1; LSB Core,
-- "The .eh_frame section").
use Rattle.std.specs.Prelude.{ℕ, ◌≤◌, ◌-◌, Bool, true, false, Result, Ok, Err, nat_le, ◌==◌}
use Rattle.std.specs.Prelude.{if◌then◌else◌}
use Rattle.std.specs.Int.{Width, w32, w64}
use Rattle.cfi_read_core.specs.declared.common.SectionId.{SectionId}
use Rattle.cfi_read_core.specs.declared.common.SectionId.TheVariants as names
use Rattle.cfi_read_core.specs.declared.common.Vendor.{Vendor}
use Rattle.cfi_read_core.specs.declared.common.Format.{Format}
use Rattle.cfi_read_core.specs.declared.common.Format.TheVariants.{Dwarf32, Dwarf64}
use Rattle.cfi_read_core.specs.declared.error.Error.{Error}
use Rattle.cfi_read_core.specs.declared.error.Error.TheVariants.{OffsetOutOfBounds}
use Rattle.std.specs.Coded.{Coded-set, coded_list, coded_ℕ, coded_bool, le_prop}
use Rattle.cfi_read_core.specs.ReadFunctions.{Position}
use Rattle.cfi_read_core.specs.ReaderCalls.{IsPartOf}
use Rattle.cfi_read_core.specs.declared.section_properties.CieOffsetEncoding.{CieOffsetEncoding}
use Rattle.cfi_read_core.specs.declared.section_properties.CieOffsetEncoding.TheVariants.{U32, U64}

pub data SectionKind : Type 0 where
  DebugFrame : SectionKind
  EhFrame : SectionKind

-- The properties of a call frame section.
pub record SectionView : Type 0 where
  pub kind : SectionKind
  pub position : Position  -- its bytes, from the place where it begins
  pub address_size : ℕ  -- of an entry that gives none
  pub vendor : Vendor

-- A reader is of a section when it has the section's bytes and lies within the section's places.
pub record IsOf (part section : Position) : Type 0 where
  pub source : IsPartOf part section
  pub first : section.place ≤ part.place
  pub last : part.source.last ≤ section.source.last

-- ---- what differs between the two

-- the section's id
abbrev pub section_id : SectionKind → SectionId
section_id DebugFrame = names.DebugFrame
section_id EhFrame = names.EhFrame

-- the width of an entry's id
abbrev pub id_width : SectionKind → Format → Width
id_width DebugFrame Dwarf64 = w64
id_width DebugFrame Dwarf32 = w32
id_width EhFrame format = w32

-- the id that marks a CIE
abbrev pub cie_id : SectionKind → Format → ℕ
cie_id DebugFrame Dwarf32 = 0xffffffff
cie_id DebugFrame Dwarf64 = 0xffffffffffffffff
cie_id EhFrame format = 0

-- an entry of length zero is the last one of .eh_frame
abbrev pub zero_length_ends : SectionKind → Bool
zero_length_ends DebugFrame = false
zero_length_ends EhFrame = true

-- a CIE of version 4 in .debug_frame gives the sizes of an address and of a segment selector
abbrev pub has_sizes : SectionKind → ℕ → Bool
has_sizes DebugFrame version = version == 4
has_sizes EhFrame version = false

-- where an FDE's CIE begins: .debug_frame gives the offset, .eh_frame how far it is before the id
abbrev pub cie_offset_from : SectionKind → ℕ → ℕ → Result ℕ Error
cie_offset_from DebugFrame id_offset id = Ok id
cie_offset_from EhFrame id_offset id =
    if nat_le id id_offset then Ok (id_offset - id) else Err (OffsetOutOfBounds id)

-- how many bytes the code's word for a width stands for
abbrev pub width_of : CieOffsetEncoding → Width
width_of U32 = w32
width_of U64 = w64

pub IsOf_prop : (part section : Position) → IsProp (IsOf part section)
IsOf_prop part section =
    hlevel (Coded-set (coded_list coded_ℕ), Coded-set coded_bool, Coded-set coded_ℕ, le_prop)
