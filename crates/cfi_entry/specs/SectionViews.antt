-- The two sections of the code, `DebugFrame` and `EhFrame`, as what they are.
--     debug_frame_reader, eh_frame_reader section      the reader over the section's bytes
--     .._address_size, .._vendor section      the size of an address, and whose vendor opcodes are
--         read
--     .._view position section      the properties of the section
--     IsNewDebugFrame, IsNewEhFrame reader section      the section of a reader, before anything is
--         set
use Rattle.std.specs.Prelude.{◌≡◌}
use Rattle.cfi_read_core.specs.AddressSizes.{size_in_bytes}
use Rattle.cfi_read_core.specs.ReadFunctions.{Position}
use Rattle.cfi_read_core.specs.CallFrameSections.{SectionView, DebugFrame as of_debug_frame}
use Rattle.cfi_read_core.specs.CallFrameSections.{EhFrame as of_eh_frame}
use Rattle.cfi_read_core.specs.declared.address.AddressSize.{AddressSize}
use Rattle.cfi_read_core.specs.declared.common.Vendor.{Vendor}
use Rattle.cfi_read_core.specs.declared.common.Vendor.TheVariants.{Default as no_vendor}
use Rattle.cfi_entry.specs.declared.debug_frame.DebugFrame.{DebugFrame}
use Rattle.cfi_entry.specs.declared.eh_frame.EhFrame.{EhFrame}

-- ---- .debug_frame

abbrev pub debug_frame_reader : {R : Type 0} → DebugFrame R → R
debug_frame_reader section = section.section

abbrev pub debug_frame_address_size : {R : Type 0} → DebugFrame R → AddressSize
debug_frame_address_size section = section.address_size

abbrev pub debug_frame_vendor : {R : Type 0} → DebugFrame R → Vendor
debug_frame_vendor section = section.vendor

abbrev pub debug_frame_view : {R : Type 0} → (R → Position) → DebugFrame R → SectionView
debug_frame_view position section = record {
  kind = of_debug_frame;
  position = position section.section;
  address_size = size_in_bytes section.address_size;
  vendor = section.vendor;
}

abbrev pub IsNewDebugFrame : {R : Type 0} → R → DebugFrame R → Type 0
IsNewDebugFrame reader section =
    (section.section ≡ reader)
    × ((size_in_bytes section.address_size ≡ 8) × (section.vendor ≡ no_vendor))

-- ---- .eh_frame

abbrev pub eh_frame_reader : {R : Type 0} → EhFrame R → R
eh_frame_reader section = section.section

abbrev pub eh_frame_address_size : {R : Type 0} → EhFrame R → AddressSize
eh_frame_address_size section = section.address_size

abbrev pub eh_frame_vendor : {R : Type 0} → EhFrame R → Vendor
eh_frame_vendor section = section.vendor

abbrev pub eh_frame_view : {R : Type 0} → (R → Position) → EhFrame R → SectionView
eh_frame_view position section = record {
  kind = of_eh_frame;
  position = position section.section;
  address_size = size_in_bytes section.address_size;
  vendor = section.vendor;
}

abbrev pub IsNewEhFrame : {R : Type 0} → R → EhFrame R → Type 0
IsNewEhFrame reader section =
    (section.section ≡ reader)
    × ((size_in_bytes section.address_size ≡ 8) × (section.vendor ≡ no_vendor))
