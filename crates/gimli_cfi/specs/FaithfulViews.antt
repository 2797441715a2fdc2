-- What contracts see of a table that was checked against its section.
--     faithful_view      the table with the section
--     checked_frame      the section
--     IsCheckOf      of which table, section and bases it is
use Rattle.std.specs.Prelude.{◌≡◌}
use Rattle.cfi_read_core.specs.ReadFunctions.{Position}
use Rattle.cfi_parts.specs.declared.pointer.BaseAddresses.{BaseAddresses}
use Rattle.cfi_entry.specs.declared.eh_frame.EhFrame.{EhFrame}
use Rattle.gimli_cfi.specs.declared.hdr.table.EhHdrTable.{EhHdrTable}
use Rattle.gimli_cfi.specs.declared.hdr.faithful_table.FaithfulTable.{FaithfulTable}
use Rattle.gimli_cfi.specs.HeaderViews.{listing_view}
use Rattle.gimli_cfi.specs.TableCheck.{Listing}

-- the reader's offset and byte order follow the reader; the braces have what the traits of the
-- three say
module _ {R O E : Type 0} {a : _} {b : _} {c : _} {d : _} {e : _} {f : _} {g : _} {h : _} {i : _}
    {j : _} {k : _} where
  abbrev pub faithful_view : (R → Position) → FaithfulTable R O E a b c d e f g h i j k → Listing
  faithful_view position checked =
      listing_view position checked.table checked.frame.now checked.bases.now

  abbrev pub checked_frame : FaithfulTable R O E a b c d e f g h i j k → EhFrame R
  checked_frame checked = checked.frame.now

  abbrev pub IsCheckOf :
      FaithfulTable R O E a b c d e f g h i j k → EhHdrTable R O E a b c d e f g h i j k →
      EhFrame R → BaseAddresses → Type 0
  IsCheckOf checked table frame bases =
      (checked.table ≡ table) × ((checked.frame.now ≡ frame) × (checked.bases.now ≡ bases))
