-- What the address of a compiled table owns.
--     owned_table table alloc p      the table at p and the right to give its memory back to the
--         heap, where there is one
use Rattle.std.specs.Prelude.{Option, Some, None}
use base.Fml.{Fml, ftrue}
use denote.RawPtr.{Ptr}
use Rattle.std_alloc.specs.Box.Ownership.{box_owns}
use Rattle.std.specs.contracts.alloc.Global.{the_row as heap}
use Rattle.std.specs.contracts.impls.GlobalAllocator.TheImpl.{ghosts}
use Rattle.cfi_compiled.specs.CompiledTables.{TableContents}
use Rattle.cfi_compiled.specs.contracts.table.CompiledTable.{the_row as table_row}

abbrev pub owned_table : Option TableContents → heap.Denot → Ptr → Fml
owned_table (Some table) alloc p = box_owns (ghosts.dealloc_token alloc) table_row p table
owned_table None alloc p = ftrue
