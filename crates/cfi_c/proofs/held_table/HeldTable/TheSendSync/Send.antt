use Rattle.std.proofs.Common.{Option, Some, None}
use mir.Raw.{raw}
use base.Shift.{Keyless}
use denote.Memory.{lone}
use denote.RawPtr.{Ptr}
use denote.Struct.Struct.{exits_of}
use denote.Struct.Owning.{shape, fields, to}
use denote.Param.Send.{IsSend, AllSend, owning_send, struct_send, sendable}
use Rattle.std.proofs.Crossing as heap
use Rattle.std_alloc.proofs.SendSync.{quiet, lies}
use Rattle.std.specs.contracts.alloc.Global as Heap
use Rattle.std.proofs.alloc.Global.TheSendSync as handle
use Rattle.cfi_compiled.specs.CompiledTables.{TableContents}
use Rattle.cfi_compiled.specs.contracts.table.CompiledTable.{the_row as T}
use Rattle.cfi_compiled.proofs.table.CompiledTable.TheSendSync.{the_send as table_send}
use Rattle.cfi_c.specs.HeldTables.{owned_table}
use Rattle.cfi_c.specs.contracts.held_table.HeldTable.{the_row, the_type}

crosses : (table : Option TableContents) (alloc : Heap.the_row.Denot) (p : Ptr) → Keyless (owned_table table alloc p)
crosses (Some table) alloc p = (lies T table_send p table, heap.frees.frees alloc (raw (lone T.mir)) p)
crosses None alloc p = tt

pub send : IsSend the_row
send =
    let all : AllSend (fields the_type) = (search sendable, (handle.the_field_send, tt)) in
    owning_send the_type all (λ d. crosses d.table d.alloc d.at)
    (λ k. quiet (to the_type) (exits_of k (fields the_type)) ((struct_send (shape the_type) all).leaving k))
