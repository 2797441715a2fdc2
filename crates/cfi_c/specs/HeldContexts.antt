-- What the address of a context owns.
--     owned_context live alloc p      the context at p and the right to give its memory back to the
--         heap, where it is live
use Rattle.std.specs.Prelude.{Bool, true, false}
use base.Fml.{Fml, fex, ftrue}
use denote.RawPtr.{Ptr}
use Rattle.std_alloc.specs.Box.Ownership.{box_owns}
use Rattle.std.specs.contracts.alloc.Global.{the_row as heap}
use Rattle.std.specs.contracts.impls.GlobalAllocator.TheImpl.{ghosts}
use Rattle.cfi_c.specs.ContextRow.{heap_context_row}

abbrev pub owned_context : Bool → heap.Denot → Ptr → Fml
owned_context true alloc p =
    fex heap_context_row.Denot
    (λ context. box_owns (ghosts.dealloc_token alloc) heap_context_row p context)
owned_context false alloc p = ftrue
