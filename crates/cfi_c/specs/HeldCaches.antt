-- What the address of a cache of rows owns.
--     owned_cache cache alloc p      the cache at p and the right to give its memory back to the
--         heap, where there is one
use Rattle.std.specs.Prelude.{Option, Some, None}
use base.Fml.{Fml, ftrue}
use denote.RawPtr.{Ptr}
use Rattle.std_alloc.specs.Box.Ownership.{box_owns}
use Rattle.std.specs.contracts.alloc.Global.{the_row as heap}
use Rattle.std.specs.contracts.impls.GlobalAllocator.TheImpl.{ghosts}
use Rattle.cfi_step.specs.declared.row_cache.RowCache.{RowCache}
use Rattle.cfi_step.specs.contracts.row_cache.RowCache.{the_row as cache_row}

abbrev pub owned_cache : Option RowCache → heap.Denot → Ptr → Fml
owned_cache (Some cache) alloc p = box_owns (ghosts.dealloc_token alloc) cache_row p cache
owned_cache None alloc p = ftrue
