use Rattle.std.proofs.Common.{◌≡◌, ◌-◌, length}
use Rattle.cfi_read_core.specs.ByteOrder.{is_big}
use Rattle.cfi_perf.specs.BuildIds.{listed_build_id, id_up_to}
use Rattle.cfi_perf.proofs.build_ids.id_of.Given as goal

-- what is left has the id that all have
abbrev pub invariant-loop : goal.invariant-loop
invariant-loop l = id_up_to (length l.fn.table - l.counter) (is_big l.endian) l.name l.left ≡ listed_build_id (is_big l.endian) l.fn.name l.fn.table
