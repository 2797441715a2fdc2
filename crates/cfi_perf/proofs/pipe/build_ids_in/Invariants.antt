use Rattle.std.proofs.Common.{◌≡◌, ◌-◌, length}
use Rattle.cfi_read_core.specs.ByteOrder.{is_big}
use Rattle.cfi_perf.specs.Pipes.{build_ids_in, build_ids_up_to}
use Rattle.cfi_perf.proofs.pipe.build_ids_in.Given as goal

-- what is left has the builds that all have
abbrev pub invariant-loop : goal.invariant-loop
invariant-loop l = build_ids_up_to (length l.fn.records - l.counter) (is_big l.endian) l.left ≡ build_ids_in (is_big l.endian) l.fn.records
