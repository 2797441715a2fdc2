use Rattle.std.proofs.Common.{◌≡◌, ◌≤◌, ◌+◌, ◌-◌, length}
use Rattle.cfi_read_core.specs.ByteOrder.{is_big}
use Rattle.cfi_perf.specs.Pipes.{attributes_in, attributes_up_to}
use Rattle.cfi_perf.proofs.pipe.attributes_in.Given as goal

-- those that were passed and those that are left are all; each record has one at most
abbrev pub invariant-loop : goal.invariant-loop
invariant-loop l =
    (l.count + attributes_up_to (length l.fn.records - l.counter) (is_big l.endian) l.left ≡ attributes_in (is_big l.endian) l.fn.records)
    × (l.count ≤ l.counter)
