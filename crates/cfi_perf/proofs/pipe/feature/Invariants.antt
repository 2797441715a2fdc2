use Rattle.std.proofs.Common.{◌≡◌, ◌-◌, length}
use Rattle.cfi_read_core.specs.ByteOrder.{is_big}
use Rattle.cfi_perf.specs.Pipes.{feature, feature_up_to}
use Rattle.cfi_perf.proofs.pipe.feature.Given as goal

-- what is left has the section that all have
abbrev pub invariant-loop : goal.invariant-loop
invariant-loop l = feature_up_to (length l.fn.records - l.counter) (is_big l.endian) l.number l.left ≡ feature (is_big l.endian) l.fn.records l.number
