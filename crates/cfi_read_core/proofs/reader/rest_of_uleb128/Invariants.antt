use Rattle.std.proofs.Common.{◌≡◌, ◌<◌, ◌≤◌, ◌-◌, ◌^◌}
use Rattle.cfi_read_core.specs.Numbers.{unsigned_leb128}
use Rattle.cfi_read_core.specs.ReaderCalls.{bytes_left}
use Rattle.cfi_read_core.proofs.Leb128.{left_gives}
use Rattle.cfi_read_core.proofs.reader.rest_of_uleb128.Given as goal

-- what is left gives the rest of the number, above the bits that were read
abbrev pub invariant-loop-index : goal.invariant-loop-index
invariant-loop-index g l =
    let position = g.R.Reader.position in
    record {
      number : left_gives (9 - l.index) l.weight l.value (bytes_left (position l.input)) (position l.input).place ≡ unsigned_leb128 (position l.initial.input).source ((position l.initial.input).place - 1);
      same : (position l.input).source ≡ (position l.initial.input).source;
      weighs : l.weight ≡ 128 ^ l.index;
      bound : l.value < l.weight;
      few : l.index ≤ 9;
    }
