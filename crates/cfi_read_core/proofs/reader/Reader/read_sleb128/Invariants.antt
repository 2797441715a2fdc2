use Rattle.std.proofs.Common.{◌≡◌, ◌<◌, ◌≤◌, ◌-◌, ◌^◌}
use Rattle.cfi_read_core.specs.Numbers.{signed_leb128}
use Rattle.cfi_read_core.specs.ReaderCalls.{bytes_left}
use Rattle.cfi_read_core.proofs.SignedLeb128.{left_gives}
use Rattle.cfi_read_core.proofs.reader.Reader.read_sleb128.Given as goal

-- what is left gives the rest of the number, above the bits that were read
abbrev pub invariant-loop-index : goal.invariant-loop-index
invariant-loop-index g l =
    let position = g.Self.Reader.position in
    record {
      number : left_gives (9 - l.index) l.weight l.value (bytes_left (position l.self)) (position l.self).place ≡ signed_leb128 (position l.fn.self).source (position l.fn.self).place;
      same : (position l.self).source ≡ (position l.fn.self).source;
      weighs : l.weight ≡ 128 ^ l.index;
      bound : l.value < l.weight;
      few : l.index ≤ 9;
    }
