use Rattle.std.proofs.Common.{◌≡◌, ◌++◌, drop}
use Rattle.cfi_object.specs.Targets.{each_offset}
use Rattle.cfi_object.proofs.target.each_offset.Given as goal

-- the sums so far, and those of the addresses that are left
abbrev pub invariant-loop-address : goal.invariant-loop-address
invariant-loop-address l = l.all.items ++ each_offset l.offset (drop l.address-index l.addresses) ≡ each_offset l.offset l.addresses
