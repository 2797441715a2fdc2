use Rattle.std.proofs.Common.{◌≡◌, drop}
use Rattle.cfi_elf.specs.Fields.{entries}
use Rattle.cfi_cores.specs.AuxiliaryVectors.{value_in}
use Rattle.cfi_cores.proofs.auxiliary_vector.value_in.Given as goal

-- what the pairs that are left have is what all have
abbrev pub invariant-loop-index : goal.invariant-loop-index
invariant-loop-index l =
    let all = entries 16 l.vector in
    value_in l.kind (drop l.index all) ≡ value_in l.kind all
