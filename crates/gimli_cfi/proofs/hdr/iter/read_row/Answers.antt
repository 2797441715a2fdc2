use Rattle.cfi_parts.proofs.Behind.{stays_behind}
use Rattle.cfi_parts.proofs.InstructionLemmas.{onward_pointer}
use Rattle.gimli_cfi.proofs.hdr.iter.read_row.Goals as goal

pub read_pointer-requires-2-clause-behind :
    goal.read_pointer-requires-2-clause-behind
read_pointer-requires-2-clause-behind g c =
    stays_behind (onward_pointer _ _) _ c.read_pointer.ensures.0 c.requires.behind
