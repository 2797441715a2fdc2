use Rattle.cfi_cores.specs.CoreFiles.{core_view}
use Rattle.cfi_core_stacks.proofs.KnownLemmas.{part_memory}
use Rattle.cfi_core_stacks.proofs.known_memory.memory_of.Goals as goal

pub returns-in-Some-clause-memory : goal.returns-in-Some-clause-memory
returns-in-Some-clause-memory c = λ whole known lent same.
    part_memory c.args.known.now.parts c.in-Some.parts (core_view c.args.known.now.core.now) whole lent c.in-Some.is known
