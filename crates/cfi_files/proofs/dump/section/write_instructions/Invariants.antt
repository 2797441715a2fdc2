use Rattle.cfi_files.specs.Sending.{Grows}
use Rattle.cfi_files.proofs.dump.section.write_instructions.Given as goal

abbrev pub invariant-loop-instruction : goal.invariant-loop-instruction
invariant-loop-instruction g l =
    record {
      can_next : (goal.iterator-loop-instruction g).can_next l.instruction-iterator;
      is_finite : (goal.iterator-loop-instruction g).is_finite l.instruction-iterator;
      grows : Grows (g.W.Write.contents l.initial.output) (g.W.Write.contents l.output);
    }
