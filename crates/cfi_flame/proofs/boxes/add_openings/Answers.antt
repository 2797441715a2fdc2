use Rattle.std.proofs.Common.{[], get_or}
use Rattle.cfi_flame.specs.declared.folded.Stack.{Stack as StackOfCode}
use Rattle.cfi_flame.proofs.CommonLemmas.{first_begins, front_taken, whole_front}
use Rattle.cfi_flame.proofs.boxes.add_openings.Goals as goal

abbrev none : StackOfCode
none = record { frames = record { ref_ptr = (0, 0); now = [] }; count = 0 }

pub add_opening-requires-clause-front : goal.add_opening-requires-clause-front
add_opening-requires-clause-front c =
    first_begins c.args.stacks.now none _ c.requires.some
    (front_taken (get_or c.args.stacks.now 0 none).frames.now c.loop-end.end c.loop-end-test.true c.if-frames-end-eq-SEPARATOR.true)

pub add_opening-requires-2-clause-front : goal.add_opening-requires-2-clause-front
add_opening-requires-2-clause-front c =
    first_begins c.args.stacks.now none _ c.requires.some (whole_front (get_or c.args.stacks.now 0 none).frames.now)
