use Rattle.cfi_text.proofs.TextLemmas.{put_more}
use Rattle.cfi_flame.proofs.counts.StackCounts.put_lines.Goals as goal

pub loop-frames-preserved : goal.loop-frames-preserved
loop-frames-preserved c =
    let before = rw c.in-Some.ensures.steps at c.loop-frames.invariant in
    put_more _ _ _ _ _ _ before (rw c.as_slice.ensures.value at c.put_line.ensures)
