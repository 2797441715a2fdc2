use Rattle.std.proofs.Common.{◌<◌, arith, map}
use Rattle.cfi_cores.specs.PartialCores.{segment_at}
use Rattle.cfi_cores.specs.StackWindows.{IsStackOf}
use Rattle.cfi_cores.specs.CoreSegments.{segment_view}
use Rattle.cfi_cores.specs.declared.segments.CoreSegment.{CoreSegment as SegmentOfCode}
use Rattle.cfi_cores.proofs.PartBytes.{if_some}
use Rattle.cfi_cores.proofs.StackWindows.{stack_of}
use Rattle.cfi_cores.proofs.stack_window.stack_at.Goals as goal

pub returns : goal.returns
returns c = λ bytes of.
    let places = c.args.places.now in
    let count = c.partition_point-count.result in
    let some : 0 < count = omega arith in
    if_some c.stack_in.result _ (λ (w : SegmentOfCode). IsStackOf (map (segment_at bytes) places) (segment_view w))
    (λ w is. stack_of bytes places count c.start_from-next.result _ c.requires some c.partition_point-count.ensures.bound c.start_from-next.ensures c.stack_in.ensures.bound (segment_view w) is)
    (c.stack_in.ensures.window bytes of)
