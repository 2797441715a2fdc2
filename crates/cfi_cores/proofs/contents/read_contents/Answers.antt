use Rattle.std.proofs.Common.{ap}
use Rattle.cfi_cores.specs.Contents.{contents_view, contents_of_header, contents_of_headers}
use Rattle.cfi_cores.proofs.Sequences.{all_read, one_read}
use Rattle.cfi_cores.proofs.contents.read_contents.Goals as goal

pub loop-header-preserved : goal.loop-header-preserved
loop-header-preserved c =
    one_read (contents_view c.loop-header.contents) _ (contents_of_header c.args.machine c.args.bytes.now c.in-Some.header) _ _ _
    c.in_ok-read_header.ensures (ap (contents_of_headers c.args.machine c.args.bytes.now) c.in-Some.ensures.steps) c.loop-header.invariant

pub returns : goal.returns
returns c = all_read _ _ _ (ap (contents_of_headers c.args.machine c.args.bytes.now) c.in-None.ensures.steps.0) c.loop-header.invariant
