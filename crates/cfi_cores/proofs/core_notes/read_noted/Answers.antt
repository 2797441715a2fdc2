use Rattle.std.proofs.Common.{ap, rules}
use Rattle.cfi_cores.specs.Contents.{contents_view, contents_of_header, contents_of_headers}
use Rattle.cfi_cores.proofs.Sequences.{all_read, one_read}
use Rattle.cfi_cores.proofs.core_notes.read_noted.Goals as goal

pub loop-header-preserved : goal.loop-header-preserved
loop-header-preserved c = λ bytes of.
    one_read (contents_view c.loop-header.contents) _ (contents_of_header c.args.machine bytes c.in-Some.header) _ _ _
    (c.in_ok-read_noted_header.ensures bytes of (search rules)) (ap (contents_of_headers c.args.machine bytes) c.in-Some.ensures.steps) (c.loop-header.invariant bytes of)

pub returns : goal.returns
returns c = λ bytes of. all_read _ _ _ (ap (contents_of_headers c.args.machine bytes) c.in-None.ensures.steps.0) (c.loop-header.invariant bytes of)
