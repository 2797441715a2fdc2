use Rattle.std.proofs.Common.{refl}
use Rattle.cfi_perf.specs.Events.{record_view}
use Rattle.cfi_stacks.proofs.VisitLemmas.{no_sample}
use Rattle.cfi_stacks.proofs.turns.follow_other.Goals as goal

pub returns-in-Ok-clause-followed : goal.returns-in-Ok-clause-followed
returns-in-Ok-clause-followed c = (
  refl,
  λ known. (
    record_view c.in_ok-item.item,
    c.in_ok-item.ensures known c.requires.kind,
    no_sample c.in_ok-item.item.event c.in_default.not-Sample,
    (c.in-Ok.ensures.processes, c.in-Ok.ensures.names),
  ),
)
