use Rattle.std.proofs.Common.{sym, ap, ◌∙◌, refl, arith}
use Rattle.std.specs.Int.{w64}
use Rattle.std.proofs.lemmas.Bool.{eq-eqb, ne_eqb}
use borrow.Author.Tests.{le-leb}
use Rattle.cfi_read_core.specs.ByteOrder.{is_big}
use Rattle.cfi_read_core.specs.Numbers.{unsigned}
use Rattle.cfi_read_core.specs.SliceReaders.{slice_position}
use Rattle.cfi_perf.specs.CallChains.{PERF_CONTEXT_MAX, in_context}
use Rattle.cfi_perf.proofs.ChainSteps.{above, context_read, other_read, wanted_read}
use Rattle.cfi_perf.proofs.EntrySteps.{entry_refused, no_entries}
use Rattle.cfi_perf.proofs.call_chain.Addresses.next_entry.Goals as goal

pub returns-in_default-clause-next : goal.returns-in_default-clause-next
returns-in_default-clause-next c =
    let walk = c.loop-self.self in (
      sym c.loop-self.invariant.0 ∙ ap (in_context walk.wanted walk.context) (entry_refused _ _ _ _ _ _ c.in_default.ensures.0),
      ap (in_context walk.wanted _) (no_entries 0 (unsigned w64) _ _ refl),
    )

pub loop-self-preserved-then-entry-ge-PERF_CONTEXT_MAX : goal.loop-self-preserved-then-entry-ge-PERF_CONTEXT_MAX
loop-self-preserved-then-entry-ge-PERF_CONTEXT_MAX c =
    let walk = c.loop-self.self in (
      sym (context_read walk.wanted walk.context walk.left c.in-Ok.entry (slice_position is_big walk.entries) (slice_position is_big c.read_u64.new.self) c.loop-self-test.true c.in-Ok.ensures
          (le-leb PERF_CONTEXT_MAX c.in-Ok.entry c.if-entry-ge-PERF_CONTEXT_MAX.true)) ∙ c.loop-self.invariant.0,
      c.loop-self.invariant.1,
    )

pub returns-then-self-clause-next : goal.returns-then-self-clause-next
returns-then-self-clause-next c =
    let walk = c.loop-self.self in
    sym c.loop-self.invariant.0
    ∙ wanted_read walk.wanted walk.context walk.left c.in-Ok.entry (slice_position is_big walk.entries) (slice_position is_big c.read_u64.new.self) c.loop-self-test.true c.in-Ok.ensures
    (above PERF_CONTEXT_MAX c.in-Ok.entry c.if-entry-ge-PERF_CONTEXT_MAX.false) (eq-eqb walk.context walk.wanted c.if-self.true)

pub loop-self-preserved : goal.loop-self-preserved
loop-self-preserved c =
    let walk = c.loop-self.self in (
      sym (other_read walk.wanted walk.context walk.left c.in-Ok.entry (slice_position is_big walk.entries) (slice_position is_big c.read_u64.new.self) c.loop-self-test.true c.in-Ok.ensures
          (above PERF_CONTEXT_MAX c.in-Ok.entry c.if-entry-ge-PERF_CONTEXT_MAX.false) (ne_eqb walk.context walk.wanted c.if-self.false)) ∙ c.loop-self.invariant.0,
      c.loop-self.invariant.1,
    )

pub returns-clause-next : goal.returns-clause-next
returns-clause-next c =
    let walk = c.loop-self.self in
    let none = ap (in_context walk.wanted walk.context) (no_entries walk.left (unsigned w64) _ _ (omega (arith, c.loop-self-test.false))) in
    (sym c.loop-self.invariant.0 ∙ none, none)
