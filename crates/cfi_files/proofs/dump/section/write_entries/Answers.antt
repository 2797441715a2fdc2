use Rattle.std.proofs.Common.{◌∙◌, ap}
use Rattle.cfi_entry.specs.EntryViews.{IsCieOf}
use Rattle.cfi_files.proofs.EntryRowsSent.{of_section}
use Rattle.cfi_files.proofs.SendingLemmas.{grows_none, grows_then}
use Rattle.cfi_files.proofs.dump.section.write_entries.Goals as goal

pub loop-entry-init : goal.loop-entry-init
loop-entry-init g c =
    let is = c.into_iter-entry-iterator.ensures.into_iter_gives in
    record {
      can_next = tt;
      is_finite = tt;
      same_section = ap (λ it. it.section) is ∙ c.entries-entry-items.ensures.section;
      same_bases = ap (λ it. it.bases.now) is ∙ c.entries-entry-items.ensures.bases;
      grows = grows_none _;
      cached = c.new-cies.ensures (g.S._UnwindSectionPrivate.view c.args.at.now.section) c.args.at.now.bases.now;
    }

pub write_entry-requires-clause-entry : goal.write_entry-requires-clause-entry
write_entry-requires-clause-entry g c =
    of_section (λ section cie. IsCieOf g.R.Reader.position (g.S._UnwindSectionPrivate.view section).position cie) (λ p. p.section) (λ p. p.bases.now) _ _ _ _ c.in-Some.entry c.loop-entry.invariant.same_section c.loop-entry.invariant.same_bases c.in-Some.ensures.steps.2

pub returns-in_err-write_entry : goal.returns-in_err-write_entry
returns-in_err-write_entry g c = grows_then _ _ _ c.loop-entry.invariant.grows c.in_err-write_entry.ensures.written

pub loop-entry-preserved : goal.loop-entry-preserved
loop-entry-preserved g c =
    let steps = c.in-Some.ensures.steps in
    record {
      can_next = tt;
      is_finite = tt;
      same_section = steps.1.0 ∙ c.loop-entry.invariant.same_section;
      same_bases = steps.1.1 ∙ c.loop-entry.invariant.same_bases;
      grows = grows_then _ _ _ c.loop-entry.invariant.grows c.in_ok-write_entry.ensures.written;
      cached = c.in_ok-write_entry.ensures.cies;
    }
