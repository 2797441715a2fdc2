use Rattle.std.proofs.Common.{◌≡◌, ◌++◌, ◌∙◌, ℕ, ap, subst, sym}
use Rattle.std.specs.Prelude.{flat_map}
use Rattle.cfi_parts.specs.InstructionReaders.{items}
use Rattle.cfi_entry.specs.Entries.{entries_left}
use Rattle.cfi_entry.specs.EntryViews.{IsCieOf}
use Rattle.cfi_entry.specs.Sections.{section_of}
use Rattle.cfi_files.specs.DumpRowTexts.{asked_rows, item_rows}
use Rattle.cfi_files.proofs.EntryRowsSent.{all_sent, of_section, to_send}
use Rattle.cfi_files.proofs.SendingLemmas.{IsLeft, failed, left_failed, left_first, left_then}
use Rattle.cfi_files.proofs.dump.addressed_rows.write_asked_rows.Goals as goal

pub loop-entry-init : goal.loop-entry-init
loop-entry-init g c =
    let section = section_of (g.S._UnwindSectionPrivate.view c.args.at.now.section) c.args.at.now.bases.now in
    let by = item_rows c.args.style c.args.asked section in
    let is = c.into_iter-entry-iterator.ensures.into_iter_gives in
    let at : (g.R.Reader.position c.into_iter-entry-iterator.result.input).place ≡ section.first =
    ap (λ it. (g.R.Reader.position it.input).place) is ∙ ap (λ p. p.place) c.entries-entry-items.ensures.all
    ∙ ap (λ s. (g.S._UnwindSectionPrivate.view s).position.place) c.entries-entry-items.ensures.section in
    record {
      can_next = tt;
      is_finite = tt;
      same_section = ap (λ it. it.section) is ∙ c.entries-entry-items.ensures.section;
      same_bases = ap (λ it. it.bases.now) is ∙ c.entries-entry-items.ensures.bases;
      left = λ first sent is.
          subst (λ (place : ℕ). IsLeft first (g.W.Write.contents c.args.output.now) c.args.walk.now.text (flat_map by (items (entries_left section place))) (sent ++ asked_rows c.args.style c.args.asked section)) (sym at)
          (left_first first (g.W.Write.contents c.args.output.now) c.args.walk.now.text sent (asked_rows c.args.style c.args.asked section) is);
      cached = c.new-cies.ensures (g.S._UnwindSectionPrivate.view c.args.at.now.section) c.args.at.now.bases.now;
    }

pub write_entry_rows-requires-clause-entry : goal.write_entry_rows-requires-clause-entry
write_entry_rows-requires-clause-entry g c =
    of_section (λ section cie. IsCieOf g.R.Reader.position (g.S._UnwindSectionPrivate.view section).position cie) (λ p. p.section) (λ p. p.bases.now) _ _ _ _ c.in-Some.entry c.loop-entry.invariant.same_section c.loop-entry.invariant.same_bases c.in-Some.ensures.steps.2

pub returns-in_err-write_entry_rows : goal.returns-in_err-write_entry_rows
returns-in_err-write_entry_rows g c first sent is =
    let steps = c.in-Some.ensures.steps in
    let left = to_send g.S._UnwindSectionPrivate.view _ _ _ _ _ _ _ _ _ _ _ _ _ _ c.loop-entry.invariant.same_section c.loop-entry.invariant.same_bases steps.1.0 steps.1.1 steps.0 (c.loop-entry.invariant.left first sent is) in
    failed _ _ _ _ _ c.from_residual.ensures.0 (left_failed _ _ _ _ _ _ _ left c.in_err-write_entry_rows.ensures.written)

pub loop-entry-preserved : goal.loop-entry-preserved
loop-entry-preserved g c =
    let steps = c.in-Some.ensures.steps in
    record {
      can_next = tt;
      is_finite = tt;
      same_section = steps.1.0 ∙ c.loop-entry.invariant.same_section;
      same_bases = steps.1.1 ∙ c.loop-entry.invariant.same_bases;
      left = λ first sent is.
          left_then _ _ _ _ _ _ _ _
          (to_send g.S._UnwindSectionPrivate.view _ _ _ _ _ _ _ _ _ _ _ _ _ _ c.loop-entry.invariant.same_section c.loop-entry.invariant.same_bases steps.1.0 steps.1.1 steps.0 (c.loop-entry.invariant.left first sent is))
          c.in_ok-write_entry_rows.ensures.written;
      cached = c.in_ok-write_entry_rows.ensures.cies;
    }

pub returns : goal.returns
returns g c first sent is =
    all_sent g.S._UnwindSectionPrivate.view _ _ _ _ _ _ _ _ _ _ c.loop-entry.invariant.same_section c.loop-entry.invariant.same_bases c.in-None.ensures.steps.0.0 (c.loop-entry.invariant.left first sent is)
