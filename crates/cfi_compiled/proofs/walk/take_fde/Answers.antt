use Rattle.std.proofs.Common.{ℕ, sym, ap, ◌∙◌}
use Rattle.cfi_entry.specs.Sections.{section_of}
use Rattle.cfi_unwind.specs.FdeViews.{fde_view}
use Rattle.cfi_unwind.specs.UnwindTableViews.{table_state}
use Rattle.cfi_compiled.specs.FrameParts.{facts_of, frame_of_row}
use Rattle.cfi_compiled.proofs.FdeAnswers.{by_rows, by_refusal, same_frame, consecutive_at, start_at, last_at}
use Rattle.cfi_compiled.proofs.walk.take_fde.Goals as goal

pub walk_rows-requires-clause-start : goal.walk_rows-requires-clause-start
walk_rows-requires-clause-start g c =
    let section = section_of (g.S._UnwindSectionPrivate.view c.args.section.now) c.args.bases.now in
    let fde = fde_view g.R.Reader.position (λ (n : ℕ). n) c.args.fde.now in
    start_at g.C.Rules.ArrayLike.limit g.C-Stack-ArrayLike.limit g.C.Rules.CopyList.copies_free section fde _ (c.in-Ok.ensures.setting g.C.Rules.ArrayLike.limit g.C-Stack-ArrayLike.limit) c.args.from c.requires.start

pub walk_rows-requires-clause-last : goal.walk_rows-requires-clause-last
walk_rows-requires-clause-last g c =
    let section = section_of (g.S._UnwindSectionPrivate.view c.args.section.now) c.args.bases.now in
    let fde = fde_view g.R.Reader.position (λ (n : ℕ). n) c.args.fde.now in
    last_at g.C.Rules.ArrayLike.limit g.C-Stack-ArrayLike.limit g.C.Rules.CopyList.copies_free section fde _ (c.in-Ok.ensures.setting g.C.Rules.ArrayLike.limit g.C-Stack-ArrayLike.limit) c.args.to c.requires.last

pub walk_rows-requires-clause-consecutive : goal.walk_rows-requires-clause-consecutive
walk_rows-requires-clause-consecutive g c =
    let section = section_of (g.S._UnwindSectionPrivate.view c.args.section.now) c.args.bases.now in
    let fde = fde_view g.R.Reader.position (λ (n : ℕ). n) c.args.fde.now in
    consecutive_at g.C.Rules.ArrayLike.limit g.C-Stack-ArrayLike.limit g.C.Rules.CopyList.copies_free section fde _ (table_state g.R.Reader.position (λ (n : ℕ). n) c.in-Ok.rows) (c.in-Ok.ensures.setting g.C.Rules.ArrayLike.limit g.C-Stack-ArrayLike.limit) c.in-Ok.ensures.starts.consecutive

pub returns-in_ok-walk_rows-in-Ok-clause-within : goal.returns-in_ok-walk_rows-in-Ok-clause-within
returns-in_ok-walk_rows-in-Ok-clause-within g c a low high =
    let section = section_of (g.S._UnwindSectionPrivate.view c.args.section.now) c.args.bases.now in
    let fde = fde_view g.R.Reader.position (λ (n : ℕ). n) c.args.fde.now in
    let starts = c.in-Ok.ensures.starts in
    c.in_ok-walk_rows-in-Ok.ensures.within a low high
    ∙ same_frame g.C.Rules.ArrayLike.limit g.C-Stack-ArrayLike.limit g.C.Rules.CopyList.copies_free section fde c.facts_of.result _ a c.facts_of.ensures
    (by_rows g.C.Rules.ArrayLike.limit g.C-Stack-ArrayLike.limit g.C.Rules.CopyList.copies_free section fde _ (table_state g.R.Reader.position (λ (n : ℕ). n) c.in-Ok.rows) (c.in-Ok.ensures.setting g.C.Rules.ArrayLike.limit g.C-Stack-ArrayLike.limit) starts.kept starts.left starts.has_not_ended a)

pub returns-in_ok-take_refusal-in-Err-clause-within : goal.returns-in_ok-take_refusal-in-Err-clause-within
returns-in_ok-take_refusal-in-Err-clause-within g c a low high =
    let section = section_of (g.S._UnwindSectionPrivate.view c.args.section.now) c.args.bases.now in
    let fde = fde_view g.R.Reader.position (λ (n : ℕ). n) c.args.fde.now in
    c.in_ok-take_refusal-in-Err.ensures.after a low
    ∙ ap (frame_of_row (facts_of fde)) (sym (by_refusal g.C.Rules.ArrayLike.limit g.C-Stack-ArrayLike.limit g.C.Rules.CopyList.copies_free section fde c.in-Err.refusal c.in_ok-take_refusal-in-Err.ensures.due c.in-Err.ensures.starts.kept a))
