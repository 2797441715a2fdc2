use Rattle.std.proofs.Common.{◌≡◌, ◌-◌, ◌*◌, ℕ, Ok, Err, ap, arith, sym, subst, refl, ◌∙◌, rules}
use Rattle.gimli_cfi.specs.BoundaryRows.{AreRising}
use Rattle.cfi_entry.specs.SectionViews.{eh_frame_view}
use Rattle.cfi_entry.specs.Entries.{FdeEntry, end_of_entry, entries, entries_left}
use Rattle.cfi_unwind.specs.WalkViews.{partial_of}
use Rattle.cfi_unwind.specs.Scan.{read_fde}
use Rattle.cfi_unwind.specs.FdeViews.{fde_view}
use Rattle.cfi_read_core.specs.ReadFunctions.{Position}
use Rattle.gimli_cfi.specs.TableCheck.{starts_for_fde}
use Rattle.gimli_cfi.specs.HeaderViews.{section_view, header_section_view, table_view}
use Rattle.gimli_cfi.proofs.EntryEnds.{StandsAt, ends_inside, stands_after, stands_first, stands_refused}
use Rattle.gimli_cfi.proofs.Passed.{Passed, all_listed, entry_refused, fewer_fdes, is_among, passed_fde, passed_none, reason_of_fde, row_left}
use Rattle.gimli_cfi.proofs.StartCounts.{at_most, none_yet, one_more, with_last}
use Rattle.gimli_cfi.proofs.hdr.check.check_fdes.Goals as goal

pub loop-entry-init : goal.loop-entry-init
loop-entry-init g c =
    let header = header_section_view g.R.Reader.position c.args.table.now.hdr.now c.args.bases.now in
    let table = table_view g.R.Reader.position c.args.table.now in
    let section = section_view g.R.Reader.position c.args.frame.now c.args.bases.now in
    let at_start = c.entries-entries.ensures.all ∙ ap (λ frame. (eh_frame_view g.R.Reader.position frame).position) c.entries-entries.ensures.section in
    record {
      same_section = c.entries-entries.ensures.section;
      same_bases = c.entries-entries.ensures.bases;
      cies = c.new-cies.ensures (eh_frame_view g.R.Reader.position c.args.frame.now) c.args.bases.now;
      passed =
          subst (λ (s : Position). Passed header table c.args.eh_frame section table.count (entries section) (entries_left section s.place)) (sym at_start)
          (passed_none header table c.args.eh_frame section);
      stands = subst (λ (s : Position). StandsAt section 0 (entries_left section s.place)) (sym at_start) (stands_first section);
      answers = refl;
      calls = none_yet (g.St.StartSource.calls c.args.starts.now) ((table.count - table.count) * starts_for_fde table.count);
    }

pub returns-in-Err-clause-reason : goal.returns-in-Err-clause-reason
returns-in-Err-clause-reason g c =
    let section = section_view g.R.Reader.position c.args.frame.now c.args.bases.now in
    let is = rw (c.loop-entry.invariant.same_section, c.loop-entry.invariant.same_bases) at c.in-Err.ensures.met in
    stands_refused section c.in-Err.refusal c.loop-entry.invariant.stands is.0 (entry_refused _ _ _ section c.loop-entry.invariant.passed c.in-Err.refusal is.0)

pub returns-in-Err-clause-calls : goal.returns-in-Err-clause-calls
returns-in-Err-clause-calls g c =
    let count = (table_view g.R.Reader.position c.args.table.now).count in
    at_most (g.St.StartSource.calls c.args.starts.now) _ 0 count c.loop-entry.left (starts_for_fde count) c.loop-entry.invariant.calls

pub returns-in-Err-clause-same : goal.returns-in-Err-clause-same
returns-in-Err-clause-same g c = c.loop-entry.invariant.answers

pub returns-in-Err-fde-clause-calls : goal.returns-in-Err-fde-clause-calls
returns-in-Err-fde-clause-calls g c =
    let count = (table_view g.R.Reader.position c.args.table.now).count in
    at_most (g.St.StartSource.calls c.args.starts.now) _ 0 count c.loop-entry.left (starts_for_fde count) c.loop-entry.invariant.calls

pub returns-in-Err-fde-clause-same : goal.returns-in-Err-fde-clause-same
returns-in-Err-fde-clause-same g c = c.loop-entry.invariant.answers

pub end_of_entry-end-requires : goal.end_of_entry-end-requires
end_of_entry-end-requires g c =
    let section = section_view g.R.Reader.position c.args.frame.now c.args.bases.now in
    let met = rw (c.loop-entry.invariant.same_section, c.loop-entry.invariant.same_bases, c.in-Ok-Some.field-0-is) at c.in-Ok-Some.ensures.met in
    let inside = ends_inside section _ c.loop-entry.invariant.stands met in
    let sound = g.met.R.Reader.sound c.args.frame.now.section in
    omega (arith, inside, sound.within, sound.fits, g.met.R.Reader.greatest c.args.frame.now.section)

pub check_fde-requires-clause-answers : goal.check_fde-requires-clause-answers
check_fde-requires-clause-answers g c = c.loop-entry.invariant.answers ∙ c.requires.answers

pub check_fde-requires-clause-rising : goal.check_fde-requires-clause-rising
check_fde-requires-clause-rising g c =
    subst (λ f. AreRising f (table_view g.R.Reader.position c.args.table.now).count) (sym c.loop-entry.invariant.answers) c.requires.rising

pub returns-in_err-check_fde-clause-reason : goal.returns-in_err-check_fde-clause-reason
returns-in_err-check_fde-clause-reason g c =
    let gives : c.from_residual.result ≡ Err c.in_err-check_fde.field-0.0 = search rules in
    let header = header_section_view g.R.Reader.position c.args.table.now.hdr.now c.args.bases.now in
    let table = table_view g.R.Reader.position c.args.table.now in
    let section = section_view g.R.Reader.position c.args.frame.now c.args.bases.now in
    let fde = fde_view g.R.Reader.position g.R.Offset.ReaderOffset.number c.in-Ok.fde in
    let partial = partial_of g.R.Reader.position g.R.Offset.ReaderOffset.number c.in-Fde.partial.prefix c.in-Fde.partial.cie_offset in
    let met = rw (c.loop-entry.invariant.same_section, c.loop-entry.invariant.same_bases, c.in-Ok-Some.field-0-is, c.in-Fde.is) at c.in-Ok-Some.ensures.met in
    let same_section_and_bases = rw (c.in-Ok-Some.field-0-is, c.in-Fde.is) at c.in-Ok-Some.ensures.same_section_and_bases in
    let of_frame = same_section_and_bases.0 ∙ c.loop-entry.invariant.same_section in
    let of_bases = same_section_and_bases.1 ∙ c.loop-entry.invariant.same_bases in
    let read : Ok fde ≡ read_fde section partial = (rw (of_frame, of_bases) at c.in-Ok.ensures.read) c.loop-entry.invariant.cies in
    let among = is_among header table c.args.eh_frame section partial c.loop-entry.invariant.passed met fde (sym read) in
    rw gives (reason_of_fde header table c.args.eh_frame section fde c.in_err-check_fde.field-0.0 among c.in_err-check_fde.ensures.reason)

pub returns-in_err-check_fde-clause-calls : goal.returns-in_err-check_fde-clause-calls
returns-in_err-check_fde-clause-calls g c =
    let count = (table_view g.R.Reader.position c.args.table.now).count in
    with_last (g.St.StartSource.calls c.args.starts.now) _ _ count c.loop-entry.left (starts_for_fde count) c.loop-entry.invariant.calls c.check_fde.ensures.calls

pub returns-in_err-check_fde-clause-same : goal.returns-in_err-check_fde-clause-same
returns-in_err-check_fde-clause-same g c = c.check_fde.ensures.same ∙ c.loop-entry.invariant.answers

pub overflow_sub-left : goal.overflow_sub-left
overflow_sub-left g c =
    let header = header_section_view g.R.Reader.position c.args.table.now.hdr.now c.args.bases.now in
    let table = table_view g.R.Reader.position c.args.table.now in
    let section = section_view g.R.Reader.position c.args.frame.now c.args.bases.now in
    let fde = fde_view g.R.Reader.position g.R.Offset.ReaderOffset.number c.in-Ok.fde in
    let partial = partial_of g.R.Reader.position g.R.Offset.ReaderOffset.number c.in-Fde.partial.prefix c.in-Fde.partial.cie_offset in
    let met = rw (c.loop-entry.invariant.same_section, c.loop-entry.invariant.same_bases, c.in-Ok-Some.field-0-is, c.in-Fde.is) at c.in-Ok-Some.ensures.met in
    let same_section_and_bases = rw (c.in-Ok-Some.field-0-is, c.in-Fde.is) at c.in-Ok-Some.ensures.same_section_and_bases in
    let of_frame = same_section_and_bases.0 ∙ c.loop-entry.invariant.same_section in
    let of_bases = same_section_and_bases.1 ∙ c.loop-entry.invariant.same_bases in
    let read : Ok fde ≡ read_fde section partial = (rw (of_frame, of_bases) at c.in-Ok.ensures.read) c.loop-entry.invariant.cies in
    row_left header table c.args.eh_frame section partial c.loop-entry.invariant.passed met fde (sym read) c.in_ok-check_fde.ensures.row

pub loop-entry-preserved-in-Fde : goal.loop-entry-preserved-in-Fde
loop-entry-preserved-in-Fde g c =
    let header = header_section_view g.R.Reader.position c.args.table.now.hdr.now c.args.bases.now in
    let table = table_view g.R.Reader.position c.args.table.now in
    let section = section_view g.R.Reader.position c.args.frame.now c.args.bases.now in
    let fde = fde_view g.R.Reader.position g.R.Offset.ReaderOffset.number c.in-Ok.fde in
    let partial = partial_of g.R.Reader.position g.R.Offset.ReaderOffset.number c.in-Fde.partial.prefix c.in-Fde.partial.cie_offset in
    let others = entries_left section (g.R.Reader.position c.next.new.self.input).place in
    let met = rw (c.next.ensures.section, c.next.ensures.bases, c.loop-entry.invariant.same_section, c.loop-entry.invariant.same_bases, c.in-Ok-Some.field-0-is, c.in-Fde.is) at c.in-Ok-Some.ensures.met in
    let same_section_and_bases = rw (c.in-Ok-Some.field-0-is, c.in-Fde.is) at c.in-Ok-Some.ensures.same_section_and_bases in
    let of_frame = same_section_and_bases.0 ∙ c.loop-entry.invariant.same_section in
    let of_bases = same_section_and_bases.1 ∙ c.loop-entry.invariant.same_bases in
    let read : Ok fde ≡ read_fde section partial = (rw (of_frame, of_bases) at c.in-Ok.ensures.read) c.loop-entry.invariant.cies in
    let ended : c.end_of_entry-end.result ≡ end_of_entry (FdeEntry partial) = rw c.in-Fde.is at c.end_of_entry-end.ensures in
    let some = overflow_sub-left g c in
    record {
      same_section = c.next.ensures.section ∙ c.loop-entry.invariant.same_section;
      same_bases = c.next.ensures.bases ∙ c.loop-entry.invariant.same_bases;
      cies = (rw (of_frame, of_bases) at c.fde.ensures.keeps) c.loop-entry.invariant.cies;
      passed = passed_fde header table c.args.eh_frame section {others = others} partial c.loop-entry.invariant.passed met fde (sym read) c.in_ok-check_fde.ensures.row;
      stands = subst (λ (n : ℕ). StandsAt section n others) (sym ended) (stands_after section {others = others} (FdeEntry partial) c.loop-entry.invariant.stands met);
      answers = c.in_ok-check_fde.ensures.same ∙ c.loop-entry.invariant.answers;
      calls = one_more (g.St.StartSource.calls c.args.starts.now) _ _ table.count c.loop-entry.left (starts_for_fde table.count) some c.loop-entry.invariant.passed.fewer c.loop-entry.invariant.calls c.in_ok-check_fde.ensures.calls;
    }

pub returns-then-left-eq0-clause-listed : goal.returns-then-left-eq0-clause-listed
returns-then-left-eq0-clause-listed g c =
    let is = rw (c.loop-entry.invariant.same_section, c.loop-entry.invariant.same_bases, c.in-Ok-None.field-0-is) at c.in-Ok-None.ensures.met in
    all_listed _ _ _ _ c.loop-entry.invariant.passed is.0 c.if-left-eq0.true

pub returns-then-left-eq0-clause-calls : goal.returns-then-left-eq0-clause-calls
returns-then-left-eq0-clause-calls g c =
    let count = (table_view g.R.Reader.position c.args.table.now).count in
    at_most (g.St.StartSource.calls c.args.starts.now) _ 0 count c.loop-entry.left (starts_for_fde count) c.loop-entry.invariant.calls

pub returns-then-left-eq0-clause-same : goal.returns-then-left-eq0-clause-same
returns-then-left-eq0-clause-same g c = c.loop-entry.invariant.answers

pub returns-else-left-eq0-clause-reason : goal.returns-else-left-eq0-clause-reason
returns-else-left-eq0-clause-reason g c =
    let is = rw (c.loop-entry.invariant.same_section, c.loop-entry.invariant.same_bases, c.in-Ok-None.field-0-is) at c.in-Ok-None.ensures.met in
    fewer_fdes _ _ _ _ c.loop-entry.invariant.passed is.0 c.if-left-eq0.false

pub returns-else-left-eq0-clause-calls : goal.returns-else-left-eq0-clause-calls
returns-else-left-eq0-clause-calls g c =
    let count = (table_view g.R.Reader.position c.args.table.now).count in
    at_most (g.St.StartSource.calls c.args.starts.now) _ 0 count c.loop-entry.left (starts_for_fde count) c.loop-entry.invariant.calls

pub returns-else-left-eq0-clause-same : goal.returns-else-left-eq0-clause-same
returns-else-left-eq0-clause-same g c = c.loop-entry.invariant.answers
