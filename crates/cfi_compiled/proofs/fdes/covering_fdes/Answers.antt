use Rattle.std.proofs.Common.{◌≡◌, ◌<◌, ◌≤◌, ℕ, List, map, Ok, sym, ap, subst, ◌∙◌, arith}
use Rattle.std.proofs.lemmas.List.{map_push}
use Rattle.std.proofs.lemmas.List.Elements.{All-push}
use Rattle.cfi_read_core.specs.CallFrameSections.{IsOf}
use Rattle.cfi_entry.specs.Entries.{entries_left}
use Rattle.cfi_entry.specs.Fdes.{Fde, end_of}
use Rattle.cfi_entry.specs.Sections.{section_of}
use Rattle.cfi_unwind.specs.WalkViews.{partial_of}
use Rattle.cfi_unwind.specs.FdeViews.{fde_view}
use Rattle.cfi_unwind.specs.Scan.{read_fde}
use Rattle.cfi_unwind.specs.declared.entry.fde.FdeFields.{FdeFields}
use Rattle.cfi_compiled.proofs.Gathered.{Gathered, gathered_fde, gathered_empty}
use Rattle.cfi_compiled.proofs.fdes.covering_fdes.Goals as goal

pub loop-partial-preserved-in-Continue-1 : goal.loop-partial-preserved-in-Continue-1
loop-partial-preserved-in-Continue-1 g c =
    let invariant = c.loop-partial.invariant in
    let section = section_of (g.S._UnwindSectionPrivate.view c.args.section.now) c.args.bases.now in
    let view = fde_view g.R.Reader.position (λ (n : ℕ). n) in
    let partial = partial_of g.R.Reader.position (λ (n : ℕ). n) c.in-Ok-Some-Fde.partial.prefix c.in-Ok-Some-Fde.partial.cie_offset in
    let others = entries_left section (g.R.Reader.position c.next.new.self.input).place in
    let met = rw (c.next.ensures.section, c.next.ensures.bases, invariant.same_section, invariant.same_bases, c.in-Ok-Some-Fde.field-0-is, c.in-Ok-Some-Fde.field-0-0-is) at c.in-Ok-Some-Fde.ensures.met in
    let read : Ok (view c.in-Ok.fde) ≡ read_fde section partial = c.in-Ok.ensures.read in
    let some : (view c.in-Ok.fde).initial < end_of (view c.in-Ok.fde) = omega (arith, c.if-initial_address-end_address.true, c.initial_address.ensures, c.end_address.ensures) in
    let items = c.in_ok-push-in-Ok.ensures.items in
    record {
      same_section = c.next.ensures.section ∙ invariant.same_section;
      same_bases = c.next.ensures.bases ∙ invariant.same_bases;
      gathered =
          subst (λ (found : List Fde). Gathered section found others) (sym (ap (map view) items ∙ map_push view c.loop-partial.fdes.items c.in-Ok.fde))
          (gathered_fde section _ _ invariant.gathered partial others met (view c.in-Ok.fde) (sym read) some);
      cached = c.whole.ensures.keeps;
      own = rw items (All-push (λ (fde : FdeFields g.row.R.Denot ℕ). IsOf (g.R.Reader.position fde.instructions) (g.S._UnwindSectionPrivate.view c.args.section.now).position) c.loop-partial.fdes.items c.in-Ok.fde invariant.own c.in-Ok.ensures.part);
      cie = rw items (All-push (λ (fde : FdeFields g.row.R.Denot ℕ). IsOf (g.R.Reader.position fde.cie.initial_instructions) (g.S._UnwindSectionPrivate.view c.args.section.now).position) c.loop-partial.fdes.items c.in-Ok.fde invariant.cie c.in-Ok.ensures.cie_part);
    }

pub loop-partial-preserved : goal.loop-partial-preserved
loop-partial-preserved g c =
    let invariant = c.loop-partial.invariant in
    let section = section_of (g.S._UnwindSectionPrivate.view c.args.section.now) c.args.bases.now in
    let view = fde_view g.R.Reader.position (λ (n : ℕ). n) in
    let partial = partial_of g.R.Reader.position (λ (n : ℕ). n) c.in-Ok-Some-Fde.partial.prefix c.in-Ok-Some-Fde.partial.cie_offset in
    let met = rw (c.next.ensures.section, c.next.ensures.bases, invariant.same_section, invariant.same_bases, c.in-Ok-Some-Fde.field-0-is, c.in-Ok-Some-Fde.field-0-0-is) at c.in-Ok-Some-Fde.ensures.met in
    let read : Ok (view c.in-Ok.fde) ≡ read_fde section partial = c.in-Ok.ensures.read in
    let none : end_of (view c.in-Ok.fde) ≤ (view c.in-Ok.fde).initial = omega (arith, c.if-initial_address-end_address.false, c.initial_address.ensures, c.end_address.ensures) in
    record {
      same_section = c.next.ensures.section ∙ invariant.same_section;
      same_bases = c.next.ensures.bases ∙ invariant.same_bases;
      gathered = gathered_empty section _ _ invariant.gathered partial _ met (view c.in-Ok.fde) (sym read) none;
      cached = c.whole.ensures.keeps;
      own = invariant.own;
      cie = invariant.cie;
    }

pub whole-requires-clause-of : goal.whole-requires-clause-of
whole-requires-clause-of g c =
    let of_section = rw (c.in-Ok-Some-Fde.field-0-is, c.in-Ok-Some-Fde.field-0-0-is) at c.in-Ok-Some-Fde.ensures.same_section_and_bases in
    (of_section.0 ∙ c.loop-partial.invariant.same_section, of_section.1 ∙ c.loop-partial.invariant.same_bases)
