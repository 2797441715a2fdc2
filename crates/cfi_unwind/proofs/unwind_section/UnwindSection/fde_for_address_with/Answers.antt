use Rattle.std.proofs.Common.{◌≡◌, ◌∙◌, ℕ, [], ◌∷◌, Option, Some, None, Result, Err, Ok, ap, of_calls, refl, rules, sym}
use Rattle.std.specs.Prelude.{IfSome}
use Rattle.cfi_read_core.specs.declared.error.Error.{Error}
use Rattle.cfi_read_core.specs.ReadFunctions.{Readings, no_values, with_first}
use Rattle.cfi_read_core.specs.ReaderCalls.{map_ok}
use Rattle.cfi_read_core.specs.CallFrameSections.{SectionView}
use Rattle.cfi_parts.specs.InstructionReaders.{Meets}
use Rattle.cfi_parts.specs.declared.pointer.BaseAddresses.{BaseAddresses}
use Rattle.cfi_entry.specs.Cies.{Cie}
use Rattle.cfi_entry.specs.Fdes.{Fde, PartialFde, fde_of}
use Rattle.cfi_unwind.specs.declared.entry.entries.EntryFields.{EntryFields}
use Rattle.cfi_unwind.specs.declared.entry.entries.EntryFields.TheVariants as code
use Rattle.cfi_unwind.specs.GetCieCalls.{GetCieCall}
use Rattle.cfi_entry.specs.Entries.{Entry, entries_left}
use Rattle.cfi_unwind.specs.WalkViews.{OfEither, partial_of}
use Rattle.cfi_entry.specs.Sections.{section_of}
use Rattle.cfi_entry.specs.EntryViews.{cie_view}
use Rattle.cfi_unwind.specs.FdeViews.{fde_view}
use Rattle.cfi_unwind.proofs.ScanSteps.{scans_at, scans_cie_at, scans_end, scans_found, scans_passed, scans_refusal, scans_refused_fde}
use Rattle.cfi_unwind.proofs.unwind_section.UnwindSection.fde_for_address_with.Goals as goal

-- What `next` met is so of the section at the start.
module _ {S : Type 0} (view : S → SectionView) {before start : S} {old given : BaseAddresses} (same_section : before ≡ start) (same_bases : old ≡ given) where
  met_same : (place : ℕ) {left : Readings Entry} → entries_left (section_of (view before) old) place ≡ left → entries_left (section_of (view start) given) place ≡ left
  met_same place met = rw (same_section, same_bases) at met

  met_none : {C F : Type 0} {found : Option (EntryFields C F)} (show : EntryFields C F → Entry) (place : ℕ) (after : Readings Entry) → found ≡ None →
      Meets show (Ok found) (entries_left (section_of (view before) old) place) after → entries_left (section_of (view start) given) place ≡ no_values None
  met_none show place after is met = let none = rw is at met in met_same place none.0

  met_entry : {C F : Type 0} {after : S} {new : BaseAddresses} {found : Option (EntryFields C F)} {entry opened : EntryFields C F} (show : EntryFields C F → Entry) (place next : ℕ) → found ≡ Some entry → entry ≡ opened → after ≡ before → new ≡ old →
      Meets show (Ok found) (entries_left (section_of (view before) old) place) (entries_left (section_of (view after) new) next) →
      entries_left (section_of (view start) given) place ≡ with_first (show opened) (entries_left (section_of (view start) given) next)
  met_entry show place next is opens stays bases_stay met = rw (stays, bases_stay, same_section, same_bases, is, opens) at met

-- what holds of an FDE that it met
of_fde : {C F : Type 0} (P : C → Type 0) (Q : F → Type 0) {found : Option (EntryFields C F)} {entry : EntryFields C F} {fde : F} → found ≡ Some entry → entry ≡ code.Fde fde → IfSome found (OfEither P Q) → Q fde
of_fde P Q is opens of_either = rw (is, opens) at of_either

-- what an FDE of a section reads is so of an equal one
read_same : {S : Type 0} (view : S → SectionView) {own start : S} {own_bases given : BaseAddresses} (read : Result Fde Error) (partial : PartialFde) (cie : Cie) → own ≡ start → own_bases ≡ given →
    read ≡ fde_of (section_of (view own) own_bases) partial cie → fde_of (section_of (view start) given) partial cie ≡ read
read_same view read partial cie same_section same_bases reads = sym (rw (same_section, same_bases) at reads)

pub loop-entry-init : goal.loop-entry-init
loop-entry-init g c =
    let start = c.entries-entries.ensures in
    record {
      callable = λ h. h;
      led = ([], refl);
      same_section = start.section;
      same_bases = start.bases;
      leads_back = search rules;
    }

pub returns-in_err-entry-clause-scan : goal.returns-in_err-entry-clause-scan
returns-in_err-entry-clause-scan g c =
    let gives : c.from_residual.result ≡ Err c.in_err-entry.field-0.0 = search rules in
    let met = met_same g.Self._UnwindSectionPrivate.view c.loop-entry.invariant.same_section c.loop-entry.invariant.same_bases (g.R.Reader.position c.loop-entry.entries.input).place c.in_err-entry.ensures.met.0 in
    c.loop-entry.invariant.leads_back _ _ (scans_at _ _ _ met (ap (map_ok (fde_view g.R.Reader.position g.R.Offset.ReaderOffset.number)) gives) (scans_refusal _ _ _ _ _))

pub returns-in_err-cie-clause-scan : goal.returns-in_err-cie-clause-scan
returns-in_err-cie-clause-scan g c =
    let gives : c.from_residual-in_err-cie.result ≡ Err c.in_err-cie.field-0.0 = search rules in
    let section = section_of (g.Self._UnwindSectionPrivate.view c.args.self.now) c.args.bases.now in
    let asks = GetCieCall g.F.FnMut (λ o. g.R.Offset.ReaderOffset.number (g.Self.Offset.UnwindOffset.offset o)) (cie_view g.R.Reader.position g.R.Offset.ReaderOffset.number) c.args.self.now c.args.bases.now in
    let others = entries_left section (g.R.Reader.position c.next.new.self.input).place in
    let met = met_entry g.Self._UnwindSectionPrivate.view c.loop-entry.invariant.same_section c.loop-entry.invariant.same_bases _ _ _ c.in-Some.is c.in-Fde.is c.next.ensures.section c.next.ensures.bases c.in_ok-entry.ensures.met in
    c.loop-entry.invariant.leads_back _ _
    (scans_refused_fde asks section c.args.address (partial_of g.R.Reader.position g.R.Offset.ReaderOffset.number c.in-Fde.partial.prefix c.in-Fde.partial.cie_offset) others met (Err c.in_err-cie.field-0.0) _ _ (record {
      asked = _;
      answer = c.get_cie.result;
      at_offset = ap g.R.Offset.ReaderOffset.number (g.met.Self.Offset.UnwindOffset.inverse _ _ c.from.ensures);
      seen = ap (map_ok (cie_view g.R.Reader.position g.R.Offset.ReaderOffset.number)) c.in_err-cie.was;
      call = record { shown_section = _; shown_bases = _; at_section = refl; at_bases = refl; call = c.get_cie.ensures };
    }) _ _ (ap (map_ok (fde_view g.R.Reader.position g.R.Offset.ReaderOffset.number)) gives) refl)

pub returns-in_err-fde-clause-scan : goal.returns-in_err-fde-clause-scan
returns-in_err-fde-clause-scan g c =
    let gives : c.from_residual-in_err-fde.result ≡ Err c.in_err-fde.field-0.0 = search rules in
    let section = section_of (g.Self._UnwindSectionPrivate.view c.args.self.now) c.args.bases.now in
    let asks = GetCieCall g.F.FnMut (λ o. g.R.Offset.ReaderOffset.number (g.Self.Offset.UnwindOffset.offset o)) (cie_view g.R.Reader.position g.R.Offset.ReaderOffset.number) c.args.self.now c.args.bases.now in
    let others = entries_left section (g.R.Reader.position c.next.new.self.input).place in
    let met = met_entry g.Self._UnwindSectionPrivate.view c.loop-entry.invariant.same_section c.loop-entry.invariant.same_bases _ _ _ c.in-Some.is c.in-Fde.is c.next.ensures.section c.next.ensures.bases c.in_ok-entry.ensures.met in
    let same_section_and_bases = of_fde _ _ c.in-Some.is c.in-Fde.is c.in_ok-entry.ensures.same_section_and_bases in
    let read = read_same g.Self._UnwindSectionPrivate.view (Err c.in_err-fde.field-0.0) (partial_of g.R.Reader.position g.R.Offset.ReaderOffset.number c.in-Fde.partial.prefix c.in-Fde.partial.cie_offset) (cie_view g.R.Reader.position g.R.Offset.ReaderOffset.number c.in_ok-cie.cie) (same_section_and_bases.0 ∙ c.loop-entry.invariant.same_section) (same_section_and_bases.1 ∙ c.loop-entry.invariant.same_bases) c.in_err-fde.ensures.read in
    c.loop-entry.invariant.leads_back _ _
    (scans_refused_fde asks section c.args.address (partial_of g.R.Reader.position g.R.Offset.ReaderOffset.number c.in-Fde.partial.prefix c.in-Fde.partial.cie_offset) others met (Ok (cie_view g.R.Reader.position g.R.Offset.ReaderOffset.number c.in_ok-cie.cie)) _ _ (record {
      asked = _;
      answer = c.get_cie.result;
      at_offset = ap g.R.Offset.ReaderOffset.number (g.met.Self.Offset.UnwindOffset.inverse _ _ c.from.ensures);
      seen = ap (map_ok (cie_view g.R.Reader.position g.R.Offset.ReaderOffset.number)) c.in_ok-cie.was;
      call = record { shown_section = _; shown_bases = _; at_section = refl; at_bases = refl; call = c.get_cie.ensures };
    }) _ _ (ap (map_ok (fde_view g.R.Reader.position g.R.Offset.ReaderOffset.number)) gives) read)

pub returns-then-contains-clause-scan : goal.returns-then-contains-clause-scan
returns-then-contains-clause-scan g c =
    let section = section_of (g.Self._UnwindSectionPrivate.view c.args.self.now) c.args.bases.now in
    let asks = GetCieCall g.F.FnMut (λ o. g.R.Offset.ReaderOffset.number (g.Self.Offset.UnwindOffset.offset o)) (cie_view g.R.Reader.position g.R.Offset.ReaderOffset.number) c.args.self.now c.args.bases.now in
    let others = entries_left section (g.R.Reader.position c.next.new.self.input).place in
    let met = met_entry g.Self._UnwindSectionPrivate.view c.loop-entry.invariant.same_section c.loop-entry.invariant.same_bases _ _ _ c.in-Some.is c.in-Fde.is c.next.ensures.section c.next.ensures.bases c.in_ok-entry.ensures.met in
    let same_section_and_bases = of_fde _ _ c.in-Some.is c.in-Fde.is c.in_ok-entry.ensures.same_section_and_bases in
    let read = read_same g.Self._UnwindSectionPrivate.view (Ok (fde_view g.R.Reader.position g.R.Offset.ReaderOffset.number c.in_ok-fde.fde)) (partial_of g.R.Reader.position g.R.Offset.ReaderOffset.number c.in-Fde.partial.prefix c.in-Fde.partial.cie_offset) (cie_view g.R.Reader.position g.R.Offset.ReaderOffset.number c.in_ok-cie.cie) (same_section_and_bases.0 ∙ c.loop-entry.invariant.same_section) (same_section_and_bases.1 ∙ c.loop-entry.invariant.same_bases) c.in_ok-fde.ensures.read in
    c.loop-entry.invariant.leads_back _ _
    (scans_found asks section c.args.address (partial_of g.R.Reader.position g.R.Offset.ReaderOffset.number c.in-Fde.partial.prefix c.in-Fde.partial.cie_offset) others met (Ok (cie_view g.R.Reader.position g.R.Offset.ReaderOffset.number c.in_ok-cie.cie)) _ _ (record {
      asked = _;
      answer = c.get_cie.result;
      at_offset = ap g.R.Offset.ReaderOffset.number (g.met.Self.Offset.UnwindOffset.inverse _ _ c.from.ensures);
      seen = ap (map_ok (cie_view g.R.Reader.position g.R.Offset.ReaderOffset.number)) c.in_ok-cie.was;
      call = record { shown_section = _; shown_bases = _; at_section = refl; at_bases = refl; call = c.get_cie.ensures };
    }) (fde_view g.R.Reader.position g.R.Offset.ReaderOffset.number c.in_ok-fde.fde) read _ c.contains.ensures c.if-contains.true)

pub returns-then-contains-clause-cie : goal.returns-then-contains-clause-cie
returns-then-contains-clause-cie g c =
    rw c.in_ok-fde.ensures.cie (record {
      earlier = c.loop-entry.invariant.led.0;
      before = _;
      led = c.loop-entry.invariant.led.1;
      asked = _;
      after = _;
      call = record { shown_section = _; shown_bases = _; at_section = refl; at_bases = refl; call = c.in_ok-cie.ensures };
    })

pub loop-entry-preserved-else-contains : goal.loop-entry-preserved-else-contains
loop-entry-preserved-else-contains g c =
    let section = section_of (g.Self._UnwindSectionPrivate.view c.args.self.now) c.args.bases.now in
    let asks = GetCieCall g.F.FnMut (λ o. g.R.Offset.ReaderOffset.number (g.Self.Offset.UnwindOffset.offset o)) (cie_view g.R.Reader.position g.R.Offset.ReaderOffset.number) c.args.self.now c.args.bases.now in
    let others = entries_left section (g.R.Reader.position c.next.new.self.input).place in
    let met = met_entry g.Self._UnwindSectionPrivate.view c.loop-entry.invariant.same_section c.loop-entry.invariant.same_bases _ _ _ c.in-Some.is c.in-Fde.is c.next.ensures.section c.next.ensures.bases c.in_ok-entry.ensures.met in
    let same_section_and_bases = of_fde _ _ c.in-Some.is c.in-Fde.is c.in_ok-entry.ensures.same_section_and_bases in
    let read = read_same g.Self._UnwindSectionPrivate.view (Ok (fde_view g.R.Reader.position g.R.Offset.ReaderOffset.number c.in_ok-fde.fde)) (partial_of g.R.Reader.position g.R.Offset.ReaderOffset.number c.in-Fde.partial.prefix c.in-Fde.partial.cie_offset) (cie_view g.R.Reader.position g.R.Offset.ReaderOffset.number c.in_ok-cie.cie) (same_section_and_bases.0 ∙ c.loop-entry.invariant.same_section) (same_section_and_bases.1 ∙ c.loop-entry.invariant.same_bases) c.in_ok-fde.ensures.read in
    record {
      callable = search of_calls;
      led = (
        (c.from.result, c.get_cie.result) ∷ c.loop-entry.invariant.led.0,
        (
          _,
          c.loop-entry.invariant.led.1,
          record { shown_section = _; shown_bases = _; at_section = refl; at_bases = refl; call = c.get_cie.ensures },
        ),
      );
      same_section = c.next.ensures.section ∙ c.loop-entry.invariant.same_section;
      same_bases = c.next.ensures.bases ∙ c.loop-entry.invariant.same_bases;
      leads_back = λ r last behind. c.loop-entry.invariant.leads_back r last
          (scans_passed asks section c.args.address (partial_of g.R.Reader.position g.R.Offset.ReaderOffset.number c.in-Fde.partial.prefix c.in-Fde.partial.cie_offset) others met (Ok (cie_view g.R.Reader.position g.R.Offset.ReaderOffset.number c.in_ok-cie.cie)) _ _ (record {
            asked = _;
            answer = c.get_cie.result;
            at_offset = ap g.R.Offset.ReaderOffset.number (g.met.Self.Offset.UnwindOffset.inverse _ _ c.from.ensures);
            seen = ap (map_ok (cie_view g.R.Reader.position g.R.Offset.ReaderOffset.number)) c.in_ok-cie.was;
            call = record { shown_section = _; shown_bases = _; at_section = refl; at_bases = refl; call = c.get_cie.ensures };
          }) (fde_view g.R.Reader.position g.R.Offset.ReaderOffset.number c.in_ok-fde.fde) r last read _ c.contains.ensures c.if-contains.false behind);
    }

pub loop-entry-preserved : goal.loop-entry-preserved
loop-entry-preserved g c =
    let section = section_of (g.Self._UnwindSectionPrivate.view c.args.self.now) c.args.bases.now in
    let asks = GetCieCall g.F.FnMut (λ o. g.R.Offset.ReaderOffset.number (g.Self.Offset.UnwindOffset.offset o)) (cie_view g.R.Reader.position g.R.Offset.ReaderOffset.number) c.args.self.now c.args.bases.now in
    let others = entries_left section (g.R.Reader.position c.next.new.self.input).place in
    let met = met_entry g.Self._UnwindSectionPrivate.view c.loop-entry.invariant.same_section c.loop-entry.invariant.same_bases _ _ _ c.in-Some.is c.in_default-entry.is c.next.ensures.section c.next.ensures.bases c.in_ok-entry.ensures.met in
    record {
      callable = c.loop-entry.invariant.callable;
      led = c.loop-entry.invariant.led;
      same_section = c.next.ensures.section ∙ c.loop-entry.invariant.same_section;
      same_bases = c.next.ensures.bases ∙ c.loop-entry.invariant.same_bases;
      leads_back = λ r last behind. c.loop-entry.invariant.leads_back r last
          (scans_cie_at asks section c.args.address _ others _ r last met behind);
    }

pub returns-clause-scan : goal.returns-clause-scan
returns-clause-scan g c =
    let met = met_none g.Self._UnwindSectionPrivate.view c.loop-entry.invariant.same_section c.loop-entry.invariant.same_bases _ (g.R.Reader.position c.loop-entry.entries.input).place _ c.in_default.is c.in_ok-entry.ensures.met in
    c.loop-entry.invariant.leads_back _ _ (scans_at _ _ _ met refl (scans_end _ _ _ _))
