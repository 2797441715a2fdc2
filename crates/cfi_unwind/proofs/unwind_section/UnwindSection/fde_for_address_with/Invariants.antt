use Rattle.std.proofs.Common.{◌≡◌, length}
use denote.Param.Always.{always_mut}
use Rattle.cfi_entry.specs.Sections.{section_of}
use Rattle.cfi_entry.specs.Entries.{entries, entries_left}
use Rattle.cfi_parts.specs.InstructionReaders.{items}
use Rattle.cfi_unwind.specs.GetCieCalls.{GetCieCall, CallsLead, Scans}
use Rattle.cfi_entry.specs.EntryViews.{cie_view}
use Rattle.cfi_unwind.proofs.unwind_section.UnwindSection.fde_for_address_with.Given as goal

-- the entries that are left make the answer of all
abbrev pub invariant-loop-entry : goal.invariant-loop-entry
invariant-loop-entry g l =
    let section = section_of (g.Self._UnwindSectionPrivate.view l.self) l.bases in
    let position = g.R.Reader.position in
    let asks = GetCieCall g.F.FnMut (λ o. g.R.Offset.ReaderOffset.number (g.Self.Offset.UnwindOffset.offset o)) (cie_view position g.R.Offset.ReaderOffset.number) l.self l.bases in
    record {
      callable : always_mut g.F.FnMut l.initial.get_cie → always_mut g.F.FnMut l.get_cie;
      led : (earlier : _) × CallsLead g.F.FnMut l.self l.bases l.initial.get_cie earlier l.get_cie;
      same_section : l.entries.section ≡ l.self;
      same_bases : l.entries.bases.now ≡ l.bases;
      leads_back : (r : _) (last : _) → Scans asks section l.address (entries_left section (position l.entries.input).place) l.get_cie r last → Scans asks section l.address (entries section) l.initial.get_cie r last;
    }

abbrev pub decreases-loop-entry : goal.decreases-loop-entry
decreases-loop-entry g l =
    length (items (entries_left (section_of (g.Self._UnwindSectionPrivate.view l.entries.section) l.entries.bases.now) (g.R.Reader.position l.entries.input).place))
