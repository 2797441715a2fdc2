use Rattle.std.proofs.Common.{◌≡◌, ◌+◌, ◌-◌, Err, arith, refl, rules}
use Rattle.cfi_entry.proofs.Within.{behind_of}
use Rattle.gimli_cfi.proofs.HeaderReads.{onward_row}
use Rattle.gimli_cfi.proofs.RowWalk.{none_left, first_left}
use Rattle.gimli_cfi.specs.HeaderViews.{header_section_view}
use Rattle.gimli_cfi.proofs.hdr.iter.EhHdrTableIter.next.Goals as goal

pub returns-then-self-eq0-clause-met : goal.returns-then-self-eq0-clause-met
returns-then-self-eq0-clause-met g c =
    let section = header_section_view g.R.Reader.position c.args.self.now.hdr.now c.args.self.now.bases.now in
    let none = none_left section _ _ (g.R.Reader.position c.args.self.now.table) c.if-self-eq0.true in
    (c.if-self-eq0.true, (none, none))

pub invariant_of-self : goal.invariant_of-self
invariant_of-self g c = record { chosen = c.args.self.now.chosen; of_section = behind_of (onward_row _ _) c.read_row-found.ensures c.args.self.now.of_section }

pub returns-in_err-found-clause-met : goal.returns-in_err-found-clause-met
returns-in_err-found-clause-met g c =
    let section = header_section_view g.R.Reader.position c.args.self.now.hdr.now c.args.self.now.bases.now in
    let stands = g.R.Reader.position c.args.self.now.table in
    let behind = g.R.Reader.position c.read_row-found.new.input in
    let read = c.in_err-found.ensures in
    let gives : c.from_residual.result ≡ Err c.in_err-found.field-0.0 = search rules in
    let lower : c.args.self.now.remain ≡ (c.args.self.now.remain - 1) + 1 = omega arith in
    rw gives (lower, first_left section _ stands behind _ read.0 _ _ lower read.1)

pub returns-clause-met : goal.returns-clause-met
returns-clause-met g c =
    let section = header_section_view g.R.Reader.position c.args.self.now.hdr.now c.args.self.now.bases.now in
    let stands = g.R.Reader.position c.args.self.now.table in
    let behind = g.R.Reader.position c.read_row-found.new.input in
    let read = c.in_ok-found.ensures in
    let lower : c.args.self.now.remain ≡ (c.args.self.now.remain - 1) + 1 = omega arith in
    (lower, first_left section _ stands behind _ read.0 _ _ lower read.1)

pub returns-in_err-found-clause-after : goal.returns-in_err-found-clause-after
returns-in_err-found-clause-after g c = refl
