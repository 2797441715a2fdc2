use Rattle.std.proofs.Common.{◌≡◌, ◌∙◌, ap, arith, sym, ℕ}
use Rattle.cfi_read_core.specs.ReadFunctions.{Outcome}
use Rattle.cfi_read_core.specs.CallFrameSections.{has_sizes}
use Rattle.cfi_entry.proofs.EntryReads.{address_size_gives, sizes_read}
use Rattle.cfi_entry.specs.EntryViews.{section_in}
use Rattle.cfi_entry.proofs.cie.read_sizes.Goals as goal

pub new-requires-2 : goal.new-requires-2
new-requires-2 g c = address_size_gives.given _ _ _ (ap (λ (o : Outcome ℕ). o.value) c.in_ok-address_size.ensures.0)

pub returns : goal.returns
returns g c =
    let position = g.R.Reader.position in
    let section = section_in g.S._UnwindSectionPrivate.view c.args.at.now in
    let gives = ap (λ kind. has_sizes kind c.args.version) (g.met.S._UnwindSectionPrivate.kind c.args.at.now.section) ∙ sym c.has_address_and_segment_sizes.ensures ∙ c.if-not-has_address_and_segment_sizes.false in
    let none : c.in_ok-segment_size.segment_size ≡ 0 = omega arith in
    rw c.new-2.ensures (sizes_read section c.args.version (position c.args.input.now) (position c.read_address_size.new.self) (position c.read_u8.new.self) gives c.in_ok-address_size.ensures c.in_ok-segment_size.ensures none)
