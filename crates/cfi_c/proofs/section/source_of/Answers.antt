use Rattle.cfi_c.proofs.Sections.{by_order}
use Rattle.cfi_c.specs.PassedSections.{lent, passed_source}
use Rattle.cfi_c.proofs.section.source_of.Goals as goal

pub returns : goal.returns
returns c =
    let order = by_order c.endian_of.result c.args.bases.now.big_endian c.endian_of.ensures in
    λ i. record (passed_source c.args.bases.now c.args.section.now (lent c.args.header)) {
      kind = c.kind_beside.ensures i;
      endian = order i;
      address_size = c.new.ensures i;
      vendor = c.vendor_of.ensures i;
      bases = record { eh_frame_hdr = c.bases_of.ensures.header i; eh_frame = c.bases_of.ensures.section i };
    }
