use Rattle.gimli_cfi.proofs.hdr.table.EhHdrTable.unwind_info_for_address_with.Goals as goal

pub returns-clause-row : goal.returns-clause-row
returns-clause-row g c = (_, c.in_ok-fde.ensures.found, c.unwind_info_for_address.ensures.row)

pub returns-clause-contains : goal.returns-clause-contains
returns-clause-contains g c = c.unwind_info_for_address.ensures.contains
