use Rattle.gimli_cfi.proofs.hdr.table.EhHdrTable.unwind_info_for_address.Goals as goal

pub returns : goal.returns
returns g c =
    let row = c.unwind_info_for_address_with.ensures.row in
    record { row = (row.0, c.unwind_info_for_address_with.new.get_cie, row.1, row.2); contains = c.unwind_info_for_address_with.ensures.contains; expressions = c.unwind_info_for_address_with.ensures.expressions }
