use Rattle.cfi_text.proofs.TextLemmas.{both}
use Rattle.cfi_files.proofs.tally.put_tally_object.Goals as goal

pub returns : goal.returns
returns c =
    both _ _ _ _ _ c.put.ensures (both _ _ _ _ _ c.json_number.ensures (both _ _ _ _ _ c.put-2.ensures
    (both _ _ _ _ _ c.json_number-2.ensures (both _ _ _ _ _ c.put-3.ensures (both _ _ _ _ _ c.json_number-3.ensures c.put-4.ensures)))))
