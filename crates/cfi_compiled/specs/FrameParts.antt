-- What a step from a frame to its caller needs: the row but its addresses, and what the CIE says of
-- the return.
--     FrameParts      both
--     facts_of fde      what the CIE of an FDE says
--     frame_parts facts parts      both, in one record
--     frame_of_row facts result      the same of the result for an address; an error is kept as it
--         is
--     parts_of_frame result      the row alone
--     frame_of_fde rule_limit stack_limit section a fde      what an FDE gives for an address
--     frame_by_scan rule_limit stack_limit section a      what the FDE gives that the scan finds
use Rattle.std.specs.Prelude.{ℕ, Bool, Option, Result}
use Rattle.cfi_read_core.specs.declared.common.Register.{Register}
use Rattle.cfi_unwind.specs.Scan.{scan_answer}
use Rattle.cfi_read_core.specs.declared.error.Error.{Error}
use Rattle.cfi_entry.specs.Fdes.{Fde}
use Rattle.cfi_state.specs.Machine.{Parts}
use Rattle.cfi_state.specs.Row.{Row}
use Rattle.cfi_entry.specs.Sections.{Section}
use Rattle.cfi_entry.specs.Augmentations.{is_trampoline}
use Rattle.cfi_read_core.specs.ReaderCalls.{map_ok}
use Rattle.cfi_unwind.specs.AddressRow.{row_of_fde}
use Rattle.cfi_compiled.specs.declared.facts.CieFacts.{CieFacts}

pub record FrameParts : Type 0 where
  pub parts : Parts ℕ
  pub return_address : Register
  pub is_signal_trampoline : Bool

abbrev pub facts_of : Fde → CieFacts
facts_of fde = record {
  return_address = fde.cie.return_address_register;
  is_signal_trampoline = is_trampoline fde.cie.augmentation;
}

abbrev pub frame_parts : CieFacts → Parts ℕ → FrameParts
frame_parts facts parts = record {
  parts = parts;
  return_address = facts.return_address;
  is_signal_trampoline = facts.is_signal_trampoline;
}

abbrev pub frame_of_row : CieFacts → Result (Row ℕ) Error → Result FrameParts Error
frame_of_row facts result = map_ok (λ row. frame_parts facts row.parts) result

abbrev pub parts_of_frame : Result FrameParts Error → Result (Parts ℕ) Error
parts_of_frame result = map_ok (λ frame. frame.parts) result

abbrev pub frame_of_fde : Option ℕ → Option ℕ → Section → ℕ → Fde → Result FrameParts Error
frame_of_fde rule_limit stack_limit section a fde =
    frame_of_row (facts_of fde) (row_of_fde rule_limit stack_limit section a fde)

abbrev pub frame_by_scan : Option ℕ → Option ℕ → Section → ℕ → Result FrameParts Error
frame_by_scan rule_limit stack_limit section a =
    scan_answer (frame_of_fde rule_limit stack_limit section a) section a
