-- What a compiled table keeps of a row: all but its two addresses, and what the CIE says of the
-- return.
--     registers_of row      the registers of a row that a table lends, with their rules
--     parts_kept row      what the row says
--     frame_kept row      the same with what the CIE says
--     HasDistinctRegisters row      no register has two rules
--     parts_lent, frame_lent      the same of the result of a call that lends one
--     parts_of_row      what is kept of the result for an address; an error is kept as it is
--     parts_by_scan      what is kept of the result of the scan, over a storage with these limits
use Rattle.std.specs.Prelude.{ℕ, List, Option, Result}
use Rattle.cfi_read_core.specs.declared.common.Register.{Register}
use Rattle.cfi_state.specs.declared.table.rules.RegisterRule.{RegisterRule}
use Rattle.cfi_read_core.specs.declared.error.Error.{Error}
use Rattle.cfi_entry.specs.Sections.{Section}
use Rattle.cfi_state.specs.Row.{Row}
use Rattle.cfi_state.specs.Machine.{Parts}
use Rattle.cfi_state.specs.RulePairs.{IsDistinctRegisters, rules_of}
use Rattle.cfi_read_core.specs.ReaderCalls.{map_ok}
use Rattle.cfi_unwind.specs.AddressRow.{row_by_scan}
use Rattle.cfi_compiled.specs.declared.row.CompiledRow.{CompiledRow}
use Rattle.cfi_compiled.specs.FrameParts.{FrameParts, frame_parts}

abbrev pub registers_of : CompiledRow → List (Register × RegisterRule ℕ)
registers_of row = row.rules.now

abbrev pub parts_kept : CompiledRow → Parts ℕ
parts_kept row = record {
  cfa = row.cfa.now;
  rules = rules_of (registers_of row);
  args_size = row.saved_args_size;
}

abbrev pub frame_kept : CompiledRow → FrameParts
frame_kept row = frame_parts row.facts (parts_kept row)

abbrev pub HasDistinctRegisters : CompiledRow → Type 0
HasDistinctRegisters row = IsDistinctRegisters (registers_of row)

abbrev pub parts_lent : Result CompiledRow Error → Result (Parts ℕ) Error
parts_lent result = map_ok parts_kept result

abbrev pub frame_lent : Result CompiledRow Error → Result FrameParts Error
frame_lent result = map_ok frame_kept result

abbrev pub parts_of_row : Result (Row ℕ) Error → Result (Parts ℕ) Error
parts_of_row result = map_ok (λ row. row.parts) result

abbrev pub parts_by_scan : Option ℕ → Option ℕ → Section → ℕ → Result (Parts ℕ) Error
parts_by_scan rule_limit stack_limit section address =
    parts_of_row (row_by_scan rule_limit stack_limit section address)
