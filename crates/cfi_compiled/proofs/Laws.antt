-- What ties a compiled table to the scan, for callers of both.
--     has_parts_of_scan      what the table has of a row for an address is what the scan gives
--     agrees_with_scan      what the table has for an address is what `row_by_scan` returned, but for a row's addresses, unless that
--         ran out of memory
--     agrees_where_fixed      over a fixed storage it is what `row_by_scan` returned
use Rattle.std.proofs.Common.{◌≡◌, ℕ, Bool, Option, Result, Ok, Err, refl, sym, ap, ◌∙◌, inl, inr, ⊎_elim}
use Rattle.std.specs.Prelude.{◌⊎◌}
use Rattle.cfi_unwind.proofs.Laws.{scan_is_due_where_fixed}
use Rattle.cfi_unwind.specs.Scan.{answer_by}
use Rattle.cfi_read_core.specs.declared.error.Error.{Error}
use Rattle.cfi_entry.specs.Fdes.{Fde}
use Rattle.cfi_read_core.specs.ListLimits.{IsFixed}
use Rattle.cfi_unwind.specs.AddressRow.{IsRowByScan, row_by_scan, row_of_fde}
use Rattle.cfi_read_core.specs.declared.error.Error.TheVariants.{OutOfMemory}
use Rattle.cfi_state.specs.Row.{Row}
use Rattle.cfi_entry.specs.Sections.{Section}
use Rattle.cfi_unwind.specs.Scan.{chosen_fde}
use Rattle.cfi_compiled.specs.CompiledRows.{parts_by_scan, parts_of_row}
use Rattle.cfi_compiled.specs.CompiledTables.{TableContents, IsCompiled, parts_at}
use Rattle.cfi_compiled.specs.FrameParts.{facts_of, frame_of_fde, frame_of_row, parts_of_frame}
use Rattle.cfi_compiled.specs.declared.facts.CieFacts.{CieFacts}

parts_with_facts : (facts : CieFacts) (row : Result (Row ℕ) Error) → parts_of_frame (frame_of_row facts row) ≡ parts_of_row row
parts_with_facts facts (Ok row) = refl
parts_with_facts facts (Err e) = refl

module _ (rule_limit stack_limit : Option ℕ) (section : Section) (a : ℕ) where
  parts_by : (found : Result Fde Error) → parts_of_frame (answer_by (frame_of_fde rule_limit stack_limit section a) found) ≡ parts_of_row (answer_by (row_of_fde rule_limit stack_limit section a) found)
  parts_by (Ok fde) = parts_with_facts (facts_of fde) (row_of_fde rule_limit stack_limit section a fde)
  parts_by (Err e) = refl

  pub has_parts_of_scan : (table : TableContents) → IsCompiled rule_limit stack_limit section table → parts_at table a ≡ parts_by_scan rule_limit stack_limit section a
  has_parts_of_scan table compiled = ap parts_of_frame (compiled a) ∙ parts_by (chosen_fde section a)

module _ (rule_limit stack_limit : Option ℕ) (copies_free : Bool) (section : Section) (table : TableContents) (compiled : IsCompiled rule_limit stack_limit section table) (a : ℕ) (scanned : Result (Row ℕ) Error)
    (scan : IsRowByScan rule_limit stack_limit copies_free section a scanned) where
  is_due : scanned ≡ row_by_scan rule_limit stack_limit section a → parts_at table a ≡ parts_of_row scanned
  is_due due = has_parts_of_scan rule_limit stack_limit section a table compiled ∙ ap parts_of_row (sym due)

  pub agrees_with_scan : (parts_at table a ≡ parts_of_row scanned) ⊎ (scanned ≡ Err OutOfMemory)
  agrees_with_scan = ⊎_elim (λ due. inl (is_due due)) (λ memory. inr memory.1) scan

  pub agrees_where_fixed : IsFixed rule_limit stack_limit copies_free → parts_at table a ≡ parts_of_row scanned
  agrees_where_fixed fixed = is_due (scan_is_due_where_fixed rule_limit stack_limit copies_free section a fixed scanned scan)
