-- A step by a compiled table is that by a scan of the section.
use Rattle.std.proofs.Common.{◌≡◌, ◌∙◌, ℕ, Bool, List, Option, Result, Ok, Err, refl, ap, subst, inl}
use Rattle.cfi_read_core.specs.declared.error.Error.{Error}
use Rattle.cfi_read_core.specs.ReadFunctions.{Position}
use Rattle.cfi_state.specs.Row.{Row}
use Rattle.cfi_state.proofs.MappedEquality.{same_row}
use Rattle.cfi_entry.specs.Fdes.{Fde}
use Rattle.cfi_entry.specs.Sections.{Section}
use Rattle.cfi_unwind.specs.AddressRow.{row_of_fde}
use Rattle.cfi_unwind.specs.Scan.{answer_by, chosen_fde}
use Rattle.cfi_compiled.specs.CompiledTables.{TableContents, frame_at}
use Rattle.cfi_compiled.specs.FrameParts.{FrameParts, facts_of, frame_of_fde, frame_of_row}
use Rattle.cfi_expression.specs.declared.error.FrameError.{FrameError}
use Rattle.cfi_expression.specs.Frames.{Frame}
use Rattle.cfi_step.specs.declared.abi.Abi.{Abi}
use Rattle.cfi_step.specs.declared.step.Caller.{Caller}
use Rattle.cfi_step.specs.StepsByTable.{IsStepAsScanned, IsStepByFrame}
use Rattle.cfi_step.specs.Steps.{IsStepBy}

module _ (frame : Frame) (bytes : Position) (abi : Abi) (a : ℕ) (result : Result Caller FrameError) (caller : List (Option ℕ)) where
  module _ (rule_limit stack_limit : Option ℕ) (copies_free : Bool) (section : Section) where
    by_row : (fde : Fde) (row : Result (Row ℕ) Error) → row ≡ row_of_fde rule_limit stack_limit section a fde → IsStepByFrame frame bytes abi (frame_of_row (facts_of fde) row) result caller →
        IsStepBy frame bytes abi (λ (n : ℕ). n) rule_limit stack_limit copies_free section a (Ok fde) result caller
    by_row fde (Ok row) due is = (Ok row, inl (ap (λ r. Ok r) (same_row row) ∙ due), is)
    by_row fde (Err e) due is = (Err e, inl due, is)

    by_found : (found : Result Fde Error) → IsStepByFrame frame bytes abi (answer_by (frame_of_fde rule_limit stack_limit section a) found) result caller →
        IsStepBy frame bytes abi (λ (n : ℕ). n) rule_limit stack_limit copies_free section a found result caller
    by_found (Ok fde) is = by_row fde (row_of_fde rule_limit stack_limit section a fde) refl is
    by_found (Err e) is = is

  pub as_scanned : (table : TableContents) → IsStepByFrame frame bytes abi (frame_at table a) result caller → IsStepAsScanned frame bytes abi table a result caller
  as_scanned table is rule_limit stack_limit copies_free section compiled =
      by_found rule_limit stack_limit copies_free section (chosen_fde section a)
      (subst (λ (found : Result FrameParts Error). IsStepByFrame frame bytes abi found result caller) (compiled a) is)
