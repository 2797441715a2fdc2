-- A packed row that may have been kept is the row of an FDE.
use Rattle.std.proofs.Common.{◌≡◌, ◌∙◌, ℕ, Bool, List, Option, Result, Ok, Err, inl, inr, refl, sym}
use Rattle.cfi_read_core.specs.declared.error.Error.{Error}
use Rattle.cfi_state.specs.Machine.{Parts}
use Rattle.cfi_state.specs.MappedStates.{map_row}
use Rattle.cfi_state.specs.Row.{Row}
use Rattle.cfi_entry.specs.Fdes.{Fde}
use Rattle.cfi_entry.specs.Sections.{Section}
use Rattle.cfi_unwind.specs.AddressRow.{IsRowOfFde}
use Rattle.cfi_step.specs.declared.function.Function.{Function}
use Rattle.cfi_step.specs.declared.packed_rows.PackedRow.{PackedRow}
use Rattle.cfi_step.specs.Functions.{function_of}
use Rattle.cfi_step.specs.KeptSlots.{HoldsAtMost, Keeps}
use Rattle.cfi_step.specs.PackedRows.{AreSmallNumbersOf, HoldsRow, IsPackedFor, IsPackedOf, KeepsFound, function_packed}

-- a row with the numbers of this row and of this function is the one that says both
pub packed_at_most : (file a : ℕ) (parts : Parts ℕ) (function : Function) (row : PackedRow) → row.file ≡ file → row.address ≡ a → AreSmallNumbersOf parts function row.numbers → function_packed row ≡ function
    → HoldsAtMost HoldsRow file a (IsPackedOf parts function) row
packed_at_most file a parts function row of at (cfa, rules, args_size, ra, fde) same other b (kept, of_other, at_b) =
    (sym of_other ∙ of, sym at_b ∙ at, ((λ i. record { cfa = cfa i; rules = rules i; args_size = args_size i }), same))

module _ (rule_limit stack_limit : Option ℕ) (copies_free : Bool) (section : Section) (a : ℕ) (fde : Fde) where
  pub keeps_of : (file : ℕ) (row : Row ℕ) (function : Function) (old new : List PackedRow) →
      IsRowOfFde rule_limit stack_limit copies_free section a fde (Ok (map_row (λ (n : ℕ). n) row)) → function ≡ function_of fde →
      Keeps HoldsRow file a (IsPackedOf row.parts function) old new → Keeps HoldsRow file a (IsPackedFor rule_limit stack_limit copies_free section a fde) old new
  keeps_of file row function old new is_row is (inl same) = inl same
  keeps_of file row function old new is_row is (inr (k, slot, written, holds)) =
      inr (k, slot, written, λ other b h. let (of, at, says) = holds other b h in (of, at, (row, is_row, (says.0, says.1 ∙ is))))

-- nothing is kept
pub keeps_none : (rule_limit stack_limit : Option ℕ) (copies_free : Bool) (section : Section) (a : ℕ) (found : Result Fde Error) (file : ℕ) (rows : List PackedRow) →
    KeepsFound rule_limit stack_limit copies_free section a found file rows rows
keeps_none rule_limit stack_limit copies_free section a (Ok fde) file rows = inl refl
keeps_none rule_limit stack_limit copies_free section a (Err e) file rows = refl
