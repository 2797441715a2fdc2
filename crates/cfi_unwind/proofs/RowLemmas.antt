-- The answers of programs that are the same.
use Rattle.std.proofs.Common.{◌≡◌, ℕ, ◌≤◌, ◌<◌, Bool, Result, Ok, Err, ap, subst, ◌∙◌}
use Rattle.std.specs.Prelude.{IfOk}
use Rattle.std.specs.Borrow.{Bor}
use Rattle.cfi_read_core.specs.declared.error.Error.{Error}
use Rattle.cfi_read_core.specs.ReadFunctions.{Position, Readings}
use Rattle.cfi_read_core.specs.ReaderCalls.{map_ok}
use Rattle.cfi_read_core.specs.ExpressionPlaces.{LiesIn}
use Rattle.cfi_parts.specs.Instructions.{Instruction}
use Rattle.cfi_state.specs.MachineSettings.{Setting}
use Rattle.cfi_state.specs.Row.{Row}
use Rattle.cfi_state.specs.FdeAnswers.{fde_answer}
use Rattle.cfi_state.specs.MachineRuns.{AnswersFde}
use Rattle.cfi_state.specs.Allocation.{may_allocate}
use Rattle.cfi_state.specs.MappedStates.{map_row}
use Rattle.cfi_state.specs.RowExpressions.{EachExpression, HasExpressionsIn}
use Rattle.cfi_state.proofs.RowExpressions.{of_parts}

module _ (s t : Setting) (setting : s ≡ t) (cie cie' : Readings Instruction) (cies : cie ≡ cie') (fde fde' : Readings Instruction) (fdes : fde ≡ fde') where
  pub same_answer : (address : ℕ) → fde_answer s cie fde address ≡ fde_answer t cie' fde' address
  same_answer address =
      ap (λ (x : Setting). fde_answer x cie fde address) setting
      ∙ ap (λ (x : Readings Instruction). fde_answer t x fde address) cies
      ∙ ap (λ (x : Readings Instruction). fde_answer t cie' x address) fdes

  module _ (free : Bool) (address : ℕ) (row : Result (Row ℕ) Error) where
    pub same_run : AnswersFde (may_allocate s free) s cie fde address row → AnswersFde (may_allocate t free) t cie' fde' address row
    same_run runs =
        subst (λ x. AnswersFde (may_allocate t free) t cie' x address row) fdes
        (subst (λ x. AnswersFde (may_allocate t free) t x fde address row) cies
        (subst (λ x. AnswersFde (may_allocate x free) x cie fde address row) setting runs))

-- the addresses of a row that is lent
pub lent_contains : {T : Type 0} (number : T → ℕ) (address : ℕ) (result : Result (Bor (Row T)) Error) →
    IfOk (map_ok (λ (row : Bor (Row T)). map_row number row.now) result) (λ row. (row.start_address ≤ address) × (address < row.end_address)) → IfOk result (λ row. (row.now.start_address ≤ address) × (address < row.now.end_address))
lent_contains number address (Ok row) inside = inside
lent_contains number address (Err e) inside = tt

-- the expressions of a row that is lent, in the reader's offsets
pub lent_expressions : {T : Type 0} (number : T → ℕ) (section : Position) (result : Result (Bor (Row T)) Error) →
    IfOk (map_ok (λ (row : Bor (Row T)). map_row number row.now) result) (λ row. EachExpression (LiesIn section) row.parts) → IfOk result (λ row. HasExpressionsIn number section row.now.parts)
lent_expressions number section (Ok row) each = of_parts number (LiesIn section) row.now.parts each
lent_expressions number section (Err e) each = tt
