-- Results go on to be the same when errors are added to the list of errors.
use Rattle.std.proofs.Common.{◌≡◌, ◌==◌, suc, List, [], ◌∷◌, ◌++◌, Bool, true, false, length, Result, Ok, Err, refl, ap, ◌∙◌, arith}
use Rattle.std.specs.Prelude.{IfErr}
use Rattle.std.specs.List.{All}
use Rattle.std.proofs.lemmas.Bool.{eqb-true}
use Rattle.std.proofs.lemmas.List.{get_or_append_left, get_or_push, map_push}
use Rattle.cfi_state.specs.declared.table.rules.CfaRule.TheVariants as cfa
use Rattle.cfi_read_core.specs.declared.error.Error.{Error}
use Rattle.cfi_read_core.specs.declared.error.Error.TheVariants.{NoUnwindInfoForAddress}
use Rattle.cfi_compiled.specs.declared.rests.KeptRow.{KeptRow}
use Rattle.cfi_compiled.specs.ResultLists.{IsErrorIn, index_in, error_mark, result_kept, results_kept}

abbrev Kept : Type 0
Kept = List (Result KeptRow Error)

pub if_failed : {A E : Type 0} {P : Type 0} → (result : Result A E) → P → IfErr result (λ _. P)
if_failed (Ok x) p = tt
if_failed (Err e) p = p

module _ (errors : List Error) (e : Error) where
  same_by : (row : KeptRow) → IsErrorIn errors row → (b : Bool) → (row.rest == error_mark) ≡ b → result_kept (errors ++ e ∷ []) row ≡ result_kept errors row
  same_by row there true is = rw is (ap (λ (e : Error). Err e) (get_or_append_left errors (e ∷ []) NoUnwindInfoForAddress (index_in row.cfa) (there (eqb-true _ _ is))))
  same_by row there false is = rw is refl

  pub same_results : (rows : List KeptRow) → All (IsErrorIn errors) rows → results_kept (errors ++ e ∷ []) rows ≡ results_kept errors rows
  same_results [] all = refl
  same_results (row ∷ rows) all =
      ap (λ r. r ∷ results_kept (errors ++ e ∷ []) rows) (same_by row (all 0 row (omega arith)) (row.rest == error_mark) refl)
      ∙ ap (λ (l : Kept). result_kept errors row ∷ l) (same_results rows (λ i d within. all (suc i) d (omega (arith, within))))

  abbrev pub row_of_error : KeptRow
  row_of_error = record { cfa = cfa.Expression (record { offset = length errors; length = 0 }); rest = error_mark }

  stands_for_error : result_kept (errors ++ e ∷ []) row_of_error ≡ Err e
  stands_for_error = ap (λ (e : Error). Err e) (get_or_push errors e NoUnwindInfoForAddress (length errors) refl)

  pub error_pushed : (rows : List KeptRow) → All (IsErrorIn errors) rows → results_kept (errors ++ e ∷ []) (rows ++ row_of_error ∷ []) ≡ results_kept errors rows ++ Err e ∷ []
  error_pushed rows all =
      map_push (result_kept (errors ++ e ∷ [])) rows row_of_error
      ∙ ap (λ (l : Kept). l ++ result_kept (errors ++ e ∷ []) row_of_error ∷ []) (same_results rows all)
      ∙ ap (λ (r : Result KeptRow Error). results_kept errors rows ++ r ∷ []) stands_for_error
