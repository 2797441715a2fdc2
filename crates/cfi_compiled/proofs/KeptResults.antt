-- Kept rows go on to mean the same when rests and rows are added.
use Rattle.std.proofs.Common.{◌≡◌, ℕ, suc, ◌<◌, ◌≤◌, List, [], ◌∷◌, map, length, get_or, Result, Ok, Err, refl, sym, ap, subst, ◌∙◌, ⊎_elim, arith}
use Rattle.std.specs.Prelude.{IfOk}
use Rattle.std.proofs.lemmas.List.{append-nil, map_push, get_or-map}
use Rattle.std.proofs.lemmas.List.Elements.{All-push}
use Rattle.std.proofs.Math.ListN.{length-map}
use Rattle.cfi_read_core.specs.declared.error.Error.{Error}
use Rattle.cfi_read_core.specs.declared.error.Error.TheVariants.{NoUnwindInfoForAddress}
use Rattle.cfi_read_core.specs.ReaderCalls.{map_ok}
use Rattle.cfi_state.specs.Machine.{Rules}
use Rattle.cfi_state.specs.Machine.{Parts}
use Rattle.cfi_compiled.specs.declared.facts.CieFacts.{CieFacts}
use Rattle.cfi_compiled.specs.declared.rests.KeptRow.{KeptRow}
use Rattle.cfi_compiled.specs.declared.step_list.NumberedStep.{NumberedStep}
use Rattle.cfi_compiled.specs.FrameParts.{frame_parts}
use Rattle.cfi_compiled.specs.KeptRows.{AreNamed, IsGrown, IsRestOf, RestLists, frame_of_kept, parts_of_kept, rest_args, rest_facts, rest_rules, results_in}
use Rattle.cfi_compiled.specs.CompiledTables.{AreNumbersOf, IsAdded, IsSoundTable, frame_at, frame_numbered, step_named, steps_of}
use Rattle.cfi_compiled.specs.Steps.{Rise, free_from, frame_by_steps}
use Rattle.cfi_compiled.proofs.Grown.{Extends, Results}

abbrev pub Names : ℕ → Result KeptRow Error → Type 0
Names count row = IfOk row (λ row. row.rest < count)

more_named : (few many : ℕ) → few ≤ many → (row : Result KeptRow Error) → Names few row → Names many row
more_named few many more (Ok row) within = omega (arith, more, within)
more_named few many more (Err e) within = tt

module _ (old new : RestLists) (grown : IsGrown old new) where
  same_row : (row : Result KeptRow Error) → Names (length old.rests) row → map_ok (frame_of_kept new) row ≡ map_ok (frame_of_kept old) row
  same_row (Ok row) within =
      ap (λ (r : Rules ℕ). Ok (frame_parts (rest_facts new row.rest) (record { cfa = row.cfa; rules = r; args_size = rest_args new row.rest }))) (grown.rules row.rest within)
      ∙ ap (λ n. Ok (frame_parts (rest_facts new row.rest) (record { cfa = row.cfa; rules = rest_rules old row.rest; args_size = n }))) (grown.args row.rest within)
      ∙ ap (λ (facts : CieFacts). Ok (frame_parts facts (parts_of_kept old row))) (grown.facts row.rest within)
  same_row (Err e) within = refl

  pub same_results : (rows : List (Result KeptRow Error)) → AreNamed old rows → results_in new rows ≡ results_in old rows
  same_results [] named = refl
  same_results (row ∷ rows) named =
      ap (λ r. r ∷ results_in new rows) (same_row row (named 0 row (omega arith)))
      ∙ ap (λ (l : Results). map_ok (frame_of_kept old) row ∷ l) (same_results rows (λ i d within. named (suc i) d (omega (arith, within))))

  still_named : (rows : List (Result KeptRow Error)) → AreNamed old rows → AreNamed new rows
  still_named rows named i d within = more_named _ _ grown.more (get_or rows i d) (named i d within)

  module _ (rows : List (Result KeptRow Error)) (numbers : List NumberedStep) (sound : IsSoundTable (record { lists = old; rows = rows; numbers = numbers })) where
    same : results_in old rows ≡ results_in new rows
    same = sym (same_results rows sound.named)

    pub sound_grown : IsSoundTable (record { lists = new; rows = rows; numbers = numbers })
    sound_grown = record {
      rise = subst (λ (l : Results). Rise 0 (map (step_named l) numbers)) same sound.rise;
      numbers = subst (λ (l : Results). AreNumbersOf l numbers) same sound.numbers;
      named = still_named rows sound.named;
    }

    pub frame_grown : (a : ℕ) → frame_at (record { lists = new; rows = rows; numbers = numbers }) a ≡ frame_at (record { lists = old; rows = rows; numbers = numbers }) a
    frame_grown a = ap (λ (l : Results). frame_by_steps (map (step_named l) numbers) a) (sym same)

    pub free_grown : free_from 0 (steps_of (record { lists = new; rows = rows; numbers = numbers })) ≡ free_from 0 (steps_of (record { lists = old; rows = rows; numbers = numbers }))
    free_grown = ap (λ (l : Results). free_from 0 (map (step_named l) numbers)) (sym same)

module _ (lists : RestLists) (answer : Result KeptRow Error) (old new : List (Result KeptRow Error)) (added : IsAdded answer old new) where
  pub added_extends : Extends (results_in lists old) (results_in lists new)
  added_extends =
      ⊎_elim
      (λ is. ([], ap (results_in lists) is ∙ sym (append-nil (results_in lists old))))
      (λ is. (map_ok (frame_of_kept lists) answer ∷ [], ap (results_in lists) is ∙ map_push (map_ok (frame_of_kept lists)) old answer))
      added

  pub added_named : AreNamed lists old → IfOk answer (λ row. row.rest < length lists.rests) → AreNamed lists new
  added_named named within =
      ⊎_elim
      (λ is. subst (AreNamed lists) (sym is) named)
      (λ is. subst (AreNamed lists) (sym is) (All-push (Names (length lists.rests)) old answer named within))
      added

pub result_at : (lists : RestLists) (rows : List (Result KeptRow Error)) (answer : Result KeptRow Error) (number : ℕ) → number < length rows → get_or rows number answer ≡ answer
    → (number < length (results_in lists rows)) × (frame_numbered (results_in lists rows) number ≡ map_ok (frame_of_kept lists) answer)
result_at lists rows answer number within is = (
  simp length-map within,
  get_or-map (map_ok (frame_of_kept lists)) rows number answer (Err NoUnwindInfoForAddress) within ∙ ap (map_ok (frame_of_kept lists)) is,
)

-- the rest of a row, with its CFA, is what the row says
pub frame_of_rest : (lists : RestLists) (row : KeptRow) (facts : CieFacts) (parts : Parts ℕ) → row.cfa ≡ parts.cfa → IsRestOf lists facts parts row.rest → frame_of_kept lists row ≡ frame_parts facts parts
frame_of_rest lists row facts parts cfa is = rw (cfa, is.rules, is.args, is.said) refl

pub result_named : {E : Type 0} → (lists shown : RestLists) → lists ≡ shown → (rows : List (Result KeptRow Error)) (answer : Result KeptRow Error) (found : Result ℕ E)
    → IfOk found (λ n. n < length rows) → IfOk found (λ n. (d : Result KeptRow Error) → get_or rows n d ≡ answer)
    → IfOk found (λ n. (n < length (results_in lists rows)) × (frame_numbered (results_in lists rows) n ≡ map_ok (frame_of_kept shown) answer))
result_named lists shown is_shown rows answer (Ok n) within is =
    let here = result_at lists rows answer n within (is answer) in
    (here.0, here.1 ∙ ap (λ l. map_ok (frame_of_kept l) answer) is_shown)
result_named lists shown is_shown rows answer (Err e) within is = tt
