-- The answers of a run are those of the machine's functions, but for one that is refused for lack of memory.
use Rattle.std.proofs.Common.{◌≡◌, ℕ, Bool, true, false, cond, List, [], ◌∷◌, ◌++◌, Option, Some, None, Result, Ok, Err, refl, sym, ap, subst, ◌∙◌, inl, inr, ◌⊎◌}
use Rattle.std.proofs.lemmas.Bool.{false≢true}
use Rattle.cfi_read_core.specs.declared.error.Error.{Error}
use Rattle.cfi_read_core.specs.declared.error.Error.TheVariants.{OutOfMemory}
use Rattle.cfi_read_core.specs.declared.instruction.CallFrameInstruction.{CallFrameInstruction}
use Rattle.cfi_state.specs.Row.{Row}
use Rattle.cfi_state.specs.MachineSettings.{Setting, is_move}
use Rattle.cfi_state.specs.Machine.{State, step}
use Rattle.cfi_state.specs.FdeAnswers.{row_ended, run_answers_of, answer_at}
use Rattle.cfi_state.specs.Cases.{on_result}
use Rattle.cfi_state.specs.AllocatingOperations.{IsRefusal}
use Rattle.cfi_state.specs.UnwindTableStates.{TableState, before_last_row, run_answers_to_come, IsNext}
use Rattle.cfi_state.specs.MachineRuns.{NextAnswer, passes, ends_row, refuses, cannot_read, last_row, no_row, FindsRow, contains_it, goes_on, is_refused, comes_to_end}
use Rattle.cfi_state.specs.Allocation.{MayAllocate, AreNever}

-- ---- what one step does to the answers of a run

module _ {T : Type 0} where
  pub run_answers-other : (s : Setting) (x y : State T) (i : CallFrameInstruction T) (xs : List (CallFrameInstruction T)) (unread : Option Error) → step s x i ≡ Ok y → is_move i ≡ false → run_answers_of s x (i ∷ xs) unread ≡ run_answers_of s y xs unread
  run_answers-other s x y i xs unread e still =
      ap (on_result (λ z. row_ended x i z ++ run_answers_of s z xs unread) (λ d. Err d ∷ run_answers_of s x xs unread)) e
      ∙ ap (λ b. cond b (Ok (record { start_address = x.location; end_address = y.location; parts = x.parts }) ∷ []) [] ++ run_answers_of s y xs unread) still

  pub run_answers-move : (s : Setting) (x y : State T) (i : CallFrameInstruction T) (xs : List (CallFrameInstruction T)) (unread : Option Error) → step s x i ≡ Ok y → is_move i ≡ true →
      run_answers_of s x (i ∷ xs) unread ≡ Ok (record { start_address = x.location; end_address = y.location; parts = x.parts }) ∷ run_answers_of s y xs unread
  run_answers-move s x y i xs unread e moves =
      ap (on_result (λ z. row_ended x i z ++ run_answers_of s z xs unread) (λ d. Err d ∷ run_answers_of s x xs unread)) e
      ∙ ap (λ b. cond b (Ok (record { start_address = x.location; end_address = y.location; parts = x.parts }) ∷ []) [] ++ run_answers_of s y xs unread) moves

  pub run_answers-refused : (s : Setting) (x : State T) (i : CallFrameInstruction T) (xs : List (CallFrameInstruction T)) (unread : Option Error) (d : Error) → step s x i ≡ Err d → run_answers_of s x (i ∷ xs) unread ≡ Err d ∷ run_answers_of s x xs unread
  run_answers-refused s x i xs unread d e = ap (on_result (λ z. row_ended x i z ++ run_answers_of s z xs unread) (λ b. Err b ∷ run_answers_of s x xs unread)) e

-- where no instruction runs out of memory the next answer is the first of those still to come
module _ {T : Type 0} (allocates : MayAllocate T) (s : Setting) (never : AreNever allocates) where
  due_refusal : (w : Bool) (due : Result (State T) Error) (e : Error) → w ≡ false → IsRefusal w due e → due ≡ Err e
  due_refusal w due e free (inl is) = is
  due_refusal w due e free (inr wanting) = absurd (false≢true (sym free ∙ wanting.0))

  pub next_is_due : (p : TableState (State T) T) (answer : Result (Option (Row T)) Error) (q : TableState (State T) T) → NextAnswer allocates s p answer q → IsNext (run_answers_to_come s p) answer (run_answers_to_come s q)
  next_is_due p answer q (passes x y i rest answer' q' still stepped next) =
      subst (λ l. IsNext l answer' (run_answers_to_come s q')) (sym (run_answers-other s x y i rest.values rest.refusal stepped still)) (next_is_due (before_last_row y rest) answer' q' next)
  next_is_due p answer q (ends_row x y i rest moves stepped) = run_answers-move s x y i rest.values rest.refusal stepped moves
  next_is_due p answer q (refuses x i rest e refusal) = run_answers-refused s x i rest.values rest.refusal e (due_refusal (allocates.at x i) (step s x i) e (never.at x i) refusal)
  next_is_due p answer q (cannot_read x e) = refl
  next_is_due p answer q (last_row x) = refl
  next_is_due p answer q (no_row x left) = (refl, refl)

-- an answer that is found among those that come next is that of the answers still to come
pub finds_is : {T P : Type 0} (Next : P → Result (Option (Row T)) Error → P → Type 0) (still : P → List (Result (Row T) Error)) (address : ℕ)
    → ((p : P) (answer : Result (Option (Row T)) Error) (q : P) → Next p answer q → IsNext (still p) answer (still q))
    → (p : P) (result : Result (Row T) Error) → FindsRow Next address p result → answer_at address (still p) ≡ result
finds_is Next still address is p result (contains_it p' q row next inside) =
    ap (answer_at address) (is p' (Ok (Some row)) q next) ∙ ap (λ b. cond b (Ok row) (answer_at address (still q))) inside
finds_is Next still address is p result (goes_on p' q row result' next outside finds) =
    ap (answer_at address) (is p' (Ok (Some row)) q next) ∙ ap (λ b. cond b (Ok row) (answer_at address (still q))) outside ∙ finds_is Next still address is q result' finds
finds_is Next still address is p result (is_refused p' q e next) = ap (answer_at address) (is p' (Err e) q next)
finds_is Next still address is p result (comes_to_end p' q next) = ap (answer_at address) (is p' (Ok None) q next).0

-- ---- the answers of a run

due_or_memory : {A : Type 0} (w : Bool) (due : Result A Error) (e : Error) → IsRefusal w due e → (due ≡ Err e) ⊎ (e ≡ OutOfMemory)
due_or_memory w due e (inl is) = inl is
due_or_memory w due e (inr wanting) = inr wanting.2

module _ {T : Type 0} (allocates : MayAllocate T) (s : Setting) where
  refused_or_memory : (x : State T) (i : CallFrameInstruction T) (xs : List (CallFrameInstruction T)) (unread : Option Error) (e : Error) → (step s x i ≡ Err e) ⊎ (e ≡ OutOfMemory) →
      (run_answers_of s x (i ∷ xs) unread ≡ Err e ∷ run_answers_of s x xs unread) ⊎ (◌≡◌ {A = Result (Option (Row T)) Error} (Err e) (Err OutOfMemory))
  refused_or_memory x i xs unread e (inl is) = inl (run_answers-refused s x i xs unread e is)
  refused_or_memory x i xs unread e (inr is) = inr (ap Err is)

  pub next_or_memory : (p : TableState (State T) T) (answer : Result (Option (Row T)) Error) (q : TableState (State T) T) → NextAnswer allocates s p answer q → IsNext (run_answers_to_come s p) answer (run_answers_to_come s q) ⊎ (answer ≡ Err OutOfMemory)
  next_or_memory p answer q (passes x y i rest answer' q' still stepped next) =
      subst (λ l. IsNext l answer' (run_answers_to_come s q') ⊎ (answer' ≡ Err OutOfMemory)) (sym (run_answers-other s x y i rest.values rest.refusal stepped still)) (next_or_memory (before_last_row y rest) answer' q' next)
  next_or_memory p answer q (ends_row x y i rest moves stepped) = inl (run_answers-move s x y i rest.values rest.refusal stepped moves)
  next_or_memory p answer q (refuses x i rest e refusal) = refused_or_memory x i rest.values rest.refusal e (due_or_memory (allocates.at x i) (step s x i) e refusal)
  next_or_memory p answer q (cannot_read x e) = inl refl
  next_or_memory p answer q (last_row x) = inl refl
  next_or_memory p answer q (no_row x left) = inl (refl, refl)
