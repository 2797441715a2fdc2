-- What the machine answers next is what the struck-out form answers next, and the machine then stands after the program
-- with the instructions kept on the way.
use Rattle.std.proofs.Common.{◌≡◌, ℕ, Bool, true, false, cond, List, [], ◌∷◌, ◌++◌, Option, Some, None, Result, Ok, Err, append_assoc, refl, sym, ap, subst, ◌∙◌, inl, inr}
use Rattle.std.specs.Bool.{IsTrue}
use Rattle.std.specs.Option.{option_or}
use Rattle.std.specs.Result.{IsOk}
use Rattle.std.proofs.lemmas.Bool.{false≢true}
use Rattle.std.proofs.lemmas.List.{append-nil}
use Rattle.cfi_read_core.specs.ReadFunctions.{Readings, with_first, no_values}
use Rattle.cfi_read_core.specs.declared.error.Error.{Error}
use Rattle.cfi_read_core.specs.declared.instruction.CallFrameInstruction.{CallFrameInstruction}
use Rattle.cfi_state.specs.Row.{Row}
use Rattle.cfi_state.specs.MachineSettings.{Setting, is_move}
use Rattle.cfi_state.specs.Machine.{State, fresh_state, step, end_of_cie}
use Rattle.cfi_state.specs.Program.{Program, in_cie, in_fde, followed_by, location_of, refusal, refusal_at_end}
use Rattle.cfi_state.specs.FdeAnswers.{row_until, rows_ended, answers_of, first_refusal, cie_refusal, program_state, IsStateAfter}
use Rattle.cfi_state.specs.Cases.{or_refused, on_option}
use Rattle.cfi_state.specs.AllocatingOperations.{IsRefusal}
use Rattle.cfi_state.specs.UnwindTableStates.{TableState, before_last_row, after_last_row, answers_to_come, IsNext}
use Rattle.cfi_state.specs.MachineRuns.{current_row, NextAnswer, passes, ends_row, refuses, cannot_read, last_row, no_row, RunsInitialInstructions, cie_passes, cie_refuses, cie_cannot_read, cie_ends, cie_end_refused, FindsRow, contains_it, goes_on, is_refused, comes_to_end, AnswersFde, by_cie, by_rows}
use Rattle.cfi_state.specs.Allocation.{MayAllocate, AreNever}
use Rattle.cfi_state.specs.AcceptedInstructions.{at_program, AnswersForProgram, IsLeftOut, NextAcceptedAnswer, keeps, keeps_move, leaves_out, finds_unreadable, gives_last_row, gives_no_row, AcceptsInitialInstructions, cie_keeps, cie_leaves_out, cie_finds_unreadable, cie_is_kept, cie_end_left_out, AnswersByAccepted, refused_by_cie, found_in_rows}
use Rattle.cfi_state.proofs.Law.{step_law}
use Rattle.cfi_state.proofs.CieEnd.{end_law}
use Rattle.cfi_state.proofs.IsStateAfter.{accepted_value, refused_error, stands_next, stands_refused, stands_at_end, stands_fresh}

module _ {T : Type 0} where
  -- ---- the next answer

  -- an accepted instruction that is no move gives none
  pub answers-other : (s : Setting) (p : Program T) (i : CallFrameInstruction T) (xs : List (CallFrameInstruction T)) (unread : Option Error) → refusal s p i ≡ None → is_move i ≡ false → answers_of s p (i ∷ xs) unread ≡ answers_of s (followed_by p i) xs unread
  answers-other s p i xs unread accepted still =
      ap (on_option (rows_ended s p i ++ answers_of s (followed_by p i) xs unread) (λ e. Err e ∷ answers_of s p xs unread)) accepted
      ∙ ap (λ b. cond b (Ok (row_until s p (location_of s (followed_by p i))) ∷ []) [] ++ answers_of s (followed_by p i) xs unread) still

  -- an accepted move gives the row that it ends
  pub answers-move : (s : Setting) (p : Program T) (i : CallFrameInstruction T) (xs : List (CallFrameInstruction T)) (unread : Option Error) → refusal s p i ≡ None → is_move i ≡ true → answers_of s p (i ∷ xs) unread ≡ Ok (row_until s p (location_of s (followed_by p i))) ∷ answers_of s (followed_by p i) xs unread
  answers-move s p i xs unread accepted moves =
      ap (on_option (rows_ended s p i ++ answers_of s (followed_by p i) xs unread) (λ e. Err e ∷ answers_of s p xs unread)) accepted
      ∙ ap (λ b. cond b (Ok (row_until s p (location_of s (followed_by p i))) ∷ []) [] ++ answers_of s (followed_by p i) xs unread) moves

  -- a refused instruction gives its refusal, and the program stays
  pub answers-refused : (s : Setting) (p : Program T) (i : CallFrameInstruction T) (xs : List (CallFrameInstruction T)) (unread : Option Error) (e : Error) → refusal s p i ≡ Some e → answers_of s p (i ∷ xs) unread ≡ Err e ∷ answers_of s p xs unread
  answers-refused s p i xs unread e refused = ap (on_option (rows_ended s p i ++ answers_of s (followed_by p i) xs unread) (λ d. Err d ∷ answers_of s p xs unread)) refused

none_refused : {A : Type 0} (o : Option Error) (a : A) → IsOk (or_refused o a) → o ≡ None
none_refused None a ok = refl
none_refused (Some e) a ok = absurd (false≢true ok)

module _ {T : Type 0} (allocates : MayAllocate T) (s : Setting) where
  left_out : (x : State T) (g : Program T) (i : CallFrameInstruction T) (e : Error) → IsStateAfter s x g → IsRefusal (allocates.at x i) (step s x i) e → IsLeftOut (allocates.at (program_state s g) i) (refusal s g i) e
  left_out x g i e h (inl is) = inl (stands_refused s x g i e h is)
  left_out x g i e h (inr wanting) = inr (
    subst (λ z. IsTrue (allocates.at z i)) h.1 wanting.0,
    none_refused (refusal s g i) (program_state s (followed_by g i)) (subst IsOk (step_law s g i h.0) (subst (λ z. IsOk (step s z i)) h.1 wanting.1)),
    wanting.2,
  )

  accepted_next : (x y : State T) (g : Program T) (i : CallFrameInstruction T) → IsStateAfter s x g → step s x i ≡ Ok y → refusal s g i ≡ None
  accepted_next x y g i h stepped = (accepted_value (refusal s g i) (program_state s (followed_by g i)) y (sym (step_law s g i h.0) ∙ ap (λ z. step s z i) (sym h.1) ∙ stepped)).0

  -- the machine's next answer is the program's
  pub keeps_next : (p : TableState (State T) T) (answer : Result (Option (Row T)) Error) (q : TableState (State T) T) → NextAnswer allocates s p answer q → AnswersForProgram allocates s p answer q
  keeps_next p answer q (passes x y i rest answer' q' still stepped next) g h =
      let more = keeps_next (before_last_row y rest) answer' q' next (followed_by g i) (stands_next s x y g i h stepped) in
      (more.0, keeps g i rest answer' (at_program q' more.0) still (accepted_next x y g i h stepped) more.1, more.2)
  keeps_next p answer q (ends_row x y i rest moves stepped) g h =
      let stands = stands_next s x y g i h stepped in
      let row : row_until s g (location_of s (followed_by g i)) ≡ current_row x y.location = λ k. current_row (sym h.1 k) (sym stands.1 k).location in (
        followed_by g i,
        subst (λ r. NextAcceptedAnswer allocates s (before_last_row g (with_first i rest)) (Ok (Some r)) (before_last_row (followed_by g i) rest)) row (keeps_move g i rest moves (accepted_next x y g i h stepped)),
        stands,
      )
  keeps_next p answer q (refuses x i rest e refusal) g h = (g, leaves_out g i rest e (left_out x g i e h refusal), h)
  keeps_next p answer q (cannot_read x e) g h = (g, finds_unreadable g e, h)
  keeps_next p answer q (last_row x) g h = (
    g,
    subst (λ r. NextAcceptedAnswer allocates s (before_last_row g (no_values None)) (Ok (Some r)) (after_last_row g (no_values None))) (sym (ap (λ z. current_row z s.end_address) h.1)) (gives_last_row g),
    h,
  )
  keeps_next p answer q (no_row x left) g h = (g, gives_no_row g left, h)

  -- of the program of a CIE
  abbrev KeepsBehind : List (CallFrameInstruction T) → Readings (CallFrameInstruction T) → Result (State T) Error → Type 0
  KeepsBehind cie reads (Ok y) = (all : List (CallFrameInstruction T)) × AcceptsInitialInstructions allocates s cie reads (Ok all) × IsStateAfter s y (in_fde all [])
  KeepsBehind cie reads (Err e) = AcceptsInitialInstructions allocates s cie reads (Err e)

  keeps_more : (cie : List (CallFrameInstruction T)) (i : CallFrameInstruction T) (rest : Readings (CallFrameInstruction T)) (result : Result (State T) Error) → refusal s (in_cie cie) i ≡ None → KeepsBehind (cie ++ i ∷ []) rest result → KeepsBehind cie (with_first i rest) result
  keeps_more cie i rest (Ok y) accepted more = (more.0, cie_keeps cie i rest (Ok more.0) accepted more.1, more.2)
  keeps_more cie i rest (Err e) accepted more = cie_keeps cie i rest (Err e) accepted more

  accepted_end : (x y : State T) (cie : List (CallFrameInstruction T)) → IsStateAfter s x (in_cie cie) → end_of_cie s x ≡ Ok y → refusal_at_end s cie ≡ None
  accepted_end x y cie h is = (accepted_value (refusal_at_end s cie) (program_state s (in_fde cie [])) y (sym (end_law s cie h.0) ∙ ap (end_of_cie s) (sym h.1) ∙ is)).0

  end_left_out : (x : State T) (cie : List (CallFrameInstruction T)) (e : Error) → IsStateAfter s x (in_cie cie) → IsRefusal (allocates.at_end x) (end_of_cie s x) e → IsLeftOut (allocates.at_end (program_state s (in_cie cie))) (refusal_at_end s cie) e
  end_left_out x cie e h (inl is) = inl (refused_error (refusal_at_end s cie) (program_state s (in_fde cie [])) e (sym (end_law s cie h.0) ∙ ap (end_of_cie s) (sym h.1) ∙ is))
  end_left_out x cie e h (inr wanting) = inr (
    subst (λ z. IsTrue (allocates.at_end z)) h.1 wanting.0,
    none_refused (refusal_at_end s cie) (program_state s (in_fde cie [])) (subst IsOk (end_law s cie h.0) (subst (λ z. IsOk (end_of_cie s z)) h.1 wanting.1)),
    wanting.2,
  )

  pub keeps_cie : (x : State T) (reads : Readings (CallFrameInstruction T)) (result : Result (State T) Error) → RunsInitialInstructions allocates s x reads result → (cie : List (CallFrameInstruction T)) → IsStateAfter s x (in_cie cie) → KeepsBehind cie reads result
  keeps_cie x reads result (cie_passes x' y i rest result' stepped runs) cie h =
      keeps_more cie i rest result' (accepted_next x' y (in_cie cie) i h stepped) (keeps_cie y rest result' runs (cie ++ i ∷ []) (stands_next s x' y (in_cie cie) i h stepped))
  keeps_cie x reads result (cie_refuses x' i rest e refusal) cie h = cie_leaves_out cie i rest e (left_out x' (in_cie cie) i e h refusal)
  keeps_cie x reads result (cie_cannot_read x' e) cie h = cie_finds_unreadable cie e
  keeps_cie x reads result (cie_ends x' y is) cie h = (cie, cie_is_kept cie (accepted_end x' y cie h is), stands_at_end s x' y cie h is)
  keeps_cie x reads result (cie_end_refused x' e refusal) cie h = cie_end_left_out cie e (end_left_out x' cie e h refusal)

  -- of the search for an address
  pub finds_kept : (address : ℕ) (p : TableState (State T) T) (result : Result (Row T) Error) → FindsRow (NextAnswer allocates s) address p result → (g : Program T) → IsStateAfter s p.so_far g → FindsRow (NextAcceptedAnswer allocates s) address (at_program p g) result
  finds_kept address p result (contains_it p' q row next inside) g h =
      let more = keeps_next p' (Ok (Some row)) q next g h in contains_it (at_program p' g) (at_program q more.0) row more.1 inside
  finds_kept address p result (goes_on p' q row result' next outside finds) g h =
      let more = keeps_next p' (Ok (Some row)) q next g h in
      goes_on (at_program p' g) (at_program q more.0) row result' more.1 outside (finds_kept address q result' finds more.0 more.2)
  finds_kept address p result (is_refused p' q e next) g h =
      let more = keeps_next p' (Err e) q next g h in is_refused (at_program p' g) (at_program q more.0) e more.1
  finds_kept address p result (comes_to_end p' q next) g h =
      let more = keeps_next p' (Ok None) q next g h in comes_to_end (at_program p' g) (at_program q more.0) more.1

  -- the answer of an FDE by the machine is that of the struck-out form
  pub answers_by_kept : (cie fde : Readings (CallFrameInstruction T)) (address : ℕ) (result : Result (Row T) Error) → AnswersFde allocates s cie fde address result → AnswersByAccepted allocates s cie fde address result
  answers_by_kept cie fde address result (by_cie e runs) = refused_by_cie e (keeps_cie fresh_state cie (Err e) runs [] (stands_fresh s))
  answers_by_kept cie fde address result (by_rows x result' runs finds) =
      let all = keeps_cie fresh_state cie (Ok x) runs [] (stands_fresh s) in
      found_in_rows all.0 result' all.1 (finds_kept address (before_last_row x fde) result' finds (in_fde all.0 []) all.2)

-- ---- where no instruction runs out of memory

module _ {T : Type 0} (allocates : MayAllocate T) (s : Setting) (never : AreNever allocates) where
  due_left_out : (w : Bool) (due : Option Error) (e : Error) → w ≡ false → IsLeftOut w due e → due ≡ Some e
  due_left_out w due e free (inl is) = is
  due_left_out w due e free (inr wanting) = absurd (false≢true (sym free ∙ wanting.0))

  -- the next answer is the first of those still to come
  pub kept_next_is : (p : TableState (Program T) T) (answer : Result (Option (Row T)) Error) (q : TableState (Program T) T) → NextAcceptedAnswer allocates s p answer q → IsNext (answers_to_come s p) answer (answers_to_come s q)
  kept_next_is p answer q (keeps g i rest answer' q' still accepted next) =
      subst (λ l. IsNext l answer' (answers_to_come s q')) (sym (answers-other s g i rest.values rest.refusal accepted still)) (kept_next_is (before_last_row (followed_by g i) rest) answer' q' next)
  kept_next_is p answer q (keeps_move g i rest moves accepted) = answers-move s g i rest.values rest.refusal accepted moves
  kept_next_is p answer q (leaves_out g i rest e out) = answers-refused s g i rest.values rest.refusal e (due_left_out (allocates.at (program_state s g) i) (refusal s g i) e (never.at (program_state s g) i) out)
  kept_next_is p answer q (finds_unreadable g e) = refl
  kept_next_is p answer q (gives_last_row g) = refl
  kept_next_is p answer q (gives_no_row g left) = (refl, refl)

-- ---- the definitions of the struck-out form, where no instruction runs out of memory

module _ {T : Type 0} (allocates : MayAllocate T) (s : Setting) (never : AreNever allocates) where
  -- why the CIE's initial instructions are refused after some of its instructions
  abbrev refusal_behind : List (CallFrameInstruction T) → Readings (CallFrameInstruction T) → Option Error
  refusal_behind cie reads = option_or (first_refusal s (in_cie cie) reads.values) (option_or reads.refusal (refusal_at_end s (cie ++ reads.values)))

  kept_behind : (cie : List (CallFrameInstruction T)) (reads : Readings (CallFrameInstruction T)) (result : Result (List (CallFrameInstruction T)) Error) → AcceptsInitialInstructions allocates s cie reads result → or_refused (refusal_behind cie reads) (cie ++ reads.values) ≡ result
  kept_behind cie reads result (cie_keeps cie' i rest result' accepted keeps_rest) =
      ap (λ o. or_refused (option_or (option_or o (first_refusal s (in_cie (cie' ++ i ∷ [])) rest.values)) (option_or rest.refusal (refusal_at_end s (cie' ++ i ∷ rest.values)))) (cie' ++ i ∷ rest.values)) accepted
      ∙ ap (λ l. or_refused (option_or (first_refusal s (in_cie (cie' ++ i ∷ [])) rest.values) (option_or rest.refusal (refusal_at_end s l))) l) (sym (append_assoc cie' (i ∷ []) rest.values))
      ∙ kept_behind (cie' ++ i ∷ []) rest result' keeps_rest
  kept_behind cie reads result (cie_leaves_out cie' i rest e out) =
      ap (λ o. or_refused (option_or (option_or o (first_refusal s (in_cie (cie' ++ i ∷ [])) rest.values)) (option_or rest.refusal (refusal_at_end s (cie' ++ i ∷ rest.values)))) (cie' ++ i ∷ rest.values))
      (due_left_out allocates s never (allocates.at (program_state s (in_cie cie')) i) (refusal s (in_cie cie') i) e (never.at (program_state s (in_cie cie')) i) out)
  kept_behind cie reads result (cie_finds_unreadable cie' e) = refl
  kept_behind cie reads result (cie_is_kept cie' accepted) = ap (λ l. or_refused (refusal_at_end s l) l) (append-nil cie') ∙ ap (λ o. or_refused o cie') accepted
  kept_behind cie reads result (cie_end_left_out cie' e out) =
      ap (λ l. or_refused (refusal_at_end s l) l) (append-nil cie')
      ∙ ap (λ o. or_refused o cie') (due_left_out allocates s never (allocates.at_end (program_state s (in_cie cie'))) (refusal_at_end s cie') e (never.at_end (program_state s (in_cie cie'))) out)

  pub kept_cie_is : (reads : Readings (CallFrameInstruction T)) (result : Result (List (CallFrameInstruction T)) Error) → AcceptsInitialInstructions allocates s [] reads result → or_refused (cie_refusal s reads) reads.values ≡ result
  kept_cie_is reads = kept_behind [] reads
