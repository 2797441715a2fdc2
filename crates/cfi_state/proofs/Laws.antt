-- What holds of the rows of every FDE, and of the answer for an address.
--     rows_consecutive      the rows follow each other from the FDE's initial address to its end, without gap or overlap
--     in_one_row      each address that the FDE contains lies in exactly one of its rows
--     answer_contains      a row that is the answer for an address contains the address
--     fde_answer_law      the machine's answer is the one that the kept instructions give without a machine
--     run_is_due      over any storage that answer is due, or `OutOfMemory` where an instruction that may allocate is reached on the way
--     by_kept, by_run      what is so answered is what the instructions give that are kept where memory is refused, and the machine's run
--     is_due, is_due_where_never      it is the function's answer or `OutOfMemory`; where nothing allocates it is the function's
--     contains_it      a row that is so answered contains the address
use Rattle.std.proofs.Common.{◌≡◌, ℕ, ◌+◌, ◌<◌, ◌≤◌, Bool, true, false, cond, ◌&&◌, List, [], ◌∷◌, ◌++◌, ltb, leb, Option, Some, None, Result, Ok, Err, refl, sym, ap, subst, ◌∙◌, arith, zero-add, inl, inr, ◌⊎◌}
use Rattle.std.specs.Bool.{IsTrue}
use Rattle.std.specs.Result.{IfOk}
use Rattle.std.specs.List.{count_by}
use Rattle.std.proofs.lemmas.List.Sums.{sum_by-cons}
use Rattle.std.proofs.lemmas.Bool.{false≢true, and_from, and_parts, leb-true, ltb-true, cases_lt, lt-ltb, le-ltb, le-leb, lt-leb, cases_Bool}
use Rattle.cfi_read_core.specs.ReadFunctions.{Readings}
use Rattle.cfi_read_core.specs.declared.error.Error.{Error}
use Rattle.cfi_read_core.specs.declared.error.Error.TheVariants.{OutOfMemory}
use Rattle.cfi_read_core.specs.declared.instruction.CallFrameInstruction.{CallFrameInstruction}
use Rattle.cfi_state.specs.Row.{Row, row_contains}
use Rattle.cfi_state.specs.MachineSettings.{Setting, is_move}
use Rattle.cfi_state.specs.Machine.{State}
use Rattle.cfi_state.specs.MachineRuns.{AnswersFde}
use Rattle.cfi_state.specs.Allocation.{MayAllocate, AreNever}
use Rattle.cfi_state.specs.AcceptedInstructions.{AnswersByAccepted}
use Rattle.cfi_state.specs.MemoryOnTheWay.{AnswersOrRunsOut}
use Rattle.cfi_state.specs.Program.{Program, in_fde, followed_by, location_of, refusal}
use Rattle.cfi_state.specs.FdeAnswers.{refusals, row_until, answers_of, answers, cie_refusal, run_answers, program_state, IsStateAfter, rows_of, AreConsecutive, answer_at, fde_answer, run_fde_answer}
use Rattle.cfi_state.specs.Cases.{or_refused, on_option, on_result}
use Rattle.cfi_state.proofs.Law.{location_push}
use Rattle.cfi_state.proofs.IsStateAfter.{cie_law, cie_accepted, run_law}
use Rattle.cfi_state.proofs.AcceptedAnswers.{answers-other, answers-move, answers-refused, answers_by_kept}
use Rattle.cfi_state.proofs.MemoryOnTheWay.{moves_on, still_there, kept_is_due, due_is_kept, never_out}
use Rattle.cfi_state.proofs.AcceptedRuns.{run_of_kept}

module _ {T : Type 0} where
  -- ---- consecutive rows

  consecutive_more : (row : Row T) (rows : List (Row T)) (to : ℕ) → row.start_address ≤ row.end_address → AreConsecutive row.end_address rows to → AreConsecutive row.start_address (row ∷ rows) to
  consecutive_more row [] to h rest = absurd rest
  consecutive_more row (next ∷ rows) to h rest = (refl, h, rest)

  consecutive_step : (s : Setting) (p : Program T) (i : CallFrameInstruction T) (xs : List (CallFrameInstruction T)) (unread o : Option Error) → refusal s p i ≡ o →
      ((q : Program T) → AreConsecutive (location_of s q) (rows_of (answers_of s q xs unread)) s.end_address) →
      AreConsecutive (location_of s p) (rows_of (answers_of s p (i ∷ xs) unread)) s.end_address
  consecutive_step s p i xs unread (Some e) h rest = subst (λ l. AreConsecutive (location_of s p) (rows_of l) s.end_address) (sym (answers-refused s p i xs unread e h)) (rest p)
  consecutive_step s p i xs unread None h rest =
      let still : is_move i ≡ false → AreConsecutive (location_of s p) (rows_of (answers_of s p (i ∷ xs) unread)) s.end_address = λ e.
      subst (λ l. AreConsecutive (location_of s p) (rows_of l) s.end_address) (sym (answers-other s p i xs unread h e))
      (subst (λ a. AreConsecutive a (rows_of (answers_of s (followed_by p i) xs unread)) s.end_address) (location_push s p i ∙ still_there s (location_of s p) i e) (rest (followed_by p i))) in
      let moves : is_move i ≡ true → AreConsecutive (location_of s p) (rows_of (answers_of s p (i ∷ xs) unread)) s.end_address = λ e.
      subst (λ l. AreConsecutive (location_of s p) (rows_of l) s.end_address) (sym (answers-move s p i xs unread h e))
      (consecutive_more (row_until s p (location_of s (followed_by p i))) (rows_of (answers_of s (followed_by p i) xs unread)) s.end_address
      (subst (λ a. location_of s p ≤ a) (sym (location_push s p i)) (moves_on s p i h)) (rest (followed_by p i))) in
      let pick : (is_move i ≡ true) ⊎ (is_move i ≡ false) → AreConsecutive (location_of s p) (rows_of (answers_of s p (i ∷ xs) unread)) s.end_address = elim [ inl e ↦ moves e | inr e ↦ still e ] in
      pick (cases_Bool (is_move i))

  last_row : (s : Setting) (p : Program T) (unread : Option Error) → AreConsecutive (location_of s p) (rows_of (refusals unread ++ Ok (row_until s p s.end_address) ∷ [])) s.end_address
  last_row s p None = (refl, refl)
  last_row s p (Some e) = (refl, refl)

  pub answers_consecutive : (s : Setting) (xs : List (CallFrameInstruction T)) (unread : Option Error) (p : Program T) → AreConsecutive (location_of s p) (rows_of (answers_of s p xs unread)) s.end_address
  answers_consecutive s [] unread p = last_row s p unread
  answers_consecutive s (i ∷ xs) unread p = consecutive_step s p i xs unread (refusal s p i) refl (answers_consecutive s xs unread)

  -- the rows of an FDE run from its initial address to its end
  pub rows_consecutive : (s : Setting) (cie : List (CallFrameInstruction T)) (fde : Readings (CallFrameInstruction T)) → AreConsecutive s.initial_address (rows_of (answers s (in_fde cie []) fde)) s.end_address
  rows_consecutive s cie fde = answers_consecutive s fde.values fde.refusal (in_fde cie [])

  -- ---- exactly one row

  outside_below : (address : ℕ) (row : Row T) → address < row.start_address → row_contains address row ≡ false
  outside_below address row h = ap (λ b. b && ltb address row.end_address) (lt-leb row.start_address address h)

  outside_above : (address : ℕ) (row : Row T) → row.start_address ≤ address → row.end_address ≤ address → row_contains address row ≡ false
  outside_above address row low high = ap (λ b. b && ltb address row.end_address) (le-leb row.start_address address low) ∙ le-ltb address row.end_address high

  inside : (address : ℕ) (row : Row T) → row.start_address ≤ address → address < row.end_address → row_contains address row ≡ true
  inside address row low high = and_from (leb row.start_address address) _ (le-leb _ _ low) (lt-ltb _ _ high)

  count_one : (address : ℕ) (row : Row T) (rows : List (Row T)) (b : Bool) → row_contains address row ≡ b → count_by (row_contains address) (row ∷ rows) ≡ cond b 1 0 + count_by (row_contains address) rows
  count_one address row rows b e = sum_by-cons (λ r. cond (row_contains address r) 1 0) row rows ∙ ap (λ c. cond c 1 0 + count_by (row_contains address) rows) e

  none_below : (address from : ℕ) (rows : List (Row T)) (to : ℕ) → AreConsecutive from rows to → address < from → count_by (row_contains address) rows ≡ 0
  none_below address from [] to c h = absurd c
  none_below address from (row ∷ []) to c h = count_one address row [] false (outside_below address row (omega (arith, c.0)))
  none_below address from (row ∷ next ∷ rows) to c h =
      count_one address row (next ∷ rows) false (outside_below address row (omega (arith, c.0))) ∙ zero-add _ ∙ none_below address row.end_address (next ∷ rows) to c.2 (omega (arith, c.0, c.1))

  one_row_case : (address : ℕ) (row next : Row T) (rows : List (Row T)) (from to : ℕ) → AreConsecutive from (row ∷ next ∷ rows) to → from ≤ address → (row.end_address ≤ address → count_by (row_contains address) (next ∷ rows) ≡ 1) → (address < row.end_address) ⊎ (row.end_address ≤ address) → count_by (row_contains address) (row ∷ next ∷ rows) ≡ 1
  one_row_case address row next rows from to c low rest (inl here) = count_one address row (next ∷ rows) true (inside address row (omega (arith, c.0)) here) ∙ ap (λ n. 1 + n) (none_below address row.end_address (next ∷ rows) to c.2 here)
  one_row_case address row next rows from to c low rest (inr later) = count_one address row (next ∷ rows) false (outside_above address row (omega (arith, c.0)) later) ∙ zero-add _ ∙ rest later

  one_row : (address : ℕ) (rows : List (Row T)) (from to : ℕ) → AreConsecutive from rows to → from ≤ address → address < to → count_by (row_contains address) rows ≡ 1
  one_row address [] from to c low high = absurd c
  one_row address (row ∷ []) from to c low high = count_one address row [] true (inside address row (omega (arith, c.0)) (omega (arith, c.1)))
  one_row address (row ∷ next ∷ rows) from to c low high =
      one_row_case address row next rows from to c low (λ h. one_row address (next ∷ rows) row.end_address to c.2 h high) (cases_lt address row.end_address)

  -- each address that the FDE contains lies in exactly one of its rows
  pub in_one_row : (s : Setting) (cie : List (CallFrameInstruction T)) (fde : Readings (CallFrameInstruction T)) (address : ℕ) → s.initial_address ≤ address → address < s.end_address → count_by (row_contains address) (rows_of (answers s (in_fde cie []) fde)) ≡ 1
  in_one_row s cie fde address low high = one_row address (rows_of (answers s (in_fde cie []) fde)) s.initial_address s.end_address (rows_consecutive s cie fde) low high

  -- ---- the rows of a table that is made for an FDE

  run_is : (s : Setting) (x : State T) (cie : List (CallFrameInstruction T)) (fde : Readings (CallFrameInstruction T)) → IsStateAfter s x (in_fde cie []) → run_answers s x fde ≡ answers s (in_fde cie []) fde
  run_is s x cie fde after = ap (λ y. run_answers s y fde) after.1 ∙ run_law s fde.values fde.refusal (in_fde cie []) after.0

  pub run_consecutive : (s : Setting) (x : State T) (cie : List (CallFrameInstruction T)) (fde : Readings (CallFrameInstruction T)) → IsStateAfter s x (in_fde cie []) → AreConsecutive s.initial_address (rows_of (run_answers s x fde)) s.end_address
  run_consecutive s x cie fde after = subst (λ l. AreConsecutive s.initial_address (rows_of l) s.end_address) (sym (run_is s x cie fde after)) (rows_consecutive s cie fde)

  pub run_in_one_row : (s : Setting) (x : State T) (cie : List (CallFrameInstruction T)) (fde : Readings (CallFrameInstruction T)) → IsStateAfter s x (in_fde cie []) → (address : ℕ) → s.initial_address ≤ address → address < s.end_address →
      count_by (row_contains address) (rows_of (run_answers s x fde)) ≡ 1
  run_in_one_row s x cie fde after address low high = ap (λ l. count_by (row_contains address) (rows_of l)) (run_is s x cie fde after) ∙ in_one_row s cie fde address low high

  -- ---- the answer for an address

  same_row : (first row : Row T) → ◌≡◌ {A = Result (Row T) Error} (Ok first) (Ok row) → first ≡ row
  same_row first row e = cc

  answer_case : (address : ℕ) (first row : Row T) (l : List (Result (Row T) Error)) (b : Bool) → row_contains address first ≡ b → (answer_at address l ≡ Ok row → row_contains address row ≡ true) → cond b (Ok first) (answer_at address l) ≡ Ok row → row_contains address row ≡ true
  answer_case address first row l true h rest e = ap (row_contains address) (sym (same_row first row e)) ∙ h
  answer_case address first row l false h rest e = rest e

  pub answer_contains : (address : ℕ) (l : List (Result (Row T) Error)) (row : Row T) → answer_at address l ≡ Ok row → row_contains address row ≡ true
  answer_contains address [] row e = absurd (let wrong : ◌≡◌ {A = Result (Row T) Error} (answer_at address []) (Ok row) = e in cc)
  answer_contains address (Err d ∷ l) row e = absurd (let wrong : ◌≡◌ {A = Result (Row T) Error} (Err d) (Ok row) = e in cc)
  answer_contains address (Ok first ∷ l) row e = answer_case address first row l (row_contains address first) refl (answer_contains address l row) e

  fde_answer_step : (s : Setting) (cie fde : Readings (CallFrameInstruction T)) (address : ℕ) (o : Option Error) → cie_refusal s cie ≡ o →
      on_result (λ x. answer_at address (run_answers s x fde)) (λ e. Err e) (or_refused o (program_state s (in_fde cie.values []))) ≡ on_option (answer_at address (answers s (in_fde cie.values []) fde)) (λ e. Err e) o
  fde_answer_step s cie fde address None e = ap (answer_at address) (run_law s fde.values fde.refusal (in_fde cie.values []) (cie_accepted s cie e))
  fde_answer_step s cie fde address (Some d) e = refl

  -- the machine's answer for an address is that of the struck-out form
  pub fde_answer_law : (s : Setting) (cie fde : Readings (CallFrameInstruction T)) (address : ℕ) → run_fde_answer s cie fde address ≡ fde_answer s cie fde address
  fde_answer_law s cie fde address = ap (on_result (λ x. answer_at address (run_answers s x fde)) (λ e. Err e)) (cie_law s cie) ∙ fde_answer_step s cie fde address (cie_refusal s cie) refl

-- ---- over any storage

without_place : {A : Type 0} {is memory : Type 0} → is ⊎ (A × memory) → is ⊎ memory
without_place (inl is) = inl is
without_place (inr out) = inr out.1

at_no_place : {b : Bool} {is memory : Type 0} → b ≡ false → is ⊎ (IsTrue b × memory) → is
at_no_place never (inl is) = is
at_no_place never (inr out) = absurd (false≢true (sym never ∙ out.0))

module _ {T : Type 0} where
  ok_is_due : (row : Row T) (due : Result (Row T) Error) (place : Type 0) → (Ok row ≡ due) ⊎ (place × (◌≡◌ {A = Result (Row T) Error} (Ok row) (Err OutOfMemory))) → due ≡ Ok row
  ok_is_due row due place (inl is) = sym is
  ok_is_due row due place (inr out) = absurd (let wrong : ◌≡◌ {A = Result (Row T) Error} (Ok row) (Err OutOfMemory) = out.1 in cc)

  fde_answer_contains : (s : Setting) (cie fde : Readings (CallFrameInstruction T)) (address : ℕ) (row : Row T) (o : Option Error)
      → on_option (answer_at address (answers s (in_fde cie.values []) fde)) (λ e. Err e) o ≡ Ok row → row_contains address row ≡ true
  fde_answer_contains s cie fde address row None is = answer_contains address (answers s (in_fde cie.values []) fde) row is
  fde_answer_contains s cie fde address row (Some d) is = absurd (let wrong : ◌≡◌ {A = Result (Row T) Error} (Err d) (Ok row) = is in cc)

  inside_of : (address : ℕ) (row : Row T) → row_contains address row ≡ true → (row.start_address ≤ address) × (address < row.end_address)
  inside_of address row is = let parts = and_parts _ _ is in (leb-true row.start_address address parts.0, ltb-true address row.end_address parts.1)

module _ {T : Type 0} (allocates : MayAllocate T) (s : Setting) (cie fde : Readings (CallFrameInstruction T)) (address : ℕ) where
  -- What the machine answers is the function's answer, or `OutOfMemory` where an instruction that may allocate is reached on the way.
  pub run_is_due : (result : Result (Row T) Error) → AnswersFde allocates s cie fde address result → AnswersOrRunsOut allocates s cie fde address result
  run_is_due result runs = kept_is_due allocates s address cie fde result (answers_by_kept allocates s cie fde address result runs)

  module _ (result : Result (Row T) Error) (answered : AnswersOrRunsOut allocates s cie fde address result) where
    -- It is what the kept instructions give, where an instruction is left out whose memory is refused.
    pub by_kept : AnswersByAccepted allocates s cie fde address result
    by_kept = due_is_kept allocates s address cie fde result answered

    -- It is what a run of the machine gives, where an instruction may be refused for lack of memory.
    pub by_run : AnswersFde allocates s cie fde address result
    by_run = run_of_kept allocates s cie fde address result by_kept

    -- It is the function's answer, or `OutOfMemory`.
    pub is_due : (result ≡ fde_answer s cie fde address) ⊎ (result ≡ Err OutOfMemory)
    is_due = without_place answered

    -- It is the function's answer where nothing allocates, as over a fixed storage.
    pub is_due_where_never : AreNever allocates → result ≡ fde_answer s cie fde address
    is_due_where_never never = at_no_place (never_out allocates s never address cie fde) answered

  -- A row that is so answered contains the address.
  pub contains_it : (result : Result (Row T) Error) → AnswersOrRunsOut allocates s cie fde address result → IfOk result (λ row. (row.start_address ≤ address) × (address < row.end_address))
  contains_it (Ok row) answered = inside_of address row (fde_answer_contains s cie fde address row (cie_refusal s cie) (ok_is_due row _ _ answered))
  contains_it (Err e) answered = tt
