-- The rows of an FDE, a line each.
use Rattle.std.proofs.Common.{◌≡◌, ℕ, ◌+◌, ◌<◌, Bool, true, false, cond, List, [], ◌∷◌, ◌++◌, length, Option, Some, None, is_some, Result, Ok, Err, refl, sym, ap, ◌∙◌, subst, arith, append-nil}
use Rattle.std.specs.Option.{IsSome, option_map}
use Rattle.std.specs.Result.{result_transpose}
use Rattle.std.specs.Borrow.{Bor}
use Rattle.cfi_read_core.specs.ReadFunctions.{Readings}
use Rattle.cfi_read_core.specs.ReaderCalls.{map_ok}
use Rattle.cfi_read_core.specs.declared.error.Error.{Error}
use Rattle.cfi_parts.specs.Instructions.{Instruction}
use Rattle.cfi_state.specs.UnwindContexts.{ContextState}
use Rattle.cfi_state.specs.Machine.{State}
use Rattle.cfi_state.specs.MachineRuns.{NextAnswer, passes, ends_row, refuses, cannot_read, last_row, no_row}
use Rattle.cfi_state.specs.Allocation.{MayAllocate, AreNever, may_allocate}
use Rattle.cfi_state.specs.MachineSettings.{Setting}
use Rattle.cfi_state.specs.MappedStates.{map_row}
use Rattle.cfi_state.specs.AcceptedInstructions.{at_program}
use Rattle.cfi_state.specs.Program.{Program, in_fde}
use Rattle.cfi_state.specs.Row.{Row}
use Rattle.cfi_state.specs.FdeAnswers.{answers, cie_refusal, IsStateAfter}
use Rattle.cfi_state.specs.Cases.{on_option}
use Rattle.cfi_state.specs.UnwindTableStates.{TableState, before_last_row, answers_to_come, IsNext}
use Rattle.cfi_state.proofs.FixedStorage.{fixed_never}
use Rattle.cfi_state.proofs.IsStateAfter.{accepted_value, refused_error}
use Rattle.cfi_state.proofs.AcceptedAnswers.{kept_next_is, kept_cie_is}
use Rattle.cfi_state.proofs.MappedEquality.{as_it_is, same_row}
use Rattle.cfi_entry.specs.EntryInstructions.{cie_instructions, fde_instructions}
use Rattle.cfi_entry.specs.Fdes.{Fde}
use Rattle.cfi_entry.specs.Sections.{Section}
use Rattle.cfi_unwind.specs.UnwindTableCalls.{AnswersWithoutMachine, AcceptsCieProgram, LendsNextRow}
use Rattle.cfi_text.specs.Refusals.{refusal_told}
use Rattle.cfi_row_text.specs.AnswerLines.{answer_line}
use Rattle.cfi_row_text.specs.Wordings.{Wording}
use Rattle.cfi_text.specs.Texts.{Puts}
use Rattle.cfi_text.specs.declared.text.Text.{Text}
use Rattle.cfi_files.specs.FdeRows.{setting_of_fde, fde_rows, answer_lines}
use Rattle.cfi_files.specs.Sending.{HasBegun, IsSent, Sends}
use Rattle.cfi_files.proofs.SendingLemmas.{Fails, IsLeft, Passes, left_failed, left_first, left_none, left_then}

-- ---- the answers of a table

abbrev Lent : Type 0
Lent = Result (Option (Bor (Row ℕ))) Error

abbrev numbered : Lent → Result (Option (Row ℕ)) Error
numbered r = map_ok (option_map (λ row. map_row as_it_is row.now)) r

first_line : (style : Wording) (before after : List (Result (Row ℕ) Error)) (r : Lent) (answer : Result (Bor (Row ℕ)) Error) → result_transpose r ≡ Some answer → IsNext before (numbered r) after
    → answer_lines style before ≡ (answer_line style (map_ok (λ row. row.now) answer)).text ++ answer_lines style after
first_line style before after (Ok None) answer is next = cc
first_line style before after (Ok (Some row)) answer is next =
    let same : ◌≡◌ {A = Result (Bor (Row ℕ)) Error} (Ok row) answer = cc in
    ap (answer_lines style) next ∙ ap (λ x. (answer_line style (Ok x)).text ++ answer_lines style after) (same_row row.now) ∙ ap (λ a. (answer_line style (map_ok (λ x. x.now) a)).text ++ answer_lines style after) same
first_line style before after (Err e) answer is next =
    let same : ◌≡◌ {A = Result (Bor (Row ℕ)) Error} (Err e) answer = cc in
    ap (answer_lines style) next ∙ ap (λ a. (answer_line style (map_ok (λ x. x.now) a)).text ++ answer_lines style after) same

no_line : (style : Wording) (before after : List (Result (Row ℕ) Error)) (r : Lent) → result_transpose r ≡ None → IsNext before (numbered r) after → answer_lines style before ≡ []
no_line style before after (Ok None) is next = ap (answer_lines style) next.0
no_line style before after (Ok (Some row)) is next = cc
no_line style before after (Err e) is next = cc

-- how many answers are left at most
abbrev pub answers_left : TableState (State ℕ) ℕ → ℕ
answers_left p = length p.left.values + (cond (is_some p.left.refusal) 1 0 + cond p.has_ended 0 1)

fewer_left : (allocates : MayAllocate ℕ) (s : Setting) (p : TableState (State ℕ) ℕ) (answer : Result (Option (Row ℕ)) Error) (q : TableState (State ℕ) ℕ) → NextAnswer allocates s p answer q
    → (answer ≡ Ok None → ⊥) → answers_left q < answers_left p
fewer_left allocates s p answer q (passes x y i rest answer' q' still stepped next) some = let fewer = fewer_left allocates s (before_last_row y rest) answer' q' next some in omega (arith, fewer)
fewer_left allocates s p answer q (ends_row x y i rest moves stepped) some = omega arith
fewer_left allocates s p answer q (refuses x i rest e refusal) some = omega arith
fewer_left allocates s p answer q (cannot_read x e) some = omega arith
fewer_left allocates s p answer q (last_row x) some = omega arith
fewer_left allocates s p answer q (no_row x left) some = absurd (some refl)

some_answer : (r : Lent) (answer : Result (Bor (Row ℕ)) Error) → result_transpose r ≡ Some answer → numbered r ≡ Ok None → ⊥
some_answer (Ok None) answer is none = cc
some_answer (Ok (Some row)) answer is none = cc
some_answer (Err e) answer is none = cc

-- ---- what is sent

-- A table stands after a program, and the lines of the answers that are to come are what is left of the whole text.
pub record StandsAt (style : Wording) (s : Setting) (p : TableState (State ℕ) ℕ) (first now : Option (List ℕ)) (waiting : Text) (all : List ℕ) : Type 0 where
  pub program : Program ℕ
  pub after : IsStateAfter s p.so_far program
  pub left : IsLeft first now waiting (answer_lines style (answers_to_come s (at_program p program))) all

pub stands_first : (style : Wording) (s : Setting) (p : TableState (State ℕ) ℕ) (first now : Option (List ℕ)) (waiting : Text) (sent : List ℕ) (program : Program ℕ) → IsStateAfter s p.so_far program → IsSent first now waiting sent
    → StandsAt style s p first now waiting (sent ++ answer_lines style (answers_to_come s (at_program p program)))
stands_first style s p first now waiting sent program after is = record {
  program = program;
  after = after;
  left = left_first first now waiting sent (answer_lines style (answers_to_come s (at_program p program))) is;
}

module _ (t : Setting) (p q : TableState (State ℕ) ℕ) (r : Lent) (context : ContextState ℕ) (holds : Bool) (lent : LendsNextRow as_it_is t true p r q context holds) where
  pub fewer_after : (answer : Result (Bor (Row ℕ)) Error) → result_transpose r ≡ Some answer → answers_left q < answers_left p
  fewer_after answer is = fewer_left (may_allocate t true) t p (numbered r) q lent.next (some_answer r answer is)

-- over a fixed storage
module _ (s : Setting) (rules : IsSome s.rule_limit) (stack : IsSome s.stack_limit) where
  never : AreNever {T = ℕ} (may_allocate s true)
  never = fixed_never s true rules stack refl

  module _ (t : Setting) (same : t ≡ s) (p q : TableState (State ℕ) ℕ) (r : Lent) (context : ContextState ℕ) (holds : Bool) (lent : LendsNextRow as_it_is t true p r q context holds) where
    abbrev kept : AnswersWithoutMachine s true p (numbered r) q
    kept = subst (λ x. AnswersWithoutMachine x true p (numbered r) q) same lent.kept

    module _ (style : Wording) (first now : Option (List ℕ)) (waiting : Text) (all : List ℕ) (stands : StandsAt style s p first now waiting all) where
      abbrev next_program : Program ℕ
      next_program = (kept.from stands.program stands.after).0

      abbrev left : List (Result (Row ℕ) Error)
      left = answers_to_come s (at_program q next_program)

      comes : IsNext (answers_to_come s (at_program p stands.program)) (numbered r) left
      comes = kept_next_is (may_allocate s true) s never (at_program p stands.program) (numbered r) (at_program q next_program) (kept.from stands.program stands.after).1

      pub all_sent : result_transpose r ≡ None → IsSent first now waiting all
      all_sent is = left_none first now waiting _ all stands.left (no_line style _ left r is comes)

      module _ (answer : Result (Bor (Row ℕ)) Error) (is : result_transpose r ≡ Some answer) where
        abbrev part : List ℕ
        part = (answer_line style (map_ok (λ row. row.now) answer)).text

        line_left : IsLeft first now waiting (part ++ answer_lines style left) all
        line_left = subst (λ (xs : List ℕ). IsLeft first now waiting xs all) (first_line style _ left r answer is comes) stands.left

        pub line_sent : (newer : Option (List ℕ)) (waits : Text) → Passes waiting waits now newer part → StandsAt style s q first newer waits all
        line_sent newer waits more = record {
          program = next_program;
          after = (kept.from stands.program stands.after).2;
          left = left_then first now newer waiting waits part (answer_lines style left) all line_left more;
        }

        pub line_failed : (newer : Option (List ℕ)) → Fails waiting now newer part → HasBegun first newer all
        line_failed newer fails = left_failed first now newer waiting part (answer_lines style left) all line_left fails

-- ---- the rows of an FDE

module _ (fde : Fde) (section : Section) where
  abbrev cie : Readings Instruction
  cie = cie_instructions section fde.cie

  never_of_fde : AreNever {T = ℕ} (may_allocate (setting_of_fde fde) true)
  never_of_fde = never (setting_of_fde fde) refl refl

  -- what holds of the lines of a table that stands after the CIE's program
  pub rows_are : (P : List ℕ → Type 0) (style : Wording) (t : Setting) (p : TableState (State ℕ) ℕ) → t ≡ setting_of_fde fde
      → AcceptsCieProgram (setting_of_fde fde) true cie (Ok p.so_far) → p.left ≡ fde_instructions section fde → p.has_ended ≡ false
      → ((program : Program ℕ) → IsStateAfter t p.so_far program → P (answer_lines style (answers_to_come t (at_program p program)))) → P (answer_lines style (fde_rows section fde))
  rows_are P style t p same (all, keeps, stands) is runs holds =
      let accepted = accepted_value (cie_refusal (setting_of_fde fde) cie) cie.values all (kept_cie_is (may_allocate (setting_of_fde fde) true) (setting_of_fde fde) never_of_fde cie (Ok all) keeps) in
      let rows : fde_rows section fde ≡ answers_to_come (setting_of_fde fde) (at_program p (in_fde all [])) =
      ap (on_option (answers (setting_of_fde fde) (in_fde cie.values []) (fde_instructions section fde)) (λ e. Err e ∷ [])) accepted.0
      ∙ (λ k. cond (sym runs k) [] (answers (setting_of_fde fde) (in_fde (sym accepted.1 k) []) (sym is k))) in
      let each = subst (λ s. (program : Program ℕ) → IsStateAfter s p.so_far program → P (answer_lines style (answers_to_come s (at_program p program)))) same holds in
      subst (λ xs. P (answer_lines style xs)) (sym rows) (each (in_fde all []) stands)

  pub refused_rows : (style : Wording) (e : Error) → AcceptsCieProgram (setting_of_fde fde) true cie (Err e) → (refusal_told style.format e).text ≡ answer_lines style (fde_rows section fde)
  refused_rows style e keeps =
      let refused = refused_error (cie_refusal (setting_of_fde fde) cie) cie.values e (kept_cie_is (may_allocate (setting_of_fde fde) true) (setting_of_fde fde) never_of_fde cie (Err e) keeps) in
      sym (append-nil (refusal_told style.format e).text)
      ∙ ap (λ o. answer_lines style (on_option (answers (setting_of_fde fde) (in_fde cie.values []) (fde_instructions section fde)) (λ d. Err d ∷ []) o)) (sym refused)
