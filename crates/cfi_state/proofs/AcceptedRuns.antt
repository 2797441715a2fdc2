-- The machine meets what the kept instructions answer: the other way round of `AcceptedAnswers`.
--     run_of_kept      of an FDE, for an address
use Rattle.std.proofs.Common.{◌≡◌, inl, inr, ℕ, Bool, List, [], ◌∷◌, ◌++◌, Option, Some, None, Result, Ok, Err, refl, sym, ap, subst, ◌∙◌}
use Rattle.std.specs.Result.{IsOk}
use Rattle.cfi_read_core.specs.ReadFunctions.{Readings, with_first}
use Rattle.cfi_read_core.specs.declared.error.Error.{Error}
use Rattle.cfi_read_core.specs.declared.instruction.CallFrameInstruction.{CallFrameInstruction}
use Rattle.cfi_state.specs.Row.{Row}
use Rattle.cfi_state.specs.MachineSettings.{Setting}
use Rattle.cfi_state.specs.Machine.{State, fresh_state, step}
use Rattle.cfi_state.specs.Program.{Program, in_cie, in_fde, followed_by, refusal, refusal_at_end, IsAccepted, nothing, one_more, cie_ended}
use Rattle.cfi_state.specs.FdeAnswers.{program_state}
use Rattle.cfi_state.specs.Cases.{or_refused}
use Rattle.cfi_state.specs.AllocatingOperations.{IsRefusal}
use Rattle.cfi_state.specs.UnwindTableStates.{TableState, before_last_row}
use Rattle.cfi_state.specs.MachineRuns.{NextAnswer, passes, ends_row, refuses, cannot_read, last_row, no_row, RunsInitialInstructions, cie_passes, cie_refuses, cie_cannot_read, cie_ends, cie_end_refused, FindsRow, contains_it, goes_on, is_refused, comes_to_end, AnswersFde, by_cie, by_rows}
use Rattle.cfi_state.specs.Allocation.{MayAllocate}
use Rattle.cfi_state.specs.AcceptedInstructions.{IsLeftOut, NextAcceptedAnswer, keeps, keeps_move, leaves_out, finds_unreadable, gives_last_row, gives_no_row, AcceptsInitialInstructions, cie_keeps, cie_leaves_out, cie_finds_unreadable, cie_is_kept, cie_end_left_out, AnswersByAccepted, refused_by_cie, found_in_rows}
use Rattle.cfi_state.proofs.Law.{step_law, fresh_law}
use Rattle.cfi_state.proofs.CieEnd.{end_law}

refusal_of : {A : Type 0} (allocates : Bool) (o : Option Error) (due : Result A Error) (a : A) (e : Error) → due ≡ or_refused o a → IsLeftOut allocates o e → IsRefusal allocates due e
refusal_of allocates o due a e is (inl refused) = inl (is ∙ ap (λ x. or_refused x a) refused)
refusal_of allocates o due a e is (inr wanting) = inr (wanting.0, subst IsOk (sym (is ∙ ap (λ x. or_refused x a) wanting.1)) refl, wanting.2)

module _ {T : Type 0} (allocates : MayAllocate T) (s : Setting) where
  -- the machine where it stands after the program
  abbrev after_program : TableState (Program T) T → TableState (State T) T
  after_program p = record { so_far = program_state s p.so_far; left = p.left; has_ended = p.has_ended }

  stepped : (g : Program T) (i : CallFrameInstruction T) → IsAccepted s g → refusal s g i ≡ None → step s (program_state s g) i ≡ Ok (program_state s (followed_by g i))
  stepped g i a accepted = step_law s g i a ∙ ap (λ o. or_refused o (program_state s (followed_by g i))) accepted

  next_of_kept : (p : TableState (Program T) T) (answer : Result (Option (Row T)) Error) (q : TableState (Program T) T) → NextAcceptedAnswer allocates s p answer q → IsAccepted s p.so_far
      → NextAnswer allocates s (after_program p) answer (after_program q) × IsAccepted s q.so_far
  next_of_kept p answer q (keeps g i rest answer' q' still accepted next) a =
      let more = next_of_kept (before_last_row (followed_by g i) rest) answer' q' next (one_more g i a accepted) in
      (passes (program_state s g) (program_state s (followed_by g i)) i rest answer' (after_program q') still (stepped g i a accepted) more.0, more.1)
  next_of_kept p answer q (keeps_move g i rest moves accepted) a =
      (ends_row (program_state s g) (program_state s (followed_by g i)) i rest moves (stepped g i a accepted), one_more g i a accepted)
  next_of_kept p answer q (leaves_out g i rest e out) a =
      (refuses (program_state s g) i rest e (refusal_of _ (refusal s g i) _ (program_state s (followed_by g i)) e (step_law s g i a) out), a)
  next_of_kept p answer q (finds_unreadable g e) a = (cannot_read (program_state s g) e, a)
  next_of_kept p answer q (gives_last_row g) a = (last_row (program_state s g), a)
  next_of_kept p answer q (gives_no_row g left) a = (no_row (program_state s g) left, a)

  finds_of_kept : (address : ℕ) (p : TableState (Program T) T) (result : Result (Row T) Error) → FindsRow (NextAcceptedAnswer allocates s) address p result → IsAccepted s p.so_far → FindsRow (NextAnswer allocates s) address (after_program p) result
  finds_of_kept address p result (contains_it p' q row next inside) a = contains_it (after_program p') (after_program q) row (next_of_kept p' (Ok (Some row)) q next a).0 inside
  finds_of_kept address p result (goes_on p' q row result' next outside finds) a =
      let more = next_of_kept p' (Ok (Some row)) q next a in goes_on (after_program p') (after_program q) row result' more.0 outside (finds_of_kept address q result' finds more.1)
  finds_of_kept address p result (is_refused p' q e next) a = is_refused (after_program p') (after_program q) e (next_of_kept p' (Err e) q next a).0
  finds_of_kept address p result (comes_to_end p' q next) a = comes_to_end (after_program p') (after_program q) (next_of_kept p' (Ok None) q next a).0

  -- of the program of a CIE
  abbrev RunsBehind : List (CallFrameInstruction T) → Readings (CallFrameInstruction T) → Result (List (CallFrameInstruction T)) Error → Type 0
  RunsBehind cie reads (Ok all) = RunsInitialInstructions allocates s (program_state s (in_cie cie)) reads (Ok (program_state s (in_fde all []))) × IsAccepted s (in_fde all [])
  RunsBehind cie reads (Err e) = RunsInitialInstructions allocates s (program_state s (in_cie cie)) reads (Err e)

  runs_more : (cie : List (CallFrameInstruction T)) (i : CallFrameInstruction T) (rest : Readings (CallFrameInstruction T)) (result : Result (List (CallFrameInstruction T)) Error) → IsAccepted s (in_cie cie) → refusal s (in_cie cie) i ≡ None
      → RunsBehind (cie ++ i ∷ []) rest result → RunsBehind cie (with_first i rest) result
  runs_more cie i rest (Ok all) a accepted more = (cie_passes _ _ i rest _ (stepped (in_cie cie) i a accepted) more.0, more.1)
  runs_more cie i rest (Err e) a accepted more = cie_passes _ _ i rest _ (stepped (in_cie cie) i a accepted) more

  runs_cie : (cie : List (CallFrameInstruction T)) (reads : Readings (CallFrameInstruction T)) (result : Result (List (CallFrameInstruction T)) Error) → AcceptsInitialInstructions allocates s cie reads result → IsAccepted s (in_cie cie) → RunsBehind cie reads result
  runs_cie cie reads result (cie_keeps cie' i rest result' accepted keeps_rest) a = runs_more cie' i rest result' a accepted (runs_cie (cie' ++ i ∷ []) rest result' keeps_rest (one_more (in_cie cie') i a accepted))
  runs_cie cie reads result (cie_leaves_out cie' i rest e out) a =
      cie_refuses (program_state s (in_cie cie')) i rest e (refusal_of _ (refusal s (in_cie cie') i) _ (program_state s (in_cie (cie' ++ i ∷ []))) e (step_law s (in_cie cie') i a) out)
  runs_cie cie reads result (cie_finds_unreadable cie' e) a = cie_cannot_read (program_state s (in_cie cie')) e
  runs_cie cie reads result (cie_is_kept cie' accepted) a =
      (cie_ends _ (program_state s (in_fde cie' [])) (end_law s cie' a ∙ ap (λ o. or_refused o (program_state s (in_fde cie' []))) accepted), cie_ended cie' a accepted)
  runs_cie cie reads result (cie_end_left_out cie' e out) a =
      cie_end_refused (program_state s (in_cie cie')) e (refusal_of _ (refusal_at_end s cie') _ (program_state s (in_fde cie' [])) e (end_law s cie' a) out)

  from_fresh : (reads : Readings (CallFrameInstruction T)) (result : Result (State T) Error) → RunsInitialInstructions allocates s (program_state s (in_cie [])) reads result → RunsInitialInstructions allocates s fresh_state reads result
  from_fresh reads result runs = subst (λ x. RunsInitialInstructions allocates s x reads result) (sym (fresh_law s)) runs

  pub run_of_kept : (cie fde : Readings (CallFrameInstruction T)) (address : ℕ) (result : Result (Row T) Error) → AnswersByAccepted allocates s cie fde address result → AnswersFde allocates s cie fde address result
  run_of_kept cie fde address result (refused_by_cie e keeps_all) = by_cie e (from_fresh cie (Err e) (runs_cie [] cie (Err e) keeps_all nothing))
  run_of_kept cie fde address result (found_in_rows all result' keeps_all finds) =
      let runs = runs_cie [] cie (Ok all) keeps_all nothing in
      by_rows (program_state s (in_fde all [])) result' (from_fresh cie (Ok (program_state s (in_fde all []))) runs.0) (finds_of_kept address (before_last_row (in_fde all []) fde) result' finds runs.1)
