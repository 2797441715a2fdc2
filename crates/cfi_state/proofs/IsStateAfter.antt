-- Runs of the machine over the programs of a CIE and an FDE meet the rows and refusals of the struck-out form.
use Rattle.std.proofs.Common.{◌≡◌, List, [], ◌∷◌, ◌++◌, Option, Some, None, Result, Ok, Err, refl, sym, ap, subst, ◌∙◌, append_assoc}
use Rattle.std.specs.Option.{option_or}
use Rattle.std.proofs.lemmas.List.{append-nil}
use Rattle.cfi_read_core.specs.ReadFunctions.{Readings}
use Rattle.cfi_read_core.specs.declared.error.Error.{Error}
use Rattle.cfi_read_core.specs.declared.instruction.CallFrameInstruction.{CallFrameInstruction}
use Rattle.cfi_state.specs.MachineSettings.{Setting}
use Rattle.cfi_state.specs.Machine.{State, fresh_state, step, end_of_cie}
use Rattle.cfi_state.specs.Program.{Program, in_cie, in_fde, followed_by, refusal, refusal_at_end, IsAccepted, nothing, one_more, cie_ended}
use Rattle.cfi_state.specs.FdeAnswers.{rows_ended, row_ended, answers_of, first_refusal, cie_refusal, run_answers_of, run_all, run_cie, program_state, IsStateAfter}
use Rattle.cfi_state.specs.Cases.{or_refused, on_result, on_option}
use Rattle.cfi_state.proofs.Law.{step_law, fresh_law}
use Rattle.cfi_state.proofs.CieEnd.{end_law}

module _ {A : Type 0} where
  or_None_first : (o p : Option A) → option_or o p ≡ None → o ≡ None
  or_None_first None p e = refl
  or_None_first (Some a) p e = e

  or_None_second : (o p : Option A) → option_or o p ≡ None → p ≡ None
  or_None_second None p e = e
  or_None_second (Some a) p e = absurd (let wrong : Some a ≡ None = e in cc)

  pub refused_error : (o : Option Error) (a : A) (e : Error) → or_refused o a ≡ Err e → o ≡ Some e
  refused_error None a e is = absurd (let wrong : Ok a ≡ Err e = is in cc)
  refused_error (Some d) a e is = let same : ◌≡◌ {A = Result A Error} (Err d) (Err e) = is in cc

  pub accepted_value : (o : Option Error) (a b : A) → or_refused o a ≡ Ok b → (o ≡ None) × (b ≡ a)
  accepted_value None a b is = (refl, (let same : ◌≡◌ {A = Result A Error} (Ok b) (Ok a) = sym is in cc))
  accepted_value (Some d) a b is = absurd (let wrong : Err d ≡ Ok b = is in cc)

module _ {T : Type 0} where
  -- ---- one step of a state that stands after a program

  pub stands_next : (s : Setting) (x y : State T) (p : Program T) (i : CallFrameInstruction T) → IsStateAfter s x p → step s x i ≡ Ok y → IsStateAfter s y (followed_by p i)
  stands_next s x y p i (a, is) stepped =
      let parts = accepted_value (refusal s p i) (program_state s (followed_by p i)) y (sym (step_law s p i a) ∙ ap (λ z. step s z i) (sym is) ∙ stepped) in
      (one_more p i a parts.0, parts.1)

  pub stands_refused : (s : Setting) (x : State T) (p : Program T) (i : CallFrameInstruction T) (e : Error) → IsStateAfter s x p → step s x i ≡ Err e → refusal s p i ≡ Some e
  stands_refused s x p i e (a, is) stepped = refused_error (refusal s p i) (program_state s (followed_by p i)) e (sym (step_law s p i a) ∙ ap (λ z. step s z i) (sym is) ∙ stepped)

  pub stands_at_end : (s : Setting) (x y : State T) (cie : List (CallFrameInstruction T)) → IsStateAfter s x (in_cie cie) → end_of_cie s x ≡ Ok y → IsStateAfter s y (in_fde cie [])
  stands_at_end s x y cie (a, is) ended =
      let parts = accepted_value (refusal_at_end s cie) (program_state s (in_fde cie [])) y (sym (end_law s cie a) ∙ ap (end_of_cie s) (sym is) ∙ ended) in
      (cie_ended cie a parts.0, parts.1)

  pub stands_fresh : (s : Setting) → IsStateAfter s (fresh_state {T = T}) (in_cie [])
  stands_fresh s = (nothing, fresh_law s)

  -- ---- the answers of an FDE

  answer_step : (s : Setting) (p : Program T) (i : CallFrameInstruction T) (xs : List (CallFrameInstruction T)) (unread o : Option Error) → IsAccepted s p → refusal s p i ≡ o →
      ((q : Program T) → IsAccepted s q → run_answers_of s (program_state s q) xs unread ≡ answers_of s q xs unread) →
      on_result (λ y. row_ended (program_state s p) i y ++ run_answers_of s y xs unread) (λ e. Err e ∷ run_answers_of s (program_state s p) xs unread) (or_refused o (program_state s (followed_by p i)))
      ≡ on_option (rows_ended s p i ++ answers_of s (followed_by p i) xs unread) (λ e. Err e ∷ answers_of s p xs unread) o
  answer_step s p i xs unread None a e rest = ap (λ l. rows_ended s p i ++ l) (rest (followed_by p i) (one_more p i a e))
  answer_step s p i xs unread (Some d) a e rest = ap (λ l. Err d ∷ l) (rest p a)

  pub run_law : (s : Setting) (xs : List (CallFrameInstruction T)) (unread : Option Error) (p : Program T) → IsAccepted s p → run_answers_of s (program_state s p) xs unread ≡ answers_of s p xs unread
  run_law s [] unread p a = refl
  run_law s (i ∷ xs) unread p a =
      ap (on_result (λ y. row_ended (program_state s p) i y ++ run_answers_of s y xs unread) (λ e. Err e ∷ run_answers_of s (program_state s p) xs unread)) (step_law s p i a)
      ∙ answer_step s p i xs unread (refusal s p i) a refl (run_law s xs unread)

  -- ---- the CIE's initial instructions

  accepted_all : (s : Setting) (xs cie : List (CallFrameInstruction T)) → IsAccepted s (in_cie cie) → first_refusal s (in_cie cie) xs ≡ None → IsAccepted s (in_cie (cie ++ xs))
  accepted_all s [] cie a e = subst (λ l. IsAccepted s (in_cie l)) (sym (append-nil cie)) a
  accepted_all s (i ∷ xs) cie a e =
      subst (λ l. IsAccepted s (in_cie l)) (append_assoc cie (i ∷ []) xs)
      (accepted_all s xs (cie ++ i ∷ []) (one_more (in_cie cie) i a (or_None_first (refusal s (in_cie cie) i) _ e)) (or_None_second (refusal s (in_cie cie) i) _ e))

  run_all_step : (s : Setting) (cie : List (CallFrameInstruction T)) (i : CallFrameInstruction T) (xs : List (CallFrameInstruction T)) (o : Option Error) → IsAccepted s (in_cie cie) → refusal s (in_cie cie) i ≡ o →
      ((l : List (CallFrameInstruction T)) → IsAccepted s (in_cie l) → run_all s (program_state s (in_cie l)) xs ≡ or_refused (first_refusal s (in_cie l) xs) (program_state s (in_cie (l ++ xs)))) →
      on_result (λ y. run_all s y xs) (λ e. Err e) (or_refused o (program_state s (in_cie (cie ++ i ∷ [])))) ≡ or_refused (option_or o (first_refusal s (in_cie (cie ++ i ∷ [])) xs)) (program_state s (in_cie ((cie ++ i ∷ []) ++ xs)))
  run_all_step s cie i xs None a e rest = rest (cie ++ i ∷ []) (one_more (in_cie cie) i a e)
  run_all_step s cie i xs (Some d) a e rest = refl

  run_all_law : (s : Setting) (xs cie : List (CallFrameInstruction T)) → IsAccepted s (in_cie cie) → run_all s (program_state s (in_cie cie)) xs ≡ or_refused (first_refusal s (in_cie cie) xs) (program_state s (in_cie (cie ++ xs)))
  run_all_law s [] cie a = ap (λ l. Ok (program_state s (in_cie l))) (sym (append-nil cie))
  run_all_law s (i ∷ xs) cie a =
      ap (on_result (λ y. run_all s y xs) (λ e. Err e)) (step_law s (in_cie cie) i a)
      ∙ run_all_step s cie i xs (refusal s (in_cie cie) i) a refl (run_all_law s xs)
      ∙ ap (λ l. or_refused (first_refusal s (in_cie cie) (i ∷ xs)) (program_state s (in_cie l))) (append_assoc cie (i ∷ []) xs)

  cie_step : (s : Setting) (cie : List (CallFrameInstruction T)) (o unread : Option Error) → first_refusal s (in_cie []) cie ≡ o →
      on_result (λ x. on_option (end_of_cie s x) (λ e. Err e) unread) (λ e. Err e) (or_refused o (program_state s (in_cie cie))) ≡ or_refused (option_or o (option_or unread (refusal_at_end s cie))) (program_state s (in_fde cie []))
  cie_step s cie (Some d) unread e = refl
  cie_step s cie None (Some d) e = refl
  cie_step s cie None None e = end_law s cie (accepted_all s cie [] nothing e)

  pub cie_law : (s : Setting) (reads : Readings (CallFrameInstruction T)) → run_cie s reads ≡ or_refused (cie_refusal s reads) (program_state s (in_fde reads.values []))
  cie_law s reads =
      ap (on_result (λ x. on_option (end_of_cie s x) (λ e. Err e) reads.refusal) (λ e. Err e)) (run_all_law s reads.values [] nothing)
      ∙ cie_step s reads.values (first_refusal s (in_cie []) reads.values) reads.refusal refl

  -- after a CIE's initial instructions that are not refused, the machine stands
  pub cie_accepted : (s : Setting) (reads : Readings (CallFrameInstruction T)) → cie_refusal s reads ≡ None → IsAccepted s (in_fde reads.values [])
  cie_accepted s reads e =
      let first = or_None_first (first_refusal s (in_cie []) reads.values) _ e in
      let rest = or_None_second (first_refusal s (in_cie []) reads.values) _ e in
      cie_ended reads.values (accepted_all s reads.values [] nothing first) (or_None_second reads.refusal _ rest)
