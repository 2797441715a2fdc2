-- The frames of a walk, one after the other.
use Rattle.std.proofs.Common.{◌≡◌, ◌<◌, ◌+◌, ℕ, List, [], ◌∷◌, ◌++◌, length, take, drop, Option, Some, None, Result, Ok, Err, OnErr, refl, sym, ap, ◌∙◌, subst, inl, inr, arith}
use Rattle.std.specs.Prelude.{slice_set}
use Rattle.std.proofs.lemmas.List.{take_more_set, append_assoc, append-nil, drop-set, drop-set-add, drop-set-lt}
use Rattle.cfi_expression.specs.declared.error.FrameError.{FrameError}
use Rattle.cfi_step.specs.declared.step.Caller.{Caller}
use Rattle.cfi_step.specs.declared.walk.Start.{Start}
use Rattle.cfi_step.specs.declared.walk.End.{End}
use Rattle.cfi_step.specs.declared.walk.End.TheVariants.{NoModule, NoRoom}
use Rattle.cfi_step.specs.Walks.{State, IsStepOf, IsWalkBy, caller_pc, checked, resumed, resumed_at}

-- ---- what is not written

same_rest : {A : Type 0} (y : A) (xs ys : List A) → y ∷ xs ≡ y ∷ ys → xs ≡ ys
same_rest y xs ys h = cc

-- one more is written
pub left : {A : Type 0} (now old : List A) (n : ℕ) (y : A) → n < length now → n < length old → drop n now ≡ drop n old → drop (n + 1) (slice_set now n y) ≡ drop (n + 1) old
left {A} now old n y inside inside_old same =
    let here : n + 0 ≡ n = omega arith in
    let at : (l : List A) (a : A) → drop n (slice_set l n a) ≡ slice_set (drop n l) 0 a = λ l a. subst (λ (k : ℕ). drop n (slice_set l k a) ≡ slice_set (drop n l) 0 a) here (drop-set-add n l 0 a) in
    drop-set-lt (n + 1) now n y (omega arith)
    ∙ same_rest y (drop (n + 1) now) (drop (n + 1) old)
    (sym (drop-set now n y inside) ∙ (at now y ∙ (ap (λ l. slice_set l 0 y) same ∙ (sym (at old y) ∙ drop-set old n y inside_old))))

-- ---- steps

module _ {A : Type 0} (IsStepIn : A → State → Result Caller FrameError → List (Option ℕ) → Type 0) (s : State) (modules : Option A) where
  pub in_no_module : None ≡ modules → IsStepOf IsStepIn modules s (Err NoModule) s.caller
  in_no_module nowhere = subst (λ (o : Option A). IsStepOf IsStepIn o s (Err NoModule) s.caller) nowhere (refl, refl)

  pub in_module : (loaded : A) (step : Result Caller FrameError) (result : Result Caller End) (caller : List (Option ℕ)) → Some loaded ≡ modules
      → IsStepIn loaded s step caller → length caller ≡ length s.caller → OnErr step (caller ≡ s.caller) → result ≡ checked s.at step → IsStepOf IsStepIn modules s result caller
  in_module loaded step result caller there steps room unwritten checks =
      subst (λ (o : Option A). IsStepOf IsStepIn o s result caller) there (step, steps, room, unwritten, checks)

-- ---- why there are no more

ends_otherwise : (c : Caller) (pc : Option ℕ) (end : End) → Err end ≡ resumed_at c pc → end ≡ NoRoom → ⊥
ends_otherwise c None end is no_room = absurd (cc)
ends_otherwise c (Some pc) end is no_room = absurd (cc)

-- a walk that a step ends doesn't end for want of room
pub has_room : (step : Result Caller End) → (step ≡ Err NoRoom → ⊥) → (end : End) → Err end ≡ resumed step → end ≡ NoRoom → ⊥
has_room (Ok c) room end is no_room = ends_otherwise c (caller_pc c) end is no_room
has_room (Err e) room end is no_room =
    let same : e ≡ end = cc in
    room (ap (λ (x : End). Err x) (same ∙ no_room))

-- ---- frames

module _ {F : Type 0} (written : Start → Result Caller End → F) (Steps : State → Result Caller End → List (Option ℕ) → Type 0) where
  abbrev Walks : State → List F → End → List (Option ℕ) → List (Option ℕ) → Type 0
  Walks = IsWalkBy written Steps

  -- whatever is a walk from s is one from the first frame after those that are written
  abbrev pub Follows : State → State → List F → Type 0
  Follows first s done =
      (rest : List F) (end : End) (registers caller : List (Option ℕ)) → Walks s rest end registers caller → Walks first (done ++ rest) end registers caller

  -- when there is no more room
  pub all_written : (first s : State) (frames : List F) (n last : ℕ) → n ≡ last → Follows first s (take n frames) → Walks first (take last frames) NoRoom s.registers s.caller
  all_written first s frames n last is before =
      subst (λ (k : ℕ). Walks first (take k frames) NoRoom s.registers s.caller) is
      (subst (λ (fs : List F). Walks first fs NoRoom s.registers s.caller) (append-nil (take n frames))
      (before [] NoRoom s.registers s.caller (refl, refl, refl)))

  module _ (first : State) (s : State) (frames : List F) (n : ℕ) (before : Follows first s (take n frames)) where
    module _ (step : Result Caller End) (caller : List (Option ℕ)) (f : F) (inside : n < length frames) (steps : Steps s step caller) (is_written : f ≡ written s.at step) where
      joined : (rest : List F) → take n frames ++ (f ∷ rest) ≡ take (n + 1) (slice_set frames n f) ++ rest
      joined rest = sym (ap (λ (fs : List F). fs ++ rest) (take_more_set frames n f inside) ∙ append_assoc (take n frames) (f ∷ []) rest)

      pub one_more : (next : Start) (registers : List (Option ℕ)) → Ok next ≡ resumed step → registers ≡ caller →
          Follows first (record { at = next; registers = registers; caller = caller }) (take (n + 1) (slice_set frames n f))
      one_more next registers is same rest end left_registers left_caller walks =
          subst (λ (fs : List F). Walks first fs end left_registers left_caller) (joined rest)
          (before (f ∷ rest) end left_registers left_caller (
            step,
            caller,
            steps,
            is_written,
            inr (
              next,
              sym is,
              subst (λ (r : List (Option ℕ)). Walks (record { at = next; registers = r; caller = caller }) rest end left_registers left_caller) same walks,
            ),
          ))

      pub one_last : (end : End) → Err end ≡ resumed step → Walks first (take (n + 1) (slice_set frames n f)) end s.registers caller
      one_last end is =
          subst (λ (fs : List F). Walks first fs end s.registers caller) (sym (take_more_set frames n f inside))
          (before (f ∷ []) end s.registers caller (step, caller, steps, is_written, inl (refl, sym is, refl, refl)))
