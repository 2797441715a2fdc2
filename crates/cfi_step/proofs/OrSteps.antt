-- The step in the first of two sections that has an FDE for the address.
use Rattle.std.proofs.Common.{◌≡◌, ◌≢◌, ℕ, List, Option, Some, None, Result, IfSome, refl, subst, inl, inr}
use Rattle.cfi_expression.specs.declared.error.FrameError.{FrameError}
use Rattle.cfi_step.specs.declared.module.DebugTable.{DebugTable}
use Rattle.cfi_step.specs.declared.step.Caller.{Caller}
use Rattle.cfi_step.specs.Modules.{IsStepOr, no_fde}

module _ {R : Type 0} (First : Result Caller FrameError → List (Option ℕ) → Type 0) (Other : DebugTable R → Result Caller FrameError → List (Option ℕ) → Type 0) where
  -- where the first section has an FDE, or another error
  pub or_first : (debug : Option (DebugTable R)) (result : Result Caller FrameError) (caller : List (Option ℕ)) → result ≢ no_fde → First result caller → IsStepOr debug First Other result caller
  or_first None result caller found first = first
  or_first (Some other) result caller found first = (result, caller, first, inr (found, refl, refl))

  -- where it has none
  pub or_other : (debug : Option (DebugTable R)) (given : DebugTable R) (first result : Result Caller FrameError) (left caller : List (Option ℕ)) → debug ≡ Some given → first ≡ no_fde → First first left
      → Other given result caller → IsStepOr debug First Other result caller
  or_other None given first result left caller is none by other = absurd (cc)
  or_other (Some debug) given first result left caller is none by other =
      let same : given ≡ debug = cc in
      (first, left, by, inl (none, subst (λ (d : DebugTable R). Other d result caller) same other))

-- ---- by compiled tables, for an address that is known under two names

module _ {A R : Type 0} (First : A → ℕ → Result Caller FrameError → List (Option ℕ) → Type 0) (Other : ℕ → DebugTable R → Result Caller FrameError → List (Option ℕ) → Type 0) (debug : Option (DebugTable R)) (a b : ℕ) (at : a ≡ b) where
  pub some_first : (o : Option A) (result : Result Caller FrameError) (caller : List (Option ℕ)) → result ≢ no_fde → IfSome o (λ t. First t a result caller) → IfSome o (λ t. IsStepOr debug (First t b) (Other b) result caller)
  some_first None result caller found is = tt
  some_first (Some t) result caller found is = or_first (First t b) (Other b) debug result caller found (subst (λ (n : ℕ). First t n result caller) at is)

  pub some_other : (o : Option A) (given : DebugTable R) (first result : Result Caller FrameError) (left caller : List (Option ℕ)) → debug ≡ Some given → first ≡ no_fde → IfSome o (λ t. First t a first left)
      → Other a given result caller → IfSome o (λ t. IsStepOr debug (First t b) (Other b) result caller)
  some_other None given first result left caller is none by other = tt
  some_other (Some t) given first result left caller is none by other =
      or_other (First t b) (Other b) debug given first result left caller is none (subst (λ (n : ℕ). First t n first left) at by) (subst (λ (n : ℕ). Other n given result caller) at other)
