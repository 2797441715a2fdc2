-- What allocates, and what is refused, is the same along a map of the offsets.
use Rattle.std.proofs.Common.{◌≡◌, ℕ, Bool, not, ◌&&◌, ◌||◌, leb, Option, Some, None, Result, Ok, Err, is_some, refl, sym, ap, subst, ◌∙◌, inl, inr}
use Rattle.std.specs.Option.{option_map}
use Rattle.std.specs.Result.{IsOk}
use Rattle.cfi_read_core.specs.ReaderCalls.{map_ok}
use Rattle.cfi_read_core.specs.declared.error.Error.{Error}
use Rattle.cfi_read_core.specs.declared.instruction.CallFrameInstruction.{CallFrameInstruction}
use Rattle.cfi_state.specs.Actions.{Action, gives_rule, restores_rule, toggles_sign_state, action}
use Rattle.cfi_read_core.specs.MappedInstructions.{map_instruction}
use Rattle.cfi_state.specs.MachineSettings.{Setting}
use Rattle.cfi_state.specs.Machine.{Rules, State, step, end_of_cie}
use Rattle.cfi_state.specs.AllocatingOperations.{IsRefusal}
use Rattle.cfi_state.specs.MappedStates.{map_rule, map_rules, map_state}
use Rattle.cfi_state.specs.Allocation.{adds_rule, has_initial_rule, may_allocate_for, may_allocate_at, may_allocate_at_end}
use Rattle.cfi_state.proofs.MappedMaps.{len-map_values, contains-map_values}
use Rattle.cfi_state.proofs.MappedSteps.{map_action, action-mapped, step-mapped, end_of_cie-mapped}

-- ---- one instruction

is_ok-mapped : {X Y : Type 0} (g : X → Y) (due : Result X Error) → IsOk due → IsOk (map_ok g due)
is_ok-mapped g (Ok x) ok = refl
is_ok-mapped g (Err e) ok = ok

refusal-mapped : {X Y : Type 0} (g : X → Y) (v w : Bool) (due : Result X Error) (e : Error) → w ≡ v → IsRefusal v due e → IsRefusal w (map_ok g due) e
refusal-mapped g v w due e same (inl is) = inl (ap (map_ok g) is)
refusal-mapped g v w due e same (inr wanting) = inr (same ∙ wanting.0, is_ok-mapped g due wanting.1, wanting.2)

module _ {A B : Type 0} (f : A → B) where
  -- ---- what allocates

  adds_rule-mapped : (s : Setting) (x : State A) (r : ℕ) → adds_rule s (map_state f x) r ≡ adds_rule s x r
  adds_rule-mapped s x r = ap (λ b. not (is_some s.rule_limit) && not b) (contains-map_values (map_rule f) x.parts.rules r)

  has_initial-mapped : (o : Option (Rules A)) (r : ℕ) → has_initial_rule (option_map (map_rules f) o) r ≡ has_initial_rule o r
  has_initial-mapped None r = refl
  has_initial-mapped (Some rules) r = contains-map_values (map_rule f) rules r

  wants_for-mapped : (s : Setting) (free : Bool) (x : State A) (e : Action A) → may_allocate_for s free (map_state f x) (map_action f e) ≡ may_allocate_for s free x e
  wants_for-mapped s free x (gives_rule r rule) = adds_rule-mapped s x r.0
  wants_for-mapped s free x (restores_rule r) = λ k. has_initial-mapped x.initial_rules r.0 k && adds_rule-mapped s x r.0 k
  wants_for-mapped s free x toggles_sign_state = adds_rule-mapped s x 34
  wants_for-mapped s free x _ = refl

  pub wants_at-mapped : (s : Setting) (free : Bool) (x : State A) (i : CallFrameInstruction A) → may_allocate_at s free (map_state f x) (map_instruction f i) ≡ may_allocate_at s free x i
  wants_at-mapped s free x i = ap (may_allocate_for s free (map_state f x)) (action-mapped f i) ∙ wants_for-mapped s free x (action i)

  pub wants_at_end-mapped : (s : Setting) (free : Bool) (x : State A) → may_allocate_at_end s free (map_state f x) ≡ may_allocate_at_end s free x
  wants_at_end-mapped s free x = ap (λ n. leb 1 n && not (is_some s.rule_limit || free)) (len-map_values (map_rule f) x.parts.rules)

  -- ---- one instruction, and the end of a CIE's initial instructions

  pub step_ok-mapped : (s : Setting) (x y : State A) (i : CallFrameInstruction A) → step s x i ≡ Ok y → step s (map_state f x) (map_instruction f i) ≡ Ok (map_state f y)
  step_ok-mapped s x y i is = step-mapped f s x i ∙ ap (map_ok (map_state f)) is

  pub end_ok-mapped : (s : Setting) (x y : State A) → end_of_cie s x ≡ Ok y → end_of_cie s (map_state f x) ≡ Ok (map_state f y)
  end_ok-mapped s x y is = end_of_cie-mapped f s x ∙ ap (map_ok (map_state f)) is

  -- where memory is wanted by v it is wanted by w
  step_refusal : (v w : Bool) (s : Setting) (x : State A) (i : CallFrameInstruction A) (e : Error) → w ≡ v → IsRefusal v (step s x i) e → IsRefusal w (step s (map_state f x) (map_instruction f i)) e
  step_refusal v w s x i e same refusal = subst (λ due. IsRefusal w due e) (sym (step-mapped f s x i)) (refusal-mapped (map_state f) v w (step s x i) e same refusal)

  end_refusal : (v w : Bool) (s : Setting) (x : State A) (e : Error) → w ≡ v → IsRefusal v (end_of_cie s x) e → IsRefusal w (end_of_cie s (map_state f x)) e
  end_refusal v w s x e same refusal = subst (λ due. IsRefusal w due e) (sym (end_of_cie-mapped f s x)) (refusal-mapped (map_state f) v w (end_of_cie s x) e same refusal)

  pub step_refusal-mapped : (s : Setting) (free : Bool) (x : State A) (i : CallFrameInstruction A) (e : Error) → IsRefusal (may_allocate_at s free x i) (step s x i) e →
      IsRefusal (may_allocate_at s free (map_state f x) (map_instruction f i)) (step s (map_state f x) (map_instruction f i)) e
  step_refusal-mapped s free x i e = step_refusal (may_allocate_at s free x i) _ s x i e (wants_at-mapped s free x i)

  pub end_refusal-mapped : (s : Setting) (free : Bool) (x : State A) (e : Error) → IsRefusal (may_allocate_at_end s free x) (end_of_cie s x) e → IsRefusal (may_allocate_at_end s free (map_state f x)) (end_of_cie s (map_state f x)) e
  end_refusal-mapped s free x e = end_refusal (may_allocate_at_end s free x) _ s x e (wants_at_end-mapped s free x)
