-- Over a fixed storage no instruction runs out of memory.
use Rattle.std.proofs.Common.{◌≡◌, ℕ, Bool, true, false, not, ◌&&◌, ◌||◌, leb, refl, ap, ◌∙◌}
use Rattle.std.specs.Bool.{IsTrue}
use Rattle.std.specs.Option.{IsSome}
use Rattle.std.specs.FinMap as map
use Rattle.cfi_state.specs.Actions.{Action, gives_rule, restores_rule, toggles_sign_state, remembers_state, action}
use Rattle.cfi_state.specs.MachineSettings.{Setting, ra_sign_state}
use Rattle.cfi_state.specs.Machine.{State}
use Rattle.cfi_state.specs.Allocation.{adds_rule, copies_row, has_initial_rule, may_allocate_for}
use Rattle.cfi_state.specs.Allocation.{AreNever, may_allocate}

and_false : (b : Bool) → (b && false) ≡ false
and_false true = refl
and_false false = refl

module _ (s : Setting) (free : Bool) (rules : IsSome s.rule_limit) (stack : IsSome s.stack_limit) (copies : IsTrue free) where
  no_copies : copies_row s free ≡ false
  no_copies = λ k. not (stack k && copies k)

  module _ {T : Type 0} where
    no_rules_added : (x : State T) (r : ℕ) → adds_rule s x r ≡ false
    no_rules_added x r = ap (λ b. not b && not (map.contains_key x.parts.rules r)) rules

    never_for : (x : State T) (e : Action T) → may_allocate_for s free x e ≡ false
    never_for x (gives_rule r rule) = no_rules_added x r.0
    never_for x (restores_rule r) = ap (λ b. has_initial_rule x.initial_rules r.0 && b) (no_rules_added x r.0) ∙ and_false _
    never_for x toggles_sign_state = no_rules_added x ra_sign_state
    never_for x remembers_state = no_copies
    never_for x _ = refl

    pub fixed_never : AreNever (may_allocate {T = T} s free)
    fixed_never = record { at = λ x i. never_for x (action i); at_end = λ x. ap (λ b. leb 1 (map.len x.parts.rules) && not (b || free)) rules ∙ and_false _ }
