-- The end of the CIE's initial instructions: the state after it is the state at which the FDE's program begins.
use Rattle.std.proofs.Common.{◌≡◌, ℕ, ◌≤◌, Bool, true, false, cond, ◌&&◌, List, [], ◌∷◌, ◌++◌, map, leb, Option, Some, None, Ok, Err, refl, sym, ap, ◌∙◌, arith}
use Rattle.std.specs.List.{list_all}
use Rattle.std.specs.Option.{option_or, option_flatten}
use Rattle.std.specs.FinMap as map
use Rattle.std.proofs.lemmas.Bool.{false≢true, and_parts, and_from}
use Rattle.std.proofs.lemmas.List.{append-nil, map-append}
use Rattle.cfi_read_core.specs.declared.error.Error.TheVariants.{CfiInstructionInInvalidContext, StackFull}
use Rattle.cfi_read_core.specs.declared.instruction.CallFrameInstruction.{CallFrameInstruction}
use Rattle.cfi_read_core.specs.declared.instruction.CallFrameInstruction.TheVariants as instruction
use Rattle.cfi_state.specs.declared.table.rules.RegisterRule.{RegisterRule}
use Rattle.cfi_state.specs.Actions.{action}
use Rattle.cfi_state.specs.MachineSettings.{Setting, is_at_limit}
use Rattle.cfi_state.specs.Machine.{Parts, State, rows_held, end_of_cie}
use Rattle.cfi_state.specs.RememberedStates.{survivors, before_open}
use Rattle.cfi_state.specs.LastWriters.{last_written, written_rule, writes_rule, rule_after_toggles, final_toggles, final_rule, final_rules, final_parts}
use Rattle.cfi_state.specs.Program.{Program, in_cie, in_fde, followed_by, no_rule, parts_of, rule_count, is_stack_full, refusal, refusal_at_end, IsAccepted, nothing, one_more, cie_ended}
use Rattle.cfi_state.specs.FdeAnswers.{program_state}
use Rattle.cfi_state.specs.Cases.{or_refused}
use Rattle.cfi_state.proofs.RememberedStateCounts.{closings}
use Rattle.cfi_state.proofs.RememberedStateEnds.{is_gone, left, stays_open, fronts, map_twice}
use Rattle.cfi_state.proofs.RememberedStatePlaces.{survivors-left, before_open-fronts}
use Rattle.cfi_state.proofs.PartsEnds.{get-rules_left, len-rules_left, is_rules_left, same_parts}
use Rattle.cfi_state.proofs.Law.{accepted_closings, is_full_is, or-refused_if, state}

all_push : {A : Type 0} (p : A → Bool) (xs : List A) (x : A) → list_all p xs ≡ true → p x ≡ true → list_all p (xs ++ x ∷ []) ≡ true
all_push p [] x all here = and_from (p x) true here refl
all_push p (y ∷ xs) x all here = let parts = and_parts (p y) (list_all p xs) all in and_from (p y) _ parts.0 (all_push p xs x parts.1 here)

all_kept : {A : Type 0} (p : A → Bool) (b : Bool) (x : A) (l : List A) → p x ≡ true → list_all p l ≡ true → list_all p (cond b l (x ∷ l)) ≡ true
all_kept p true x l here all = all
all_kept p false x l here all = and_from (p x) _ here all

module _ {T : Type 0} where
  -- no restore of a register's rule, which a CIE cannot have
  abbrev pub is_no_rule_restore : CallFrameInstruction T → Bool
  is_no_rule_restore (instruction.Restore r) = false
  is_no_rule_restore _ = true

  -- ---- without such a restore the initial rules do not count

  same_written : (s : Setting) (initial : ℕ → Option (RegisterRule T)) (i : CallFrameInstruction T) → is_no_rule_restore i ≡ true → written_rule s initial (action i) ≡ written_rule s no_rule (action i)
  same_written s initial (instruction.Restore r) e = absurd (false≢true e)
  same_written s initial _ e = refl

  same_last : (s : Setting) (initial : ℕ → Option (RegisterRule T)) (ys : List (CallFrameInstruction T)) (r : ℕ) → list_all is_no_rule_restore ys ≡ true →
      last_written (λ j. cond (writes_rule r j) (Some (written_rule s initial j)) None) ys ≡ last_written (λ j. cond (writes_rule r j) (Some (written_rule s no_rule j)) None) ys
  same_last s initial [] r all = refl
  same_last s initial (y ∷ ys) r all =
      let parts = and_parts (is_no_rule_restore y) (list_all is_no_rule_restore ys) all in
      λ k. option_or (same_last s initial ys r parts.1 k) (cond (writes_rule r (action y)) (Some (same_written s initial y parts.0 k)) None)

  same_rule : (s : Setting) (initial : ℕ → Option (RegisterRule T)) (ys : List (CallFrameInstruction T)) (r : ℕ) → list_all is_no_rule_restore ys ≡ true → final_rule s initial ys r ≡ final_rule s no_rule ys r
  same_rule s initial ys r all = ap (λ o. rule_after_toggles (final_toggles ys r) (option_flatten o)) (same_last s initial ys r all)

  same_parts_left : (s : Setting) (initial : ℕ → Option (RegisterRule T)) (ys : List (CallFrameInstruction T)) → list_all is_no_rule_restore ys ≡ true → final_parts s initial ys ≡ final_parts s no_rule ys
  same_parts_left s initial ys all = same_parts _ _ refl (is_rules_left s no_rule ys (final_rules s initial ys) (λ q. get-rules_left s initial ys q ∙ same_rule s initial ys q all)) refl

  left_all : (p : CallFrameInstruction T → Bool) (xs : List (CallFrameInstruction T)) → list_all p xs ≡ true → list_all p (left xs) ≡ true
  left_all p [] all = refl
  left_all p (x ∷ xs) all = let parts = and_parts (p x) (list_all p xs) all in all_kept p (is_gone x (closings xs)) x (left xs) parts.0 (left_all p xs parts.1)

  same_survivors : (s : Setting) (initial : ℕ → Option (RegisterRule T)) (xs : List (CallFrameInstruction T)) → closings xs ≡ 0 → list_all is_no_rule_restore xs ≡ true → final_parts s initial (survivors xs) ≡ final_parts s no_rule (survivors xs)
  same_survivors s initial xs closed all = same_parts_left s initial (survivors xs) (ap (list_all is_no_rule_restore) (survivors-left xs closed) ∙ left_all is_no_rule_restore xs all)

  -- ---- the same of each list before an open remember_state

  one_or_none : {B : Type 0} (f g : List (CallFrameInstruction T) → B) (b : Bool) → f [] ≡ g [] → map f (cond b ([] ∷ []) []) ≡ map g (cond b ([] ∷ []) [])
  one_or_none f g true e = ap (λ y. y ∷ []) e
  one_or_none f g false e = refl

  map-fronts : {B : Type 0} (p : CallFrameInstruction T → Bool) (f g : List (CallFrameInstruction T) → B) (xs : List (CallFrameInstruction T)) → list_all p xs ≡ true →
      ((b : List (CallFrameInstruction T)) → closings b ≤ closings xs → list_all p b ≡ true → f b ≡ g b) → map f (fronts xs) ≡ map g (fronts xs)
  map-fronts p f g [] all same = refl
  map-fronts p f g (x ∷ xs) all same =
      let parts = and_parts (p x) (list_all p xs) all in
      let last : List (List (CallFrameInstruction T)) = cond (stays_open x (closings xs)) ([] ∷ []) [] in
      let rest : map (λ l. f (x ∷ l)) (fronts xs) ≡ map (λ l. g (x ∷ l)) (fronts xs) =
      map-fronts p (λ l. f (x ∷ l)) (λ l. g (x ∷ l)) xs parts.1 (λ b h each. same (x ∷ b) (omega arith) (and_from (p x) _ parts.0 each)) in
      map-append f (map (λ l. x ∷ l) (fronts xs)) last
      ∙ ap (λ l. l ++ map f last) (map_twice (λ l. x ∷ l) f (fronts xs) ∙ rest ∙ sym (map_twice (λ l. x ∷ l) g (fronts xs)))
      ∙ ap (λ l. map g (map (λ l. x ∷ l) (fronts xs)) ++ l) (one_or_none f g (stays_open x (closings xs)) (same [] (omega arith) refl))
      ∙ sym (map-append g (map (λ l. x ∷ l) (fronts xs)) last)

  -- ---- an accepted CIE restores no rule

  abbrev cie_of : Program T → List (CallFrameInstruction T)
  cie_of (in_cie cie) = cie
  cie_of (in_fde cie fde) = cie

  accepted_no_restore : (s : Setting) (cie : List (CallFrameInstruction T)) (i : CallFrameInstruction T) → refusal s (in_cie cie) i ≡ None → is_no_rule_restore i ≡ true
  accepted_no_restore s cie (instruction.Restore r) e = absurd (let wrong : Some CfiInstructionInInvalidContext ≡ None = e in cc)
  accepted_no_restore s cie _ e = refl

  one_more_no_restore : (s : Setting) (p : Program T) (i : CallFrameInstruction T) → refusal s p i ≡ None → list_all is_no_rule_restore (cie_of p) ≡ true → list_all is_no_rule_restore (cie_of (followed_by p i)) ≡ true
  one_more_no_restore s (in_cie cie) i e all = all_push is_no_rule_restore cie i all (accepted_no_restore s cie i e)
  one_more_no_restore s (in_fde cie fde) i e all = all

  cie_no_restore : (s : Setting) (p : Program T) → IsAccepted s p → list_all is_no_rule_restore (cie_of p) ≡ true
  cie_no_restore s p nothing = refl
  cie_no_restore s p (one_more q i a e) = one_more_no_restore s q i e (cie_no_restore s q a)
  cie_no_restore s p (cie_ended cie a e) = cie_no_restore s (in_cie cie) a

  -- ---- the law

  state_at_end : (s : Setting) (cie : List (CallFrameInstruction T)) → IsAccepted s (in_cie cie) →
      program_state s (in_fde cie []) ≡ record (program_state s (in_cie cie)) { location = s.initial_address; initial_rules = Some (parts_of s (in_cie cie)).rules }
  state_at_end s cie a =
      let closed = accepted_closings s (in_cie cie) a in
      let all = cie_no_restore s (in_cie cie) a in
      let initial : ℕ → Option (RegisterRule T) = final_rule s no_rule (survivors cie) in
      let parts_before : (ℕ → Option (RegisterRule T)) → List (CallFrameInstruction T) → Parts T = λ rules before. final_parts s rules (survivors before) in
      let parts : parts_before initial (cie ++ []) ≡ parts_before no_rule cie = ap (parts_before initial) (append-nil cie) ∙ same_survivors s initial cie closed all in
      let remembered : map (parts_before initial) (before_open (cie ++ [])) ≡ map (parts_before no_rule) (before_open cie) =
      ap (λ l. map (parts_before initial) (before_open l)) (append-nil cie)
      ∙ ap (map (parts_before initial)) (before_open-fronts cie)
      ∙ map-fronts is_no_rule_restore (parts_before initial) (parts_before no_rule) cie all (λ b h each. same_survivors s initial b (omega (arith, h, closed)) each)
      ∙ ap (map (parts_before no_rule)) (sym (before_open-fronts cie)) in
      λ k. state s.initial_address (parts k) (remembered k) (Some (final_rules s no_rule (survivors cie)))

  pub end_law : (s : Setting) (cie : List (CallFrameInstruction T)) → IsAccepted s (in_cie cie) → end_of_cie s (program_state s (in_cie cie)) ≡ or_refused (refusal_at_end s cie) (program_state s (in_fde cie []))
  end_law s cie a =
      let full : Bool = leb 2 (rule_count s (in_cie cie)) && is_stack_full s (in_cie cie) in
      let next : State T = record (program_state s (in_cie cie)) { location = s.initial_address; initial_rules = Some (parts_of s (in_cie cie)).rules } in
      let is_full : (leb 2 (map.len (parts_of s (in_cie cie)).rules) && is_at_limit s.stack_limit (rows_held (program_state s (in_cie cie)))) ≡ full = λ k. leb 2 (len-rules_left s no_rule (survivors cie) k) && is_full_is s (in_cie cie) k in
      ap (λ b. cond b (Err StackFull) (Ok next)) is_full
      ∙ ap (λ x. cond full (Err StackFull) (Ok x)) (sym (state_at_end s cie a))
      ∙ sym (or-refused_if full StackFull (program_state s (in_fde cie [])))
