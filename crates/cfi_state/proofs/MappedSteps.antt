-- The machine does the same along a map of the offsets.
use Rattle.std.proofs.Common.{◌≡◌, ℕ, ◌+◌, Bool, true, false, cond, not, ◌&&◌, leb, ℤ, List, [], ◌∷◌, map, Option, Some, None, Ok, Err, bit_xor, refl, sym, ap, ◌∙◌}
use Rattle.std.specs.Option.{option_map}
use Rattle.std.specs.FinMap as map
use Rattle.std.proofs.lemmas.List.{length-map}
use Rattle.cfi_read_core.specs.ReaderCalls.{map_ok}
use Rattle.cfi_read_core.specs.declared.common.Register.{Register}
use Rattle.cfi_read_core.specs.declared.error.Error.{Error}
use Rattle.cfi_read_core.specs.declared.error.Error.TheVariants.{StackFull, TooManyRegisterRules}
use Rattle.cfi_read_core.specs.declared.instruction.CallFrameInstruction.{CallFrameInstruction}
use Rattle.cfi_read_core.specs.declared.instruction.CallFrameInstruction.TheVariants as instruction
use Rattle.cfi_state.specs.declared.table.rules.CfaRule.{CfaRule}
use Rattle.cfi_state.specs.declared.table.rules.CfaRule.TheVariants as cfa
use Rattle.cfi_state.specs.declared.table.rules.RegisterRule.{RegisterRule}
use Rattle.cfi_state.specs.declared.table.rules.RegisterRule.TheVariants as rule
use Rattle.cfi_state.specs.MachineSettings.{Setting, ra_sign_state, is_at_limit, moves, is_move}
use Rattle.cfi_state.specs.Actions.{Action, sets_location, advances_location, defines_cfa, defines_cfa_register, defines_cfa_offset, defines_cfa_expression, gives_rule, restores_rule, toggles_sign_state, remembers_state, restores_state, sets_args_size, changes_nothing, action}
use Rattle.cfi_state.specs.Machine.{Rules, Parts, State, fresh_state, copies_held, rows_held, with_rules, set_rule, set_or_remove_rule, restore_rule, set_cfa_register, set_cfa_offset, toggle, restore_state, perform, step, end_of_cie}
use Rattle.cfi_read_core.specs.MappedInstructions.{map_expression, map_instruction}
use Rattle.cfi_state.specs.MappedStates.{map_cfa, map_rule, map_rules, map_parts, map_state}
use Rattle.cfi_state.proofs.MappedMaps.{get-map_values, len-map_values, contains-map_values, insert-map_values, remove-map_values, empty-map_values}

map_ok-cond : {A B : Type 0} (g : A → B) (b : Bool) (e : Error) (x : A) → map_ok g (cond b (Err e) (Ok x)) ≡ cond b (Err e) (Ok (g x))
map_ok-cond g true e x = refl
map_ok-cond g false e x = refl

map_ok-cond_not : {A B : Type 0} (g : A → B) (b : Bool) (e : Error) (x : A) → map_ok g (cond b (Ok x) (Err e)) ≡ cond b (Ok (g x)) (Err e)
map_ok-cond_not g true e x = refl
map_ok-cond_not g false e x = refl

module _ {A B : Type 0} (f : A → B) where
  abbrev mapped : State A → State B
  mapped = map_state f

  set_rule-mapped : (s : Setting) (x : State A) (r : ℕ) (v : RegisterRule A) → set_rule s (mapped x) r (map_rule f v) ≡ map_ok mapped (set_rule s x r v)
  set_rule-mapped s x r v =
      let full : Bool = not (map.contains_key x.parts.rules r) && is_at_limit s.rule_limit (map.len x.parts.rules) in
      (λ i. cond (not (contains-map_values (map_rule f) x.parts.rules r i) && is_at_limit s.rule_limit (len-map_values (map_rule f) x.parts.rules i)) (Err TooManyRegisterRules)
      (Ok (with_rules (mapped x) (sym (insert-map_values (map_rule f) x.parts.rules r v) i))))
      ∙ sym (map_ok-cond mapped full TooManyRegisterRules (with_rules x (map.insert x.parts.rules r v)))

  set_or_remove-mapped : (s : Setting) (x : State A) (r : ℕ) (o : Option (RegisterRule A)) → set_or_remove_rule s (mapped x) r (option_map (map_rule f) o) ≡ map_ok mapped (set_or_remove_rule s x r o)
  set_or_remove-mapped s x r None = λ i. Ok (with_rules (mapped x) (sym (remove-map_values (map_rule f) x.parts.rules r) i))
  set_or_remove-mapped s x r (Some v) = set_rule-mapped s x r v

  restore_rule-mapped : (s : Setting) (x : State A) (r : ℕ) (o : Option (Rules A)) → restore_rule s (mapped x) r (option_map (map_rules f) o) ≡ map_ok mapped (restore_rule s x r o)
  restore_rule-mapped s x r None = refl
  restore_rule-mapped s x r (Some initial) = ap (set_or_remove_rule s (mapped x) r) (get-map_values (map_rule f) initial r) ∙ set_or_remove-mapped s x r (map.get initial r)

  cfa_register-mapped : (x : State A) (r : Register) (c : CfaRule A) → set_cfa_register (mapped x) r (map_cfa f c) ≡ map_ok mapped (set_cfa_register x r c)
  cfa_register-mapped x r (cfa.RegisterAndOffset q offset) = refl
  cfa_register-mapped x r (cfa.Expression e) = refl

  cfa_offset-mapped : (x : State A) (offset : ℤ) (c : CfaRule A) → set_cfa_offset (mapped x) offset (map_cfa f c) ≡ map_ok mapped (set_cfa_offset x offset c)
  cfa_offset-mapped x offset (cfa.RegisterAndOffset q before) = refl
  cfa_offset-mapped x offset (cfa.Expression e) = refl

  toggle-mapped : (s : Setting) (x : State A) (o : Option (RegisterRule A)) → toggle s (mapped x) (option_map (map_rule f) o) ≡ map_ok mapped (toggle s x o)
  toggle-mapped s x None = set_rule-mapped s x ra_sign_state (rule.Constant 1)
  toggle-mapped s x (Some (rule.Constant value)) = set_rule-mapped s x ra_sign_state (rule.Constant (bit_xor value 1))
  toggle-mapped s x (Some _) = refl

  restore_state-mapped : (x : State A) (remembered : List (Parts A)) → restore_state (mapped x) (map (map_parts f) remembered) ≡ map_ok mapped (restore_state x remembered)
  restore_state-mapped x [] = refl
  restore_state-mapped x (parts ∷ remembered) = refl

  copies-mapped : (o : Option (Rules A)) → copies_held (option_map (map_rules f) o) ≡ copies_held o
  copies-mapped None = refl
  copies-mapped (Some rules) = ap (λ n. cond (leb 2 n) 1 0) (len-map_values (map_rule f) rules)

  pub rows_held-mapped : (x : State A) → rows_held (mapped x) ≡ rows_held x
  rows_held-mapped x = λ i. 1 + length-map x.remembered (map_parts f) i + copies-mapped x.initial_rules i

  -- ---- one instruction

  abbrev pub map_action : Action A → Action B
  map_action (sets_location address) = sets_location address
  map_action (advances_location delta) = advances_location delta
  map_action (defines_cfa r offset) = defines_cfa r offset
  map_action (defines_cfa_register r) = defines_cfa_register r
  map_action (defines_cfa_offset offset) = defines_cfa_offset offset
  map_action (defines_cfa_expression e) = defines_cfa_expression (map_expression f e)
  map_action (gives_rule r rule) = gives_rule r (λ factor. map_rule f (rule factor))
  map_action (restores_rule r) = restores_rule r
  map_action toggles_sign_state = toggles_sign_state
  map_action remembers_state = remembers_state
  map_action restores_state = restores_state
  map_action (sets_args_size size) = sets_args_size size
  map_action changes_nothing = changes_nothing

  pub action-mapped : (i : CallFrameInstruction A) → action (map_instruction f i) ≡ map_action (action i)
  action-mapped instruction.Nop = refl
  action-mapped _ = refl

  perform-mapped : (s : Setting) (x : State A) (e : Action A) → perform s (mapped x) (map_action e) ≡ map_ok mapped (perform s x e)
  perform-mapped s x (sets_location address) = sym (map_ok-cond mapped _ _ _)
  perform-mapped s x (advances_location delta) = sym (map_ok-cond_not mapped _ _ _)
  perform-mapped s x (defines_cfa_register r) = cfa_register-mapped x r x.parts.cfa
  perform-mapped s x (defines_cfa_offset offset) = cfa_offset-mapped x _ x.parts.cfa
  perform-mapped s x (gives_rule r rule) = set_rule-mapped s x _ (rule s.data_alignment_factor)
  perform-mapped s x (restores_rule r) = restore_rule-mapped s x r.0 x.initial_rules
  perform-mapped s x toggles_sign_state = ap (toggle s (mapped x)) (get-map_values (map_rule f) x.parts.rules ra_sign_state) ∙ toggle-mapped s x (map.get x.parts.rules ra_sign_state)
  perform-mapped s x remembers_state =
      (λ i. cond (is_at_limit s.stack_limit (rows_held-mapped x i)) (Err StackFull) (Ok (record (mapped x) { remembered = map_parts f x.parts ∷ map (map_parts f) x.remembered })))
      ∙ sym (map_ok-cond mapped _ _ _)
  perform-mapped s x restores_state = restore_state-mapped x x.remembered
  perform-mapped s x _ = refl

  pub step-mapped : (s : Setting) (x : State A) (i : CallFrameInstruction A) → step s (mapped x) (map_instruction f i) ≡ map_ok mapped (step s x i)
  step-mapped s x i = ap (perform s (mapped x)) (action-mapped i) ∙ perform-mapped s x (action i)

  -- the end of the CIE's initial instructions
  pub end_of_cie-mapped : (s : Setting) (x : State A) → end_of_cie s (mapped x) ≡ map_ok mapped (end_of_cie s x)
  end_of_cie-mapped s x =
      (λ i. cond (leb 2 (len-map_values (map_rule f) x.parts.rules i) && is_at_limit s.stack_limit (rows_held-mapped x i)) (Err StackFull) (Ok (record (mapped x) { location = s.initial_address; initial_rules = Some (map_rules f x.parts.rules) })))
      ∙ sym (map_ok-cond mapped _ _ _)

  pub fresh-mapped : mapped fresh_state ≡ fresh_state
  fresh-mapped = λ i. record { location = 0; parts = record fresh_state.parts { rules = empty-map_values (map_rule f) i }; remembered = []; initial_rules = None }

  moves-mapped : (e : Action A) → moves (map_action e) ≡ moves e
  moves-mapped (sets_location address) = refl
  moves-mapped _ = refl

  pub is_move-mapped : (i : CallFrameInstruction A) → is_move (map_instruction f i) ≡ is_move i
  is_move-mapped i = ap moves (action-mapped i) ∙ moves-mapped (action i)
