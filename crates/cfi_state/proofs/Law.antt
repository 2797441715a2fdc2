-- The law that ties the machine to the struck-out form: after an accepted program, the machine in that program's state
-- refuses exactly what the program refuses next, and else comes to the state of the program with that instruction.
use Rattle.std.proofs.Common.{◌≡◌, ℕ, ◌+◌, ◌<◌, ◌≤◌, Bool, true, false, cond, not, ◌&&◌, ◌||◌, ℤ, pos, List, [], ◌∷◌, ◌++◌, length, map, eqb, ltb, leb, take, Option, Some, None, Ok, Err, is_some, unwrap_or, refl, sym, ap, subst, ◌∙◌, arith, append_assoc, bit_xor, inl, inr, ◌⊎◌}
use Rattle.std.specs.Bool.{◌==◌}
use Rattle.std.specs.Option.{option_or, option_flatten, option_map_or}
use Rattle.std.specs.FinMap as map
use Rattle.std.proofs.lemmas.Bool.{false≢true, eq-eqb, ne_eqb, cases_lt}
use Rattle.std.proofs.lemmas.List.{append-nil, length-map, length-reverse}
use Rattle.std.proofs.lemmas.List.Sums.{fold_push}
use Rattle.cfi_read_core.specs.declared.common.Register.{Register}
use Rattle.cfi_read_core.specs.declared.error.Error.{Error}
use Rattle.cfi_read_core.specs.declared.error.Error.TheVariants.{AddressOverflow, InvalidCfiSetLoc, CfiInstructionInInvalidContext, StackFull, PopWithEmptyStack, TooManyRegisterRules}
use Rattle.cfi_read_core.specs.declared.instruction.UnwindExpression.{UnwindExpression}
use Rattle.cfi_read_core.specs.declared.instruction.CallFrameInstruction.{CallFrameInstruction}
use Rattle.cfi_read_core.specs.declared.instruction.CallFrameInstruction.TheVariants as instruction
use Rattle.cfi_state.specs.declared.table.rules.CfaRule.{CfaRule}
use Rattle.cfi_state.specs.declared.table.rules.RegisterRule.{RegisterRule}
use Rattle.cfi_state.specs.declared.table.rules.RegisterRule.TheVariants as rule
use Rattle.cfi_state.specs.MachineSettings.{Setting, ra_sign_state, is_at_limit, advanced_location, fits_address, location_after, remembers, restores, next_location, is_move, is_remember, is_restore, is_toggle}
use Rattle.cfi_state.specs.Actions.{Action, sets_location, advances_location, defines_cfa, defines_cfa_register, defines_cfa_offset, defines_cfa_expression, gives_rule, restores_rule, toggles_sign_state, remembers_state, restores_state, sets_args_size, changes_nothing, action}
use Rattle.cfi_state.specs.Machine.{Rules, Parts, State, fresh_state, copies_held, rows_held, with_cfa, with_rules, set_rule, set_or_remove_rule, set_cfa_register, set_cfa_offset, toggle, restore_state, perform, step}
use Rattle.cfi_state.specs.RememberedStates.{survivors, open_indices, before_open}
use Rattle.cfi_state.specs.LastWriters.{last_written, written_cfa, written_cfa_register, written_cfa_offset, written_args_size, written_register, written_rule, names, cfa_from, final_cfa, final_args_size, rule_before_toggles, final_toggles, constant_or_zero, final_rule, final_rules, final_parts}
use Rattle.cfi_state.specs.Program.{Program, in_cie, in_fde, refused_if, instructions, followed_by, location_of, no_rule, initial_rule, rule_of, parts_of, open_count, extra_count, is_stack_full, is_expression, is_no_constant, has_no_room, refusal_of, refusal, IsAccepted, nothing, one_more, cie_ended}
use Rattle.cfi_state.specs.FdeAnswers.{initial_rules_of, remembered_of, program_state}
use Rattle.cfi_state.specs.Cases.{or_refused}
use Rattle.cfi_state.proofs.RememberedStateCounts.{closing, closings, opens, closings-append}
use Rattle.cfi_state.proofs.RememberedStateEnds.{left, fronts, left-append, fronts-append, closings_before, length-fronts, restored, no_length}
use Rattle.cfi_state.proofs.RememberedStatePlaces.{survivors-left, before_open-fronts, open_places-length}
use Rattle.cfi_state.proofs.PartsEnds.{rule_push_writer, rule_push_toggle, get-rules_left, len-rules_left, rules_push_insert, rules_push_remove, rules_push_unnamed, cfa_push, args_size_push, same_parts, parts_moves, before_toggles_below, rule_left_below, toggled_none, toggled_constant}

pub or-refused_if : {A : Type 0} (b : Bool) (e : Error) (a : A) → or_refused (refused_if b e) a ≡ cond b (Err e) (Ok a)
or-refused_if true e a = refl
or-refused_if false e a = refl

or-refused_unless : {A : Type 0} (b : Bool) (e : Error) (a : A) → or_refused (refused_if (not b) e) a ≡ cond b (Ok a) (Err e)
or-refused_unless true e a = refl
or-refused_unless false e a = refl

and_false : (b : Bool) → (b && false) ≡ false
and_false true = refl
and_false false = refl

front_of_last : {A : Type 0} (b : Bool) (xs : List A) (f : List (List A)) → map (λ l. xs ++ l) (cond (b && true) ([] ∷ []) []) ++ f ≡ cond b (xs ∷ f) f
front_of_last true xs f = ap (λ l. l ∷ f) (append-nil xs)
front_of_last false xs f = refl

map_cond : {A B : Type 0} (f : A → B) (b : Bool) (l m : List A) → map f (cond b l m) ≡ cond b (map f l) (map f m)
map_cond f true l m = refl
map_cond f false l m = refl

module _ {T : Type 0} where
  -- ---- the program with one instruction more

  instructions_push : (p : Program T) (i : CallFrameInstruction T) → instructions (followed_by p i) ≡ instructions p ++ i ∷ []
  instructions_push (in_cie cie) i = refl
  instructions_push (in_fde cie fde) i = sym (append_assoc cie fde (i ∷ []))

  pub location_push : (s : Setting) (p : Program T) (i : CallFrameInstruction T) → location_of s (followed_by p i) ≡ next_location s (location_of s p) i
  location_push s (in_cie cie) i = fold_push (next_location s) 0 cie i
  location_push s (in_fde cie fde) i = fold_push (next_location s) s.initial_address fde i

  initial_push : (s : Setting) (p : Program T) (i : CallFrameInstruction T) → initial_rule s (followed_by p i) ≡ initial_rule s p
  initial_push s (in_cie cie) i = refl
  initial_push s (in_fde cie fde) i = refl

  initial_rules_push : (s : Setting) (p : Program T) (i : CallFrameInstruction T) → initial_rules_of s (followed_by p i) ≡ initial_rules_of s p
  initial_rules_push s (in_cie cie) i = refl
  initial_rules_push s (in_fde cie fde) i = refl

  -- the state by its four parts
  abbrev pub state : ℕ → Parts T → List (Parts T) → Option (Rules T) → State T
  state location parts remembered initial_rules = record { location = location; parts = parts; remembered = remembered; initial_rules = initial_rules }

  state_push : (s : Setting) (p : Program T) (i : CallFrameInstruction T) →
      program_state s (followed_by p i) ≡ state (next_location s (location_of s p) i) (final_parts s (initial_rule s p) (survivors (instructions p ++ i ∷ []))) (map (λ before. final_parts s (initial_rule s p) (survivors before)) (before_open (instructions p ++ i ∷ []))) (initial_rules_of s p)
  state_push s p i = λ k. state (location_push s p i k)
      (final_parts s (initial_push s p i k) (survivors (instructions_push p i k)))
      (map (λ before. final_parts s (initial_push s p i k) (survivors before)) (before_open (instructions_push p i k)))
      (initial_rules_push s p i k)

  survivors_push : (xs : List (CallFrameInstruction T)) (i : CallFrameInstruction T) → closings xs ≡ 0 → is_restore i ≡ false → survivors (xs ++ i ∷ []) ≡ survivors xs ++ i ∷ []
  survivors_push xs i closed e =
      let closing_0 : closing i ≡ 0 = ap (λ t. cond t 1 0) e in
      let none : closings (i ∷ []) ≡ 0 = omega arith in
      let kept : left (i ∷ []) ≡ i ∷ [] = ap (λ b. cond (not (is_move i) && (b || false)) [] (i ∷ [])) e ∙ ap (λ b. cond b [] (i ∷ [])) (and_false (not (is_move i))) in
      survivors-left (xs ++ i ∷ []) (closings_before xs (i ∷ []) none ∙ closed)
      ∙ left-append xs (i ∷ []) none
      ∙ ap (λ l. l ++ left (i ∷ [])) (sym (survivors-left xs closed))
      ∙ ap (λ l. survivors xs ++ l) kept

  before_open_push : (xs : List (CallFrameInstruction T)) (i : CallFrameInstruction T) → is_restore i ≡ false → before_open (xs ++ i ∷ []) ≡ cond (is_remember i) (xs ∷ before_open xs) (before_open xs)
  before_open_push xs i e =
      let closing_0 : closing i ≡ 0 = ap (λ t. cond t 1 0) e in
      before_open-fronts (xs ++ i ∷ [])
      ∙ fronts-append xs (i ∷ []) (omega arith)
      ∙ front_of_last (is_remember i) xs (fronts xs)
      ∙ ap (λ f. cond (is_remember i) (xs ∷ f) f) (sym (before_open-fronts xs))

  -- the state after an instruction that restores no state
  next_state : (s : Setting) (p : Program T) (i : CallFrameInstruction T) (parts : Parts T) → closings (instructions p) ≡ 0 → is_restore i ≡ false → final_parts s (initial_rule s p) (survivors (instructions p) ++ i ∷ []) ≡ parts →
      program_state s (followed_by p i) ≡ state (next_location s (location_of s p) i) parts (cond (is_remember i) (parts_of s p ∷ remembered_of s p) (remembered_of s p)) (initial_rules_of s p)
  next_state s p i parts closed e is =
      let parts_before : List (CallFrameInstruction T) → Parts T = λ before. final_parts s (initial_rule s p) (survivors before) in
      let same_remembered = ap (map parts_before) (before_open_push (instructions p) i e) ∙ map_cond parts_before (is_remember i) (instructions p ∷ before_open (instructions p)) (before_open (instructions p)) in
      state_push s p i ∙ λ k. state (next_location s (location_of s p) i) ((ap (final_parts s (initial_rule s p)) (survivors_push (instructions p) i closed e) ∙ is) k) (same_remembered k) (initial_rules_of s p)

  -- ---- one law for each kind of action

  -- the law of an instruction with the action e
  abbrev Law : Setting → Program T → CallFrameInstruction T → Action T → Type 0
  Law s p i e = perform s (program_state s p) e ≡ or_refused (refusal_of s p e) (program_state s (followed_by p i))

  -- the state after an instruction with the action e, which restores no state
  next_by : (s : Setting) (p : Program T) (i : CallFrameInstruction T) (e : Action T) (parts : Parts T) → closings (instructions p) ≡ 0 → action i ≡ e → restores e ≡ false → final_parts s (initial_rule s p) (survivors (instructions p) ++ i ∷ []) ≡ parts →
      program_state s (followed_by p i) ≡ state (location_after s (location_of s p) e) parts (cond (remembers e) (parts_of s p ∷ remembered_of s p) (remembered_of s p)) (initial_rules_of s p)
  next_by s p i e parts closed is opened left_is =
      next_state s p i parts closed (ap restores is ∙ opened) left_is
      ∙ λ k. state (location_after s (location_of s p) (is k)) parts (cond (remembers (is k)) (parts_of s p ∷ remembered_of s p) (remembered_of s p)) (initial_rules_of s p)

  -- what an action writes of the CFA and of the argument size
  abbrev cfa_by : Setting → List (CallFrameInstruction T) → Action T → CfaRule T
  cfa_by s ys e = cfa_from (option_flatten (option_or (written_cfa e) (last_written written_cfa ys))) (unwrap_or (option_or (written_cfa_register e) (last_written written_cfa_register ys)) (record { 0 = 0 })) (unwrap_or (option_or (written_cfa_offset s e) (last_written (written_cfa_offset s) ys)) (pos 0))

  abbrev args_size_by : List (CallFrameInstruction T) → Action T → ℕ
  args_size_by ys e = unwrap_or (option_or (written_args_size e) (last_written written_args_size ys)) 0

  cfa_push_by : (s : Setting) (ys : List (CallFrameInstruction T)) (i : CallFrameInstruction T) (e : Action T) → action i ≡ e → final_cfa s (ys ++ i ∷ []) ≡ cfa_by s ys e
  cfa_push_by s ys i e is = cfa_push s ys i ∙ λ k. cfa_by s ys (is k)

  args_size_push_by : (ys : List (CallFrameInstruction T)) (i : CallFrameInstruction T) (e : Action T) → action i ≡ e → final_args_size (ys ++ i ∷ []) ≡ args_size_by ys e
  args_size_push_by ys i e is = args_size_push ys i ∙ λ k. args_size_by ys (is k)

  -- the state after an instruction that gives no rule and restores no state
  ruleless : (s : Setting) (p : Program T) (i : CallFrameInstruction T) (e : Action T) → closings (instructions p) ≡ 0 → action i ≡ e → restores e ≡ false → written_register e ≡ None →
      program_state s (followed_by p i) ≡ state (location_after s (location_of s p) e) (record (parts_of s p) { cfa = cfa_by s (survivors (instructions p)) e; args_size = args_size_by (survivors (instructions p)) e }) (cond (remembers e) (parts_of s p ∷ remembered_of s p) (remembered_of s p)) (initial_rules_of s p)
  ruleless s p i e closed is opened unnamed =
      let ys : List (CallFrameInstruction T) = survivors (instructions p) in
      next_by s p i e _ closed is opened
      (same_parts _ _ (cfa_push_by s ys i e is) (sym (rules_push_unnamed s (initial_rule s p) ys i (ap written_register is ∙ unnamed))) (args_size_push_by ys i e is))

  set_location_law : (s : Setting) (p : Program T) (i : CallFrameInstruction T) (address : ℕ) → closings (instructions p) ≡ 0 → action i ≡ sets_location address → Law s p i (sets_location address)
  set_location_law s p i address closed is =
      ap (λ x. cond (ltb address (location_of s p)) (Err (InvalidCfiSetLoc address)) (Ok x)) (sym (ruleless s p i (sets_location address) closed is refl refl))
      ∙ sym (or-refused_if (ltb address (location_of s p)) (InvalidCfiSetLoc address) _)

  advance_law : (s : Setting) (p : Program T) (i : CallFrameInstruction T) (delta : ℕ) → closings (instructions p) ≡ 0 → action i ≡ advances_location delta → Law s p i (advances_location delta)
  advance_law s p i delta closed is =
      ap (λ x. cond (fits_address s (advanced_location s (location_of s p) delta)) (Ok x) (Err AddressOverflow)) (sym (ruleless s p i (advances_location delta) closed is refl refl))
      ∙ sym (or-refused_unless (fits_address s (advanced_location s (location_of s p) delta)) AddressOverflow _)

  set_cfa_register_case : (x next : State T) (e : Option (UnwindExpression T)) (r q : Register) (offset : ℤ) → next ≡ with_cfa x (cfa_from e r offset) → set_cfa_register x r (cfa_from e q offset) ≡ or_refused (refused_if (is_expression (cfa_from e q offset)) CfiInstructionInInvalidContext) next
  set_cfa_register_case x next None r q offset is = ap Ok (sym is)
  set_cfa_register_case x next (Some e) r q offset is = refl

  set_cfa_offset_case : (x next : State T) (e : Option (UnwindExpression T)) (r : Register) (offset before : ℤ) → next ≡ with_cfa x (cfa_from e r offset) → set_cfa_offset x offset (cfa_from e r before) ≡ or_refused (refused_if (is_expression (cfa_from e r before)) CfiInstructionInInvalidContext) next
  set_cfa_offset_case x next None r offset before is = ap Ok (sym is)
  set_cfa_offset_case x next (Some e) r offset before is = refl

  -- ---- rules

  -- an instruction that writes or toggles one register's rule, and nothing else
  record ChangesRule (s : Setting) (i : CallFrameInstruction T) (r : ℕ) : Type 0 where
    stays : (location : ℕ) → next_location s location i ≡ location
    no_restore : is_restore i ≡ false
    no_remember : is_remember i ≡ false
    cfa : written_cfa (action i) ≡ None
    cfa_register : written_cfa_register (action i) ≡ None
    cfa_offset : written_cfa_offset s (action i) ≡ None
    args_size : written_args_size (action i) ≡ None
    register : written_register (action i) ≡ Some r

  rules_state : (s : Setting) (p : Program T) (i : CallFrameInstruction T) (r : ℕ) (rules : Rules T) → closings (instructions p) ≡ 0 → ChangesRule s i r → rules ≡ final_rules s (initial_rule s p) (survivors (instructions p) ++ i ∷ []) → program_state s (followed_by p i) ≡ with_rules (program_state s p) rules
  rules_state s p i r rules closed c is =
      let ys : List (CallFrameInstruction T) = survivors (instructions p) in
      let is_cfa : final_cfa s (ys ++ i ∷ []) ≡ final_cfa s ys = cfa_push s ys i ∙ λ k. cfa_from (option_flatten (option_or (c.cfa k) (last_written written_cfa ys))) (unwrap_or (option_or (c.cfa_register k) (last_written written_cfa_register ys)) (record { 0 = 0 })) (unwrap_or (option_or (c.cfa_offset k) (last_written (written_cfa_offset s) ys)) (pos 0)) in
      let is_size : final_args_size (ys ++ i ∷ []) ≡ final_args_size ys = args_size_push ys i ∙ ap (λ o. unwrap_or (option_or o (last_written written_args_size ys)) 0) c.args_size in
      next_state s p i (record (parts_of s p) { rules = rules }) closed c.no_restore (same_parts _ _ is_cfa (sym is) is_size)
      ∙ λ k. state (c.stays (location_of s p) k) (record (parts_of s p) { rules = rules }) (cond (c.no_remember k) (parts_of s p ∷ remembered_of s p) (remembered_of s p)) (initial_rules_of s p)

  -- the machine's test of the map's room is the program's
  has_no_room_is : (s : Setting) (p : Program T) (r : ℕ) → (not (map.contains_key (parts_of s p).rules r) && is_at_limit s.rule_limit (map.len (parts_of s p).rules)) ≡ has_no_room s p r
  has_no_room_is s p r = λ k. not (is_some (get-rules_left s (initial_rule s p) (survivors (instructions p)) r k)) && is_at_limit s.rule_limit (len-rules_left s (initial_rule s p) (survivors (instructions p)) k)

  set_rule_law : (s : Setting) (p : Program T) (i : CallFrameInstruction T) (r : ℕ) (v : RegisterRule T) → closings (instructions p) ≡ 0 → ChangesRule s i r → final_rule s (initial_rule s p) (survivors (instructions p) ++ i ∷ []) r ≡ Some v →
      set_rule s (program_state s p) r v ≡ or_refused (refused_if (has_no_room s p r) TooManyRegisterRules) (program_state s (followed_by p i))
  set_rule_law s p i r v closed c is =
      ap (λ b. cond b (Err TooManyRegisterRules) (Ok (with_rules (program_state s p) (map.insert (parts_of s p).rules r v)))) (has_no_room_is s p r)
      ∙ ap (λ x. cond (has_no_room s p r) (Err TooManyRegisterRules) (Ok x)) (sym (rules_state s p i r _ closed c (rules_push_insert s (initial_rule s p) (survivors (instructions p)) i r v c.register is)))
      ∙ sym (or-refused_if (has_no_room s p r) TooManyRegisterRules (program_state s (followed_by p i)))

  writer_names : (i : CallFrameInstruction T) (r : ℕ) → written_register (action i) ≡ Some r → names r (action i) ≡ true
  writer_names i r e = ap (λ o. option_map_or (λ q. eqb q r) o false) e ∙ eq-eqb r r refl

  -- an instruction that writes a rule of its own
  writer_law : (s : Setting) (p : Program T) (i : CallFrameInstruction T) (r : ℕ) (v : RegisterRule T) → closings (instructions p) ≡ 0 → ChangesRule s i r → is_toggle (action i) ≡ false → written_rule s (initial_rule s p) (action i) ≡ Some v →
      set_rule s (program_state s p) r v ≡ or_refused (refused_if (has_no_room s p r) TooManyRegisterRules) (program_state s (followed_by p i))
  writer_law s p i r v closed c writer is = set_rule_law s p i r v closed c (rule_push_writer s (initial_rule s p) (survivors (instructions p)) i r (writer_names i r c.register) writer ∙ is)

  -- an action that gives a register a rule or toggles it changes nothing else
  changes_rule : (s : Setting) (i : CallFrameInstruction T) (e : Action T) (r : ℕ) → action i ≡ e → written_register e ≡ Some r → ChangesRule s i r
  changes_rule s i (gives_rule q rule) r is names = record { stays = λ location. ap (location_after s location) is; no_restore = ap restores is; no_remember = ap remembers is; cfa = ap written_cfa is; cfa_register = ap written_cfa_register is; cfa_offset = ap (written_cfa_offset s) is; args_size = ap written_args_size is; register = ap written_register is ∙ names }
  changes_rule s i (restores_rule q) r is names = record { stays = λ location. ap (location_after s location) is; no_restore = ap restores is; no_remember = ap remembers is; cfa = ap written_cfa is; cfa_register = ap written_cfa_register is; cfa_offset = ap (written_cfa_offset s) is; args_size = ap written_args_size is; register = ap written_register is ∙ names }
  changes_rule s i toggles_sign_state r is names = record { stays = λ location. ap (location_after s location) is; no_restore = ap restores is; no_remember = ap remembers is; cfa = ap written_cfa is; cfa_register = ap written_cfa_register is; cfa_offset = ap (written_cfa_offset s) is; args_size = ap written_args_size is; register = ap written_register is ∙ names }
  changes_rule s i _ r is names = absurd (let wrong : None ≡ Some r = names in cc)

  gives_law : (s : Setting) (p : Program T) (i : CallFrameInstruction T) (r : Register) (rule : ℤ → RegisterRule T) → closings (instructions p) ≡ 0 → action i ≡ gives_rule r rule → Law s p i (gives_rule r rule)
  gives_law s p i r rule closed is = writer_law s p i r.0 (rule s.data_alignment_factor) closed (changes_rule s i (gives_rule r rule) r.0 is refl) (ap is_toggle is) (ap (written_rule s (initial_rule s p)) is)

  restored_rule : (s : Setting) (p : Program T) (i : CallFrameInstruction T) (r : Register) → action i ≡ restores_rule r → final_rule s (initial_rule s p) (survivors (instructions p) ++ i ∷ []) r.0 ≡ initial_rule s p r.0
  restored_rule s p i r is = rule_push_writer s (initial_rule s p) (survivors (instructions p)) i r.0 (writer_names i r.0 (ap written_register is)) (ap is_toggle is) ∙ ap (written_rule s (initial_rule s p)) is

  set_or_remove_law : (s : Setting) (p : Program T) (i : CallFrameInstruction T) (r : Register) (o : Option (RegisterRule T)) → closings (instructions p) ≡ 0 → action i ≡ restores_rule r → initial_rule s p r.0 ≡ o →
      set_or_remove_rule s (program_state s p) r.0 o ≡ or_refused (refused_if (is_some o && has_no_room s p r.0) TooManyRegisterRules) (program_state s (followed_by p i))
  set_or_remove_law s p i r None closed i_is is = ap Ok (sym (rules_state s p i r.0 _ closed (changes_rule s i (restores_rule r) r.0 i_is refl) (rules_push_remove s (initial_rule s p) (survivors (instructions p)) i r.0 (ap written_register i_is) (restored_rule s p i r i_is ∙ is))))
  set_or_remove_law s p i r (Some v) closed i_is is = set_rule_law s p i r.0 v closed (changes_rule s i (restores_rule r) r.0 i_is refl) (restored_rule s p i r i_is ∙ is)

  restore_law : (s : Setting) (p : Program T) (i : CallFrameInstruction T) (r : Register) → closings (instructions p) ≡ 0 → action i ≡ restores_rule r → Law s p i (restores_rule r)
  restore_law s (in_cie cie) i r closed is = refl
  restore_law s (in_fde cie fde) i r closed is =
      ap (set_or_remove_rule s (program_state s (in_fde cie fde)) r.0) (get-rules_left s no_rule (survivors cie) r.0)
      ∙ set_or_remove_law s (in_fde cie fde) i r (final_rule s no_rule (survivors cie) r.0) closed is refl

  -- ---- the sign state

  toggle_changes : (s : Setting) → ChangesRule s instruction.NegateRaState ra_sign_state
  toggle_changes s = record { stays = λ location. refl; no_restore = refl; no_remember = refl; cfa = refl; cfa_register = refl; cfa_offset = refl; args_size = refl; register = refl }

  initial_below : (s : Setting) (p : Program T) (r : ℕ) → constant_or_zero (initial_rule s p r) < 2
  initial_below s (in_cie cie) r = omega arith
  initial_below s (in_fde cie fde) r = rule_left_below s no_rule (λ q. omega arith) (survivors cie) r

  toggle_case : (s : Setting) (p : Program T) (o : Option (RegisterRule T)) → closings (instructions p) ≡ 0 → rule_of s p ra_sign_state ≡ o →
      toggle s (program_state s p) o ≡ or_refused (option_or (refused_if (is_no_constant o) CfiInstructionInInvalidContext) (refused_if (has_no_room s p ra_sign_state) TooManyRegisterRules)) (program_state s (followed_by p instruction.NegateRaState))
  toggle_case s p None closed is =
      let ys : List (CallFrameInstruction T) = survivors (instructions p) in
      set_rule_law s p instruction.NegateRaState ra_sign_state (rule.Constant 1) closed (toggle_changes s)
      (rule_push_toggle s (initial_rule s p) ys ∙ toggled_none (final_toggles ys ra_sign_state) (rule_before_toggles s (initial_rule s p) ys ra_sign_state) is)
  toggle_case s p (Some (rule.Constant v)) closed is =
      let ys : List (CallFrameInstruction T) = survivors (instructions p) in
      set_rule_law s p instruction.NegateRaState ra_sign_state (rule.Constant (bit_xor v 1)) closed (toggle_changes s)
      (rule_push_toggle s (initial_rule s p) ys
      ∙ toggled_constant (final_toggles ys ra_sign_state) (rule_before_toggles s (initial_rule s p) ys ra_sign_state) v (before_toggles_below s (initial_rule s p) (initial_below s p) ys ra_sign_state) is)
  toggle_case s p (Some _) closed is = refl

  negate_law : (s : Setting) (p : Program T) → closings (instructions p) ≡ 0 → Law s p instruction.NegateRaState toggles_sign_state
  negate_law s p closed = ap (toggle s (program_state s p)) (get-rules_left s (initial_rule s p) (survivors (instructions p)) ra_sign_state) ∙ toggle_case s p (rule_of s p ra_sign_state) closed refl

  -- ---- brackets

  copies_held_is : (s : Setting) (p : Program T) → copies_held (initial_rules_of s p) ≡ extra_count s p
  copies_held_is s (in_cie cie) = refl
  copies_held_is s (in_fde cie fde) = ap (λ n. cond (leb 2 n) 1 0) (len-rules_left s no_rule (survivors cie))

  remembered_length : (s : Setting) (p : Program T) → length (remembered_of s p) ≡ open_count p
  remembered_length s p =
      length-map (before_open (instructions p)) (λ before. final_parts s (initial_rule s p) (survivors before))
      ∙ length-map _ (λ i. take i (instructions p)) ∙ length-reverse (open_indices (instructions p))

  pub is_full_is : (s : Setting) (p : Program T) → is_at_limit s.stack_limit (rows_held (program_state s p)) ≡ is_stack_full s p
  is_full_is s p = λ k. is_at_limit s.stack_limit (1 + remembered_length s p k + copies_held_is s p k)

  remember_law : (s : Setting) (p : Program T) → closings (instructions p) ≡ 0 → Law s p instruction.RememberState remembers_state
  remember_law s p closed =
      let next : State T = record (program_state s p) { remembered = parts_of s p ∷ remembered_of s p } in
      ap (λ b. cond b (Err StackFull) (Ok next)) (is_full_is s p)
      ∙ ap (λ x. cond (is_stack_full s p) (Err StackFull) (Ok x)) (sym (ruleless s p instruction.RememberState remembers_state closed refl refl refl))
      ∙ sym (or-refused_if (is_stack_full s p) StackFull (program_state s (followed_by p instruction.RememberState)))

  -- nothing is open: the machine has nothing remembered
  nothing_open_law : (s : Setting) (p : Program T) → opens (instructions p) ≡ 0 → Law s p instruction.RestoreState restores_state
  nothing_open_law s p none =
      let parts_before : List (CallFrameInstruction T) → Parts T = λ before. final_parts s (initial_rule s p) (survivors before) in
      let nothing_remembered : remembered_of s p ≡ [] = ap (map parts_before) (before_open-fronts (instructions p) ∙ no_length (fronts (instructions p)) (length-fronts (instructions p) ∙ none)) in
      let refused : (open_count p == 0) ≡ true = eq-eqb (open_count p) 0 (open_places-length (instructions p) ∙ none) in
      ap (restore_state (program_state s p)) nothing_remembered ∙ sym (ap (λ b. or_refused (refused_if b PopWithEmptyStack) (program_state s (followed_by p instruction.RestoreState))) refused)

  restored_law : (s : Setting) (p : Program T) → closings (instructions p) ≡ 0 → 0 < opens (instructions p) → Law s p instruction.RestoreState restores_state
  restored_law s p closed h =
      let xs : List (CallFrameInstruction T) = instructions p in
      let ended : List (CallFrameInstruction T) = xs ++ instruction.RestoreState ∷ [] in
      let parts_before : List (CallFrameInstruction T) → Parts T = λ before. final_parts s (initial_rule s p) (survivors before) in
      let r = restored xs h in
      let before_closed : closings r.before ≡ 0 = omega (arith, r.closed, closed) in
      let ended_closed : closings ended ≡ 0 = omega (arith, closings-append xs (instruction.RestoreState ∷ []), closed) in
      let remembered : remembered_of s p ≡ parts_before r.before ∷ map parts_before (fronts r.before) = ap (map parts_before) (before_open-fronts xs ∙ r.were_open) in
      let still_remembered : map parts_before (before_open ended) ≡ map parts_before (fronts r.before) = ap (map parts_before) (before_open-fronts ended ∙ r.are_open) in
      let parts : parts_before ended ≡ parts_before r.before =
      ap (final_parts s (initial_rule s p)) (survivors-left ended ended_closed ∙ r.survive)
      ∙ parts_moves s (initial_rule s p) r.behind (left r.before)
      ∙ ap (final_parts s (initial_rule s p)) (sym (survivors-left r.before before_closed)) in
      let next : program_state s (followed_by p instruction.RestoreState) ≡ state (location_of s p) (parts_before r.before) (map parts_before (fronts r.before)) (initial_rules_of s p) =
      state_push s p instruction.RestoreState ∙ λ k. state (location_of s p) (parts k) (still_remembered k) (initial_rules_of s p) in
      let accepted : (open_count p == 0) ≡ false = ne_eqb (open_count p) 0 (λ e. absurd (omega (arith, e, open_places-length xs))) in
      ap (restore_state (program_state s p)) remembered
      ∙ ap Ok (sym next)
      ∙ sym (ap (λ b. or_refused (refused_if b PopWithEmptyStack) (program_state s (followed_by p instruction.RestoreState))) accepted)

  restore_state_law : (s : Setting) (p : Program T) → closings (instructions p) ≡ 0 → Law s p instruction.RestoreState restores_state
  restore_state_law s p closed =
      let pick : (0 < opens (instructions p)) ⊎ (opens (instructions p) ≤ 0) → Law s p instruction.RestoreState restores_state = elim [ inl h ↦ restored_law s p closed h | inr h ↦ nothing_open_law s p (omega arith) ] in
      pick (cases_lt 0 (opens (instructions p)))

  -- ---- all actions

  -- three actions have one instruction each
  only_toggle : (i : CallFrameInstruction T) → is_toggle (action i) ≡ true → i ≡ instruction.NegateRaState
  only_toggle instruction.NegateRaState e = refl
  only_toggle _ e = absurd (false≢true e)

  only_remember : (i : CallFrameInstruction T) → is_remember i ≡ true → i ≡ instruction.RememberState
  only_remember instruction.RememberState e = refl
  only_remember _ e = absurd (false≢true e)

  only_restore : (i : CallFrameInstruction T) → is_restore i ≡ true → i ≡ instruction.RestoreState
  only_restore instruction.RestoreState e = refl
  only_restore _ e = absurd (false≢true e)

  action_law : (s : Setting) (p : Program T) (i : CallFrameInstruction T) (e : Action T) → closings (instructions p) ≡ 0 → action i ≡ e → Law s p i e
  action_law s p i (sets_location address) closed is = set_location_law s p i address closed is
  action_law s p i (advances_location delta) closed is = advance_law s p i delta closed is
  action_law s p i (defines_cfa r offset) closed is = ap Ok (sym (ruleless s p i (defines_cfa r offset) closed is refl refl))
  action_law s p i (defines_cfa_register r) closed is = set_cfa_register_case (program_state s p) _ (option_flatten (last_written written_cfa (survivors (instructions p)))) r _ _ (ruleless s p i (defines_cfa_register r) closed is refl refl)
  action_law s p i (defines_cfa_offset offset) closed is = set_cfa_offset_case (program_state s p) _ (option_flatten (last_written written_cfa (survivors (instructions p)))) _ _ _ (ruleless s p i (defines_cfa_offset offset) closed is refl refl)
  action_law s p i (defines_cfa_expression e) closed is = ap Ok (sym (ruleless s p i (defines_cfa_expression e) closed is refl refl))
  action_law s p i (gives_rule r rule) closed is = gives_law s p i r rule closed is
  action_law s p i (restores_rule r) closed is = restore_law s p i r closed is
  action_law s p i toggles_sign_state closed is = subst (λ j. Law s p j toggles_sign_state) (sym (only_toggle i (ap is_toggle is))) (negate_law s p closed)
  action_law s p i remembers_state closed is = subst (λ j. Law s p j remembers_state) (sym (only_remember i (ap remembers is))) (remember_law s p closed)
  action_law s p i restores_state closed is = subst (λ j. Law s p j restores_state) (sym (only_restore i (ap restores is))) (restore_state_law s p closed)
  action_law s p i (sets_args_size size) closed is = ap Ok (sym (ruleless s p i (sets_args_size size) closed is refl refl))
  action_law s p i changes_nothing closed is = ap Ok (sym (ruleless s p i changes_nothing closed is refl refl))

  -- ---- accepted programs

  -- an accepted restore_state has an open remember_state
  accepted_one : (s : Setting) (p : Program T) (i : CallFrameInstruction T) → refusal s p i ≡ None → closings (instructions p) ≡ 0 → closings (instructions p ++ i ∷ []) ≡ 0
  accepted_one s p instruction.RestoreState e closed =
      let pick : (0 < opens (instructions p)) ⊎ (opens (instructions p) ≤ 0) → closings (instructions p ++ instruction.RestoreState ∷ []) ≡ 0 = elim [
        | inl h ↦ omega (arith, closings-append (instructions p) (instruction.RestoreState ∷ []), closed)
        | inr h ↦ absurd (let refused : (open_count p == 0) ≡ true = eq-eqb (open_count p) 0 (open_places-length (instructions p) ∙ omega arith) in let wrong : Some PopWithEmptyStack ≡ None = sym (ap (λ b. refused_if b PopWithEmptyStack) refused) ∙ e in cc)
      ] in
      pick (cases_lt 0 (opens (instructions p)))
  accepted_one s p i e closed = closings_before (instructions p) (i ∷ []) refl ∙ closed

  pub accepted_closings : (s : Setting) (p : Program T) → IsAccepted s p → closings (instructions p) ≡ 0
  accepted_closings s p nothing = refl
  accepted_closings s p (one_more q i a e) = ap closings (instructions_push q i) ∙ accepted_one s q i e (accepted_closings s q a)
  accepted_closings s p (cie_ended cie a e) = ap closings (append-nil cie) ∙ accepted_closings s (in_cie cie) a

  -- the law of one instruction
  pub step_law : (s : Setting) (p : Program T) (i : CallFrameInstruction T) → IsAccepted s p → step s (program_state s p) i ≡ or_refused (refusal s p i) (program_state s (followed_by p i))
  step_law s p i a = action_law s p i (action i) (accepted_closings s p a) refl

  pub fresh_law : (s : Setting) → fresh_state {T = T} ≡ program_state s (in_cie [])
  fresh_law s = refl
