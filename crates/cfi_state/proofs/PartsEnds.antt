-- What one instruction more changes in the rules, the CFA and the argument size that a list of instructions leaves.
use Rattle.std.proofs.Common.{◌≡◌, ℕ, zero, suc, ◌+◌, ◌%◌, ◌<◌, ◌≤◌, Bool, true, false, cond, not, ◌&&◌, ◌||◌, pos, List, [], ◌∷◌, ◌++◌, length, eqb, Option, Some, None, unwrap_or, refl, sym, ap, ◌∙◌, arith, append_assoc, add-one, bit_xor, inl, inr, ◌⊎◌}
use Rattle.std.specs.List.{filter, filter_map, count_by, list_any, cons_option}
use Rattle.std.specs.Option.{option_or, option_flatten, option_map_or}
use Rattle.std.specs.Ordering.{nat_cmp, eq_by_cmp}
use Rattle.std.specs.Cmp.{nat_cmp_total, unsigned_tied}
use Rattle.std.specs.FinMap as map
use Rattle.std.proofs.lemmas.Bool.{false≢true, or_parts, eq-eqb, ne_eqb, cases_eq, cases_lt}
use Rattle.std.proofs.lemmas.List.{append-nil}
use Rattle.cfi_read_core.specs.declared.instruction.CallFrameInstruction.{CallFrameInstruction}
use Rattle.cfi_read_core.specs.declared.instruction.CallFrameInstruction.TheVariants as instruction
use Rattle.cfi_state.specs.declared.table.rules.RegisterRule.{RegisterRule}
use Rattle.cfi_state.specs.declared.table.rules.RegisterRule.TheVariants as rule
use Rattle.cfi_state.specs.Actions.{action}
use Rattle.cfi_state.specs.MachineSettings.{Setting, ra_sign_state, is_move, is_toggle}
use Rattle.cfi_state.specs.Machine.{Rules, Parts}
use Rattle.cfi_state.specs.LastWriters.{last_written, after_last, written_cfa, written_cfa_register, written_cfa_offset, written_args_size, written_register, written_rule, names, writes_rule, toggles, cfa_from, final_cfa, final_args_size, rule_before_toggles, final_toggles, rule_after_toggles, constant_or_zero, final_rule, registers_named, registers_with_rule, final_rules, final_parts}
use Rattle.cfi_state.proofs.RuleMaps.{get-insert, get-remove}
use Rattle.cfi_state.proofs.WriterEnds.{last_written_push, behind_last_push, count_step, flatten_step, distinct-any, entries_at, find-entries_at, len-entries_at}

and_names_false : (b n : Bool) → n ≡ false → (b && n) ≡ false
and_names_false true n e = e
and_names_false false n e = refl

named_step : (o : Option ℕ) (r : ℕ) (rs : List ℕ) → list_any (λ k. eqb k r) (cons_option o rs) ≡ (option_map_or (λ k. eqb k r) o false || list_any (λ k. eqb k r) rs)
named_step None r rs = refl
named_step (Some q) r rs = refl

flatten_or : {A : Type 0} (P : Option A → Type 0) (o p : Option (Option A)) → P (option_flatten o) → P (option_flatten p) → P (option_flatten (option_or o p))
flatten_or P None p f g = g
flatten_or P (Some o) p f g = f

parity_step : (n v : ℕ) → n % 2 ≡ v → (v ≡ 0) ⊎ (v ≡ 1) → (n + 1) % 2 ≡ bit_xor v 1
parity_step n v e (inl z) = let odd : (n + 1) % 2 ≡ 1 = omega arith in odd ∙ ap (λ k. bit_xor k 1) (sym z)
parity_step n v e (inr z) = let even : (n + 1) % 2 ≡ 0 = omega arith in even ∙ ap (λ k. bit_xor k 1) (sym z)

zero_or_one : (v : ℕ) → v < 2 → (v ≡ 0) ⊎ (v ≡ 1)
zero_or_one v h =
    let pick : (v < 1) ⊎ (1 ≤ v) → (v ≡ 0) ⊎ (v ≡ 1) = elim [ inl low ↦ inl (omega arith) | inr high ↦ inr (omega arith) ] in
    pick (cases_lt v 1)

-- a toggle turns a constant over
parity : (n v : ℕ) → n % 2 ≡ v → (n + 1) % 2 ≡ bit_xor v 1
parity n v e = parity_step n v e (zero_or_one v (omega arith))

module _ {T : Type 0} where
  -- ---- the rule of one register

  before_toggles_push : (s : Setting) (initial : ℕ → Option (RegisterRule T)) (ys : List (CallFrameInstruction T)) (i : CallFrameInstruction T) (r : ℕ) → rule_before_toggles s initial (ys ++ i ∷ []) r ≡ cond (writes_rule r (action i)) (written_rule s initial (action i)) (rule_before_toggles s initial ys r)
  before_toggles_push s initial ys i r =
      ap option_flatten (last_written_push (λ j. cond (writes_rule r j) (Some (written_rule s initial j)) None) ys i)
      ∙ flatten_step (writes_rule r (action i)) (written_rule s initial (action i)) (last_written (λ j. cond (writes_rule r j) (Some (written_rule s initial j)) None) ys)

  toggles_push : (ys : List (CallFrameInstruction T)) (i : CallFrameInstruction T) (r : ℕ) → final_toggles (ys ++ i ∷ []) r ≡ cond (writes_rule r (action i)) 0 (final_toggles ys r + cond (toggles r (action i)) 1 0)
  toggles_push ys i r =
      ap (count_by (λ j. toggles r (action j))) (behind_last_push (λ j. writes_rule r (action j)) ys i)
      ∙ count_step (writes_rule r (action i)) (λ j. toggles r (action j)) (after_last (λ j. writes_rule r (action j)) ys) i

  rule_push : (s : Setting) (initial : ℕ → Option (RegisterRule T)) (ys : List (CallFrameInstruction T)) (i : CallFrameInstruction T) (r : ℕ) →
      final_rule s initial (ys ++ i ∷ []) r ≡ rule_after_toggles (cond (writes_rule r (action i)) 0 (final_toggles ys r + cond (toggles r (action i)) 1 0)) (cond (writes_rule r (action i)) (written_rule s initial (action i)) (rule_before_toggles s initial ys r))
  rule_push s initial ys i r =
      ap (λ n. rule_after_toggles n (rule_before_toggles s initial (ys ++ i ∷ []) r)) (toggles_push ys i r)
      ∙ ap (rule_after_toggles (cond (writes_rule r (action i)) 0 (final_toggles ys r + cond (toggles r (action i)) 1 0))) (before_toggles_push s initial ys i r)

  -- an instruction that does not name the register leaves its rule
  pub rule_push_other : (s : Setting) (initial : ℕ → Option (RegisterRule T)) (ys : List (CallFrameInstruction T)) (i : CallFrameInstruction T) (r : ℕ) → names r (action i) ≡ false → final_rule s initial (ys ++ i ∷ []) r ≡ final_rule s initial ys r
  rule_push_other s initial ys i r other =
      rule_push s initial ys i r
      ∙ ap (λ b. rule_after_toggles (cond b 0 (final_toggles ys r + cond (toggles r (action i)) 1 0)) (cond b (written_rule s initial (action i)) (rule_before_toggles s initial ys r))) (and_names_false (not (is_toggle (action i))) (names r (action i)) other)
      ∙ ap (λ b. rule_after_toggles (final_toggles ys r + cond b 1 0) (rule_before_toggles s initial ys r)) (and_names_false (is_toggle (action i)) (names r (action i)) other)
      ∙ ap (λ n. rule_after_toggles n (rule_before_toggles s initial ys r)) (omega arith)

  -- a writer gives the register its rule
  pub rule_push_writer : (s : Setting) (initial : ℕ → Option (RegisterRule T)) (ys : List (CallFrameInstruction T)) (i : CallFrameInstruction T) (r : ℕ) → names r (action i) ≡ true → is_toggle (action i) ≡ false → final_rule s initial (ys ++ i ∷ []) r ≡ written_rule s initial (action i)
  rule_push_writer s initial ys i r named writer =
      rule_push s initial ys i r
      ∙ ap (λ b. rule_after_toggles (cond b 0 (final_toggles ys r + cond (toggles r (action i)) 1 0)) (cond b (written_rule s initial (action i)) (rule_before_toggles s initial ys r))) (ap (λ b. not b && names r (action i)) writer ∙ named)

  -- a toggle counts one more
  pub rule_push_toggle : (s : Setting) (initial : ℕ → Option (RegisterRule T)) (ys : List (CallFrameInstruction T)) → final_rule s initial (ys ++ instruction.NegateRaState ∷ []) ra_sign_state ≡ rule_after_toggles (suc (final_toggles ys ra_sign_state)) (rule_before_toggles s initial ys ra_sign_state)
  rule_push_toggle s initial ys =
      rule_push s initial ys instruction.NegateRaState ra_sign_state
      ∙ ap (λ n. rule_after_toggles n (rule_before_toggles s initial ys ra_sign_state)) (add-one (final_toggles ys ra_sign_state))

  -- a register that is not named has no rule
  unnamed_behind : (s : Setting) (initial : ℕ → Option (RegisterRule T)) (zs ys : List (CallFrameInstruction T)) (r : ℕ) → list_any (λ j. names r (action j)) ys ≡ false → final_rule s initial (zs ++ ys) r ≡ final_rule s initial zs r
  unnamed_behind s initial zs [] r none = ap (λ l. final_rule s initial l r) (append-nil zs)
  unnamed_behind s initial zs (y ∷ ys) r none =
      let parts = or_parts (names r (action y)) (list_any (λ j. names r (action j)) ys) none in
      ap (λ l. final_rule s initial l r) (sym (append_assoc zs (y ∷ []) ys))
      ∙ unnamed_behind s initial (zs ++ y ∷ []) ys r parts.1
      ∙ rule_push_other s initial zs y r parts.0

  -- ---- all rules as a map

  named-any : (ys : List (CallFrameInstruction T)) (r : ℕ) → list_any (λ k. eqb k r) (filter_map (λ j. written_register (action j)) ys) ≡ list_any (λ j. names r (action j)) ys
  named-any [] r = refl
  named-any (y ∷ ys) r = named_step (written_register (action y)) r (filter_map (λ j. written_register (action j)) ys) ∙ ap (λ b. names r (action y) || b) (named-any ys r)

  only_named : (s : Setting) (initial : ℕ → Option (RegisterRule T)) (ys : List (CallFrameInstruction T)) (r : ℕ) (b : Bool) → list_any (λ j. names r (action j)) ys ≡ b → cond b (final_rule s initial ys r) None ≡ final_rule s initial ys r
  only_named s initial ys r true e = refl
  only_named s initial ys r false e = sym (unnamed_behind s initial [] ys r e)

  pub get-rules_left : (s : Setting) (initial : ℕ → Option (RegisterRule T)) (ys : List (CallFrameInstruction T)) (r : ℕ) → map.get (final_rules s initial ys) r ≡ final_rule s initial ys r
  get-rules_left s initial ys r =
      map.get-from_entries nat_cmp_total (entries_at (final_rule s initial ys) (registers_named ys)) r
      ∙ find-entries_at (final_rule s initial ys) (registers_named ys) r
      ∙ ap (λ b. cond b (final_rule s initial ys r) None) (distinct-any r (filter_map (λ j. written_register (action j)) ys) ∙ named-any ys r)
      ∙ only_named s initial ys r (list_any (λ j. names r (action j)) ys) refl

  pub len-rules_left : (s : Setting) (initial : ℕ → Option (RegisterRule T)) (ys : List (CallFrameInstruction T)) → map.len (final_rules s initial ys) ≡ length (registers_with_rule s initial ys)
  len-rules_left s initial ys = len-entries_at (final_rule s initial ys) (filter_map (λ j. written_register (action j)) ys)

  -- a map that answers as the list's rules is the map of these
  pub is_rules_left : (s : Setting) (initial : ℕ → Option (RegisterRule T)) (ys : List (CallFrameInstruction T)) (m : Rules T) → ((q : ℕ) → map.get m q ≡ final_rule s initial ys q) → m ≡ final_rules s initial ys
  is_rules_left s initial ys m answers = map.same_map nat_cmp_total map.nat_cmp-IsAntisymmetric m (final_rules s initial ys) (λ q. answers q ∙ sym (get-rules_left s initial ys q))

  names_other : (i : CallFrameInstruction T) (q r : ℕ) → written_register (action i) ≡ Some r → (q ≡ r → ⊥) → names q (action i) ≡ false
  names_other i q r e ne = ap (λ o. option_map_or (λ k. eqb k q) o false) e ∙ ne_eqb r q (λ h. ne (sym h))

  -- what a change of one register's entry answers
  changed_step : (s : Setting) (initial : ℕ → Option (RegisterRule T)) (ys : List (CallFrameInstruction T)) (i : CallFrameInstruction T) (r : ℕ) (o : Option (RegisterRule T)) →
      written_register (action i) ≡ Some r → final_rule s initial (ys ++ i ∷ []) r ≡ o → (q : ℕ) → (q ≡ r) ⊎ (q ≡ r → ⊥) → cond (eq_by_cmp nat_cmp q r) o (map.get (final_rules s initial ys) q) ≡ final_rule s initial (ys ++ i ∷ []) q
  changed_step s initial ys i r o named changed q (inl e) = ap (λ b. cond b o (map.get (final_rules s initial ys) q)) (unsigned_tied q r ∙ eq-eqb q r e) ∙ sym changed ∙ ap (final_rule s initial (ys ++ i ∷ [])) (sym e)
  changed_step s initial ys i r o named changed q (inr ne) = ap (λ b. cond b o (map.get (final_rules s initial ys) q)) (unsigned_tied q r ∙ ne_eqb q r ne) ∙ get-rules_left s initial ys q ∙ sym (rule_push_other s initial ys i q (names_other i q r named ne))

  -- where the register's rule is new, the map has it inserted; where it is none, removed
  pub rules_push_insert : (s : Setting) (initial : ℕ → Option (RegisterRule T)) (ys : List (CallFrameInstruction T)) (i : CallFrameInstruction T) (r : ℕ) (v : RegisterRule T) →
      written_register (action i) ≡ Some r → final_rule s initial (ys ++ i ∷ []) r ≡ Some v → map.insert (final_rules s initial ys) r v ≡ final_rules s initial (ys ++ i ∷ [])
  rules_push_insert s initial ys i r v named changed = is_rules_left s initial (ys ++ i ∷ []) _ (λ q. get-insert (final_rules s initial ys) r v q ∙ changed_step s initial ys i r (Some v) named changed q (cases_eq q r))

  pub rules_push_remove : (s : Setting) (initial : ℕ → Option (RegisterRule T)) (ys : List (CallFrameInstruction T)) (i : CallFrameInstruction T) (r : ℕ) →
      written_register (action i) ≡ Some r → final_rule s initial (ys ++ i ∷ []) r ≡ None → map.remove (final_rules s initial ys) r ≡ final_rules s initial (ys ++ i ∷ [])
  rules_push_remove s initial ys i r named changed = is_rules_left s initial (ys ++ i ∷ []) _ (λ q. get-remove (final_rules s initial ys) r q ∙ changed_step s initial ys i r None named changed q (cases_eq q r))

  pub rules_push_unnamed : (s : Setting) (initial : ℕ → Option (RegisterRule T)) (ys : List (CallFrameInstruction T)) (i : CallFrameInstruction T) → written_register (action i) ≡ None → final_rules s initial ys ≡ final_rules s initial (ys ++ i ∷ [])
  rules_push_unnamed s initial ys i unnamed = is_rules_left s initial (ys ++ i ∷ []) _ (λ q. get-rules_left s initial ys q ∙ sym (rule_push_other s initial ys i q (ap (λ o. option_map_or (λ k. eqb k q) o false) unnamed)))

  -- ---- the CFA and the argument size

  pub cfa_push : (s : Setting) (ys : List (CallFrameInstruction T)) (i : CallFrameInstruction T) →
      final_cfa s (ys ++ i ∷ []) ≡ cfa_from (option_flatten (option_or (written_cfa (action i)) (last_written written_cfa ys))) (unwrap_or (option_or (written_cfa_register (action i)) (last_written written_cfa_register ys)) (record { 0 = 0 })) (unwrap_or (option_or (written_cfa_offset s (action i)) (last_written (written_cfa_offset s) ys)) (pos 0))
  cfa_push s ys i = λ k. cfa_from (option_flatten (last_written_push written_cfa ys i k)) (unwrap_or (last_written_push written_cfa_register ys i k) (record { 0 = 0 })) (unwrap_or (last_written_push (written_cfa_offset s) ys i k) (pos 0))

  pub args_size_push : (ys : List (CallFrameInstruction T)) (i : CallFrameInstruction T) → final_args_size (ys ++ i ∷ []) ≡ unwrap_or (option_or (written_args_size (action i)) (last_written written_args_size ys)) 0
  args_size_push ys i = ap (λ o. unwrap_or o 0) (last_written_push written_args_size ys i)

  -- ---- all parts

  pub same_parts : (a b : Parts T) → a.cfa ≡ b.cfa → a.rules ≡ b.rules → a.args_size ≡ b.args_size → a ≡ b
  same_parts a b c r g = λ k. record { cfa = c k; rules = r k; args_size = g k }

  -- an instruction that writes nothing
  pub record IsSilent (s : Setting) (i : CallFrameInstruction T) : Type 0 where
    pub cfa : written_cfa (action i) ≡ None
    pub cfa_register : written_cfa_register (action i) ≡ None
    pub cfa_offset : written_cfa_offset s (action i) ≡ None
    pub args_size : written_args_size (action i) ≡ None
    pub register : written_register (action i) ≡ None

  pub parts_push_silent : (s : Setting) (initial : ℕ → Option (RegisterRule T)) (ys : List (CallFrameInstruction T)) (i : CallFrameInstruction T) → IsSilent s i → final_parts s initial (ys ++ i ∷ []) ≡ final_parts s initial ys
  parts_push_silent s initial ys i silent =
      same_parts _ _
      (cfa_push s ys i ∙ λ k. cfa_from (option_flatten (option_or (silent.cfa k) (last_written written_cfa ys))) (unwrap_or (option_or (silent.cfa_register k) (last_written written_cfa_register ys)) (record { 0 = 0 })) (unwrap_or (option_or (silent.cfa_offset k) (last_written (written_cfa_offset s) ys)) (pos 0)))
      (sym (rules_push_unnamed s initial ys i silent.register))
      (args_size_push ys i ∙ ap (λ o. unwrap_or (option_or o (last_written written_args_size ys)) 0) silent.args_size)

  move_silent : (s : Setting) (i : CallFrameInstruction T) → is_move i ≡ true → IsSilent s i
  move_silent s (instruction.SetLoc address) e = record { cfa = refl; cfa_register = refl; cfa_offset = refl; args_size = refl; register = refl }
  move_silent s (instruction.AdvanceLoc delta) e = record { cfa = refl; cfa_register = refl; cfa_offset = refl; args_size = refl; register = refl }
  move_silent s _ e = absurd (false≢true e)

  moves_step : (s : Setting) (initial : ℕ → Option (RegisterRule T)) (x : CallFrameInstruction T) (b : Bool) → is_move x ≡ b → (xs : List (CallFrameInstruction T)) → ((ys : List (CallFrameInstruction T)) → final_parts s initial (ys ++ xs) ≡ final_parts s initial ys) → (ys : List (CallFrameInstruction T)) → final_parts s initial (ys ++ cond b (x ∷ xs) xs) ≡ final_parts s initial ys
  moves_step s initial x true e xs rest ys = ap (final_parts s initial) (sym (append_assoc ys (x ∷ []) xs)) ∙ rest (ys ++ x ∷ []) ∙ parts_push_silent s initial ys x (move_silent s x e)
  moves_step s initial x false e xs rest ys = rest ys

  -- moves leave the parts
  pub parts_moves : (s : Setting) (initial : ℕ → Option (RegisterRule T)) (xs ys : List (CallFrameInstruction T)) → final_parts s initial (ys ++ filter is_move xs) ≡ final_parts s initial ys
  parts_moves s initial [] ys = ap (final_parts s initial) (append-nil ys)
  parts_moves s initial (x ∷ xs) ys = moves_step s initial x (is_move x) refl (filter is_move xs) (parts_moves s initial xs) ys

  -- ---- constants

  toggled_below : (n : ℕ) (o : Option (RegisterRule T)) → constant_or_zero o < 2 → constant_or_zero (rule_after_toggles n o) < 2
  toggled_below zero o h = h
  toggled_below (suc n) o h = omega arith

  written_below : (s : Setting) (initial : ℕ → Option (RegisterRule T)) → ((r : ℕ) → constant_or_zero (initial r) < 2) → (i : CallFrameInstruction T) → constant_or_zero (written_rule s initial (action i)) < 2
  written_below s initial h (instruction.Restore r) = h r.0
  written_below s initial h _ = omega arith

  chosen_below : (b : Bool) (o : Option (RegisterRule T)) → constant_or_zero o < 2 → constant_or_zero (option_flatten (cond b (Some o) None)) < 2
  chosen_below true o h = h
  chosen_below false o h = omega arith

  pub before_toggles_below : (s : Setting) (initial : ℕ → Option (RegisterRule T)) → ((r : ℕ) → constant_or_zero (initial r) < 2) → (ys : List (CallFrameInstruction T)) (r : ℕ) → constant_or_zero (rule_before_toggles s initial ys r) < 2
  before_toggles_below s initial h [] r = omega arith
  before_toggles_below s initial h (y ∷ ys) r = flatten_or (λ o. constant_or_zero o < 2) (last_written (λ j. cond (writes_rule r j) (Some (written_rule s initial j)) None) ys) _ (before_toggles_below s initial h ys r) (chosen_below (writes_rule r (action y)) (written_rule s initial (action y)) (written_below s initial h y))

  pub rule_left_below : (s : Setting) (initial : ℕ → Option (RegisterRule T)) → ((r : ℕ) → constant_or_zero (initial r) < 2) → (ys : List (CallFrameInstruction T)) (r : ℕ) → constant_or_zero (final_rule s initial ys r) < 2
  rule_left_below s initial h ys r = toggled_below (final_toggles ys r) (rule_before_toggles s initial ys r) (before_toggles_below s initial h ys r)

  pub toggled_none : (n : ℕ) (o : Option (RegisterRule T)) → rule_after_toggles n o ≡ None → rule_after_toggles (suc n) o ≡ Some (rule.Constant 1)
  toggled_none zero o e = ap (rule_after_toggles 1) e
  toggled_none (suc n) o e = cc

  pub toggled_constant : (n : ℕ) (o : Option (RegisterRule T)) (v : ℕ) → constant_or_zero o < 2 → rule_after_toggles n o ≡ Some (rule.Constant v) → rule_after_toggles (suc n) o ≡ Some (rule.Constant (bit_xor v 1))
  toggled_constant zero o v h e =
      let value : constant_or_zero o ≡ v = ap constant_or_zero e in
      ap (λ k. Some (rule.Constant k)) (parity (constant_or_zero o) v (omega arith))
  toggled_constant (suc n) o v h e =
      let value : (constant_or_zero o + suc n) % 2 ≡ v = ap constant_or_zero e in
      let next : constant_or_zero o + suc (suc n) ≡ constant_or_zero o + suc n + 1 = omega arith in
      ap (λ k. Some (rule.Constant (k % 2))) next ∙ ap (λ k. Some (rule.Constant k)) (parity (constant_or_zero o + suc n) v value)
