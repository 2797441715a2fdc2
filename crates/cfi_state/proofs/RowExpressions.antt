-- What holds of each expression in the instructions of an FDE and its CIE, holds of each expression in its rows.
use Rattle.std.proofs.Common.{◌≡◌, ℕ, Bool, true, false, cond, List, [], ◌∷◌, Option, Some, None, Result, Ok, Err, sym, subst}
use Rattle.std.specs.Prelude.{IfSome, IfOk}
use Rattle.std.specs.List.{AllByRecursion}
use Rattle.std.specs.Option.{option_map}
use Rattle.std.specs.Ordering.{nat_cmp, eq_by_cmp}
use Rattle.std.specs.Cmp.{nat_cmp_total}
use Rattle.std.specs.FinMap as map
use Rattle.cfi_read_core.specs.ReadFunctions.{Readings}
use Rattle.cfi_read_core.specs.declared.common.Register.{Register}
use Rattle.cfi_read_core.specs.declared.error.Error.{Error}
use Rattle.cfi_read_core.specs.declared.instruction.UnwindExpression.{UnwindExpression}
use Rattle.cfi_read_core.specs.declared.instruction.CallFrameInstruction.{CallFrameInstruction}
use Rattle.cfi_read_core.specs.declared.instruction.CallFrameInstruction.TheVariants as instruction
use Rattle.cfi_read_core.specs.MappedInstructions.{map_expression}
use Rattle.cfi_read_core.specs.ExpressionPlaces.{expression_of}
use Rattle.cfi_state.specs.declared.table.rules.CfaRule.{CfaRule}
use Rattle.cfi_state.specs.declared.table.rules.CfaRule.TheVariants as cfa
use Rattle.cfi_state.specs.declared.table.rules.RegisterRule.{RegisterRule}
use Rattle.cfi_state.specs.declared.table.rules.RegisterRule.TheVariants as rule
use Rattle.cfi_state.specs.MachineSettings.{Setting, ra_sign_state, advanced_location}
use Rattle.cfi_state.specs.Machine.{Rules, Parts, State, fresh_state, with_rules, set_rule, set_or_remove_rule, restore_rule, set_cfa_register, set_cfa_offset, toggle, restore_state, step, end_of_cie}
use Rattle.cfi_state.specs.MappedStates.{map_rule, map_cfa, map_parts}
use Rattle.cfi_state.specs.Row.{Row}
use Rattle.cfi_state.specs.UnwindTableStates.{TableState, before_last_row}
use Rattle.cfi_state.specs.MachineRuns.{NextAnswer, passes, ends_row, refuses, cannot_read, last_row, no_row, RunsInitialInstructions, cie_passes, cie_refuses, cie_cannot_read, cie_ends, cie_end_refused, FindsRow, contains_it, goes_on, is_refused, comes_to_end, AnswersFde, by_cie, by_rows}
use Rattle.cfi_state.specs.Allocation.{MayAllocate}
use Rattle.cfi_state.specs.RowExpressions.{cfa_expression, rule_expression, EachOfRules, EachExpression, EachOfState, EachOfTable}
use Rattle.cfi_state.proofs.MappedMaps.{get-map_values}

module _ {T : Type 0} (Q : UnwindExpression T → Type 0) where
  abbrev Holds : CallFrameInstruction T → Type 0
  Holds i = IfSome (expression_of i) Q

  abbrev OfRule : RegisterRule T → Type 0
  OfRule rule = IfSome (rule_expression rule) Q

  -- ---- the map of rules

  chosen : (b : Bool) (rule : RegisterRule T) (o : Option (RegisterRule T)) → OfRule rule → IfSome o OfRule → IfSome (cond b (Some rule) o) OfRule
  chosen true rule o held others = held
  chosen false rule o held others = others

  inserted : (rules : Rules T) (r : ℕ) (rule : RegisterRule T) → OfRule rule → EachOfRules Q rules → EachOfRules Q (map.insert rules r rule)
  inserted rules r rule held others q =
      subst (λ o. IfSome o OfRule) (sym (map.get-insert nat_cmp_total rules r rule q)) (chosen (eq_by_cmp nat_cmp q r) rule (map.get rules q) held (others q))

  left_out : (b : Bool) (o : Option (RegisterRule T)) → IfSome o OfRule → IfSome (cond b None o) OfRule
  left_out true o others = tt
  left_out false o others = others

  removed : (rules : Rules T) (r : ℕ) → EachOfRules Q rules → EachOfRules Q (map.remove rules r)
  removed rules r others q = subst (λ o. IfSome o OfRule) (sym (map.get-remove nat_cmp_total rules r q)) (left_out (eq_by_cmp nat_cmp q r) (map.get rules q) (others q))

  -- ---- one step

  either : (b : Bool) (one other : Result (State T) Error) → IfOk one (EachOfState Q) → IfOk other (EachOfState Q) → IfOk (cond b one other) (EachOfState Q)
  either true one other h k = h
  either false one other h k = k

  set_holds : (s : Setting) (x : State T) (r : ℕ) (rule : RegisterRule T) → OfRule rule → EachOfState Q x → IfOk (set_rule s x r rule) (EachOfState Q)
  set_holds s x r rule held h =
      let kept : EachOfState Q (with_rules x (map.insert x.parts.rules r rule)) = record { parts = (h.parts.0, inserted x.parts.rules r rule held h.parts.1); remembered = h.remembered; initial = h.initial } in
      either _ (Err _) (Ok _) tt kept

  set_or_remove_holds : (s : Setting) (x : State T) (r : ℕ) (o : Option (RegisterRule T)) → IfSome o OfRule → EachOfState Q x → IfOk (set_or_remove_rule s x r o) (EachOfState Q)
  set_or_remove_holds s x r None held h = record { parts = (h.parts.0, removed x.parts.rules r h.parts.1); remembered = h.remembered; initial = h.initial }
  set_or_remove_holds s x r (Some rule) held h = set_holds s x r rule held h

  restore_holds : (s : Setting) (x : State T) (r : ℕ) (o : Option (Rules T)) → IfSome o (EachOfRules Q) → EachOfState Q x → IfOk (restore_rule s x r o) (EachOfState Q)
  restore_holds s x r None held h = tt
  restore_holds s x r (Some initial) held h = set_or_remove_holds s x r (map.get initial r) (held r) h

  cfa_register_holds : (x : State T) (r : Register) (c : CfaRule T) → EachOfState Q x → IfOk (set_cfa_register x r c) (EachOfState Q)
  cfa_register_holds x r (cfa.RegisterAndOffset _ offset) h = record { parts = (tt, h.parts.1); remembered = h.remembered; initial = h.initial }
  cfa_register_holds x r (cfa.Expression e) h = tt

  cfa_offset_holds : (x : State T) (offset : _) (c : CfaRule T) → EachOfState Q x → IfOk (set_cfa_offset x offset c) (EachOfState Q)
  cfa_offset_holds x offset (cfa.RegisterAndOffset r _) h = record { parts = (tt, h.parts.1); remembered = h.remembered; initial = h.initial }
  cfa_offset_holds x offset (cfa.Expression e) h = tt

  toggle_holds : (s : Setting) (x : State T) (o : Option (RegisterRule T)) → EachOfState Q x → IfOk (toggle s x o) (EachOfState Q)
  toggle_holds s x None h = set_holds s x ra_sign_state _ tt h
  toggle_holds s x (Some (rule.Constant value)) h = set_holds s x ra_sign_state _ tt h
  toggle_holds s x (Some _) h = tt

  restore_state_holds : (x : State T) (rows : List (Parts T)) → AllByRecursion (EachExpression Q) rows → EachOfState Q x → IfOk (restore_state x rows) (EachOfState Q)
  restore_state_holds x [] all h = tt
  restore_state_holds x (parts ∷ rows) all h = record { parts = all.0; remembered = all.1; initial = h.initial }

  elsewhere : (x : State T) (location : ℕ) → EachOfState Q x → EachOfState Q (record x { location = location })
  elsewhere x location h = record { parts = h.parts; remembered = h.remembered; initial = h.initial }

  performs : (s : Setting) (x : State T) (i : CallFrameInstruction T) → Holds i → EachOfState Q x → IfOk (step s x i) (EachOfState Q)
  performs s x (instruction.SetLoc address) held h = either _ (Err _) (Ok _) tt (elsewhere x address h)
  performs s x (instruction.AdvanceLoc delta) held h = either _ (Ok _) (Err _) (elsewhere x (advanced_location s x.location delta) h) tt
  performs s x (instruction.DefCfa r offset) held h = record { parts = (tt, h.parts.1); remembered = h.remembered; initial = h.initial }
  performs s x (instruction.DefCfaSf r offset) held h = record { parts = (tt, h.parts.1); remembered = h.remembered; initial = h.initial }
  performs s x (instruction.DefCfaRegister r) held h = cfa_register_holds x r x.parts.cfa h
  performs s x (instruction.DefCfaOffset offset) held h = cfa_offset_holds x _ x.parts.cfa h
  performs s x (instruction.DefCfaOffsetSf offset) held h = cfa_offset_holds x _ x.parts.cfa h
  performs s x (instruction.DefCfaExpression e) held h = record { parts = (held, h.parts.1); remembered = h.remembered; initial = h.initial }
  performs s x (instruction.Undefined r) held h = set_holds s x r.0 _ tt h
  performs s x (instruction.SameValue r) held h = set_holds s x r.0 _ tt h
  performs s x (instruction.Offset r n) held h = set_holds s x r.0 _ tt h
  performs s x (instruction.OffsetExtendedSf r n) held h = set_holds s x r.0 _ tt h
  performs s x (instruction.OffsetExtendedNegative r n) held h = set_holds s x r.0 _ tt h
  performs s x (instruction.ValOffset r n) held h = set_holds s x r.0 _ tt h
  performs s x (instruction.ValOffsetSf r n) held h = set_holds s x r.0 _ tt h
  performs s x (instruction.Register r source) held h = set_holds s x r.0 _ tt h
  performs s x (instruction.Expression r e) held h = set_holds s x r.0 _ held h
  performs s x (instruction.ValExpression r e) held h = set_holds s x r.0 _ held h
  performs s x (instruction.Restore r) held h = restore_holds s x r.0 x.initial_rules h.initial h
  performs s x instruction.RememberState held h =
      let kept : EachOfState Q (record x { remembered = x.parts ∷ x.remembered }) = record { parts = h.parts; remembered = (h.parts, h.remembered); initial = h.initial } in
      either _ (Err _) (Ok _) tt kept
  performs s x instruction.RestoreState held h = restore_state_holds x x.remembered h.remembered h
  performs s x (instruction.ArgsSize size) held h = record { parts = h.parts; remembered = h.remembered; initial = h.initial }
  performs s x instruction.NegateRaState held h = toggle_holds s x (map.get x.parts.rules ra_sign_state) h
  performs s x instruction.Nop held h = h

  stepped : (s : Setting) (x y : State T) (i : CallFrameInstruction T) → step s x i ≡ Ok y → Holds i → EachOfState Q x → EachOfState Q y
  stepped s x y i is held h = subst (λ r. IfOk r (EachOfState Q)) is (performs s x i held h)

  ended : (s : Setting) (x y : State T) → end_of_cie s x ≡ Ok y → EachOfState Q x → EachOfState Q y
  ended s x y is h =
      let kept : EachOfState Q (record x { location = s.initial_address; initial_rules = Some x.parts.rules }) = record { parts = h.parts; remembered = h.remembered; initial = h.parts.1 } in
      subst (λ r. IfOk r (EachOfState Q)) is (either _ (Err _) (Ok _) tt kept)

  starts : EachOfState Q fresh_state
  starts = record { parts = (tt, λ r. subst (λ o. IfSome o OfRule) (sym (map.get-empty nat_cmp r)) tt); remembered = tt; initial = tt }

  -- ---- runs

  module _ (allocates : MayAllocate T) (s : Setting) where
    abbrev pub AnswerHolds : Result (Option (Row T)) Error → Type 0
    AnswerHolds answer = IfOk answer (λ found. IfSome found (λ row. EachExpression Q row.parts))

    pub next_holds : (p : TableState (State T) T) (answer : Result (Option (Row T)) Error) (q : TableState (State T) T) → NextAnswer allocates s p answer q → EachOfTable Q p → AnswerHolds answer × EachOfTable Q q
    next_holds p answer q (passes x y i rest answer' q' still is next) h =
        next_holds (before_last_row y rest) answer' q' next (record { so_far = stepped s x y i is h.left.0 h.so_far; left = h.left.1 })
    next_holds p answer q (ends_row x y i rest moves is) h = (h.so_far.parts, record { so_far = stepped s x y i is h.left.0 h.so_far; left = h.left.1 })
    next_holds p answer q (refuses x i rest e refusal) h = (tt, record { so_far = h.so_far; left = h.left.1 })
    next_holds p answer q (cannot_read x e) h = (tt, record { so_far = h.so_far; left = tt })
    next_holds p answer q (last_row x) h = (h.so_far.parts, record { so_far = h.so_far; left = tt })
    next_holds p answer q (no_row x left) h = (tt, record { so_far = h.so_far; left = h.left })

    finds_holds : (address : ℕ) (p : TableState (State T) T) (result : Result (Row T) Error) → FindsRow (NextAnswer allocates s) address p result → EachOfTable Q p → IfOk result (λ row. EachExpression Q row.parts)
    finds_holds address p result (contains_it p' q row next inside) h = (next_holds p' (Ok (Some row)) q next h).0
    finds_holds address p result (goes_on p' q row result' next outside finds) h = finds_holds address q result' finds (next_holds p' (Ok (Some row)) q next h).1
    finds_holds address p result (is_refused p' q e next) h = tt
    finds_holds address p result (comes_to_end p' q next) h = tt

    cie_holds : (x : State T) (reads : Readings (CallFrameInstruction T)) (result : Result (State T) Error) → RunsInitialInstructions allocates s x reads result → EachOfState Q x → AllByRecursion Holds reads.values → IfOk result (EachOfState Q)
    cie_holds x reads result (cie_passes x' y i rest result' is runs) h all = cie_holds y rest result' runs (stepped s x' y i is all.0 h) all.1
    cie_holds x reads result (cie_refuses x' i rest e refusal) h all = tt
    cie_holds x reads result (cie_cannot_read x' e) h all = tt
    cie_holds x reads result (cie_ends x' y is) h all = ended s x' y is h
    cie_holds x reads result (cie_end_refused x' e refusal) h all = tt

    pub initial_holds : (reads : Readings (CallFrameInstruction T)) (result : Result (State T) Error) → RunsInitialInstructions allocates s fresh_state reads result → AllByRecursion Holds reads.values → IfOk result (EachOfState Q)
    initial_holds reads result runs all = cie_holds fresh_state reads result runs starts all

    pub answer_holds : (cie fde : Readings (CallFrameInstruction T)) (address : ℕ) (result : Result (Row T) Error) → AnswersFde allocates s cie fde address result →
        AllByRecursion Holds cie.values → AllByRecursion Holds fde.values → IfOk result (λ row. EachExpression Q row.parts)
    answer_holds cie fde address result (by_cie e runs) all own = tt
    answer_holds cie fde address result (by_rows x result' runs finds) all own =
        finds_holds address (before_last_row x fde) result' finds (record { so_far = initial_holds cie (Ok x) runs all; left = own })

-- ---- the same of offsets in another type

module _ {A B : Type 0} (f : A → B) (Q : UnwindExpression B → Type 0) where
  of_cfa : (c : CfaRule A) → IfSome (cfa_expression (map_cfa f c)) Q → IfSome (cfa_expression c) (λ e. Q (map_expression f e))
  of_cfa (cfa.RegisterAndOffset r offset) h = tt
  of_cfa (cfa.Expression e) h = h

  of_rule : (r : RegisterRule A) → IfSome (rule_expression (map_rule f r)) Q → IfSome (rule_expression r) (λ e. Q (map_expression f e))
  of_rule (rule.Expression e) h = h
  of_rule (rule.ValExpression e) h = h
  of_rule _ h = tt

  of_option : (o : Option (RegisterRule A)) → IfSome (option_map (map_rule f) o) (λ r. IfSome (rule_expression r) Q) → IfSome o (λ r. IfSome (rule_expression r) (λ e. Q (map_expression f e)))
  of_option None h = tt
  of_option (Some r) h = of_rule r h

  pub of_parts : (parts : Parts A) → EachExpression Q (map_parts f parts) → EachExpression (λ e. Q (map_expression f e)) parts
  of_parts parts h = (
    of_cfa parts.cfa h.0,
    λ register. of_option (map.get parts.rules register)
        (subst (λ o. IfSome o (λ r. IfSome (rule_expression r) Q)) (get-map_values (map_rule f) parts.rules register) (h.1 register)),
  )
