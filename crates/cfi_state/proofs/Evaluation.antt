-- An instruction that gives a register a rule, or defines the CFA or half of it, changes a context by the machine's step.
use Rattle.std.proofs.Common.{rules, ap, ◌∙◌, ◌≡◌, ℕ, ◌*◌, ◌%◌, ◌^◌, Bool, true, false, not, cond, Option, Some, None, is_some, IsTrue, refl, sym, subst, Result, Ok, Err, ◌&&◌, inl, inr}
use Rattle.std.specs.Option.{IfSome}
use Rattle.std.specs.Result.{result_and}
use Rattle.std.specs.FinMap.{get, insert, len, contains_key}
use Rattle.cfi_read_core.specs.AddressSizes.{size_in_bytes}
use Rattle.cfi_read_core.specs.Addresses.{checked_sum}
use Rattle.cfi_read_core.specs.ReaderCalls.{map_ok}
use Rattle.cfi_read_core.specs.declared.common.Register.{Register}
use Rattle.cfi_read_core.specs.declared.error.Error.{Error}
use Rattle.cfi_read_core.specs.declared.error.Error.TheVariants.{AddressOverflow, TooManyRegisterRules}
use Rattle.cfi_read_core.specs.declared.instruction.CallFrameInstruction.{CallFrameInstruction}
use Rattle.cfi_read_core.specs.declared.instruction.CallFrameInstruction.TheVariants.{AdvanceLoc, Restore}
use Rattle.cfi_state.specs.declared.table.rules.CfaRule.{CfaRule}
use Rattle.cfi_state.specs.declared.table.rules.RegisterRule.{RegisterRule}
use Rattle.cfi_state.specs.declared.table.machine.Parameters.{Parameters}
use Rattle.cfi_state.specs.AllocatingOperations.{Performs}
use Rattle.cfi_state.specs.MachineSettings.{Setting, is_at_limit, advanced_location, fits_address, moves, is_move, rule_given}
use Rattle.cfi_state.specs.Machine.{Rules, State, perform, step}
use Rattle.cfi_state.specs.Machine as machine
use Rattle.cfi_state.specs.RulePairs.{map_set_rule, AddsRule}
use Rattle.cfi_state.specs.Row.{row_with_cfa, row_with_rules}
use Rattle.cfi_state.specs.UnwindContexts.{ContextState, initial_rule_in, machine_state, with_row}
use Rattle.cfi_state.specs.Allocation.{adds_rule, has_initial_rule, may_allocate_for, may_allocate_at}
use Rattle.cfi_state.specs.AllocatingOperations.{IsRefusal}
use Rattle.cfi_state.specs.ContextEffects.{setting_of, Changes, Runs, rows_after, remembered_after}
use Rattle.cfi_state.specs.Actions.{Action, gives_rule, action}

adds : {T : Type 0} (limit : Option ℕ) (m : Rules T) (register : ℕ) → AddsRule limit m register
    → IsTrue (not (is_some limit) && not (contains_key m register))
adds None m register is = rw is.1 refl
adds (Some most) m register is = search rules

restored : {T : Type 0} (s : Setting) (x : State T) (register : ℕ) (rule : RegisterRule T) (initial : Option (Rules T)) → initial_rule_in initial register ≡ Ok (Some rule)
    → (machine.restore_rule s x register initial ≡ machine.set_rule s x register rule) × (has_initial_rule initial register ≡ true)
restored s x register rule None is = absurd (cc)
restored s x register rule (Some rules) is = let there : get rules register ≡ Some rule = cc in (ap (machine.set_or_remove_rule s x register) there, ap is_some there)

module _ {T : Type 0} (s : Setting) (copies_free : Bool) (location : ℕ) (old new : ContextState T) where
  -- what a context answers that sets a rule
  abbrev pub IsSet : Register → RegisterRule T → Result (Unit {0}) Error → Type 0
  IsSet register rule result =
      Performs (AddsRule s.rule_limit old.row.parts.rules register.0)
      (map_ok (λ rules. with_row old (row_with_rules old.row rules)) (map_set_rule s.rule_limit old.row.parts.rules register.0 rule)) old new result

  -- the same by the machine
  abbrev Sets : Register → Result (State T) Error → Result (Unit {0}) Error → Type 0
  Sets register expected (Ok _) =
      (expected ≡ Ok (machine_state location new)) × ((new.row.start_address ≡ old.row.start_address) × ((new.row.end_address ≡ old.row.end_address)
      × ((new.remembered ≡ old.remembered) × (new.initial_rules ≡ old.initial_rules))))
  Sets register expected (Err error) =
      (new ≡ old) × IsRefusal (adds_rule s (machine_state location old) register.0) expected error

  by_test : (register : Register) (rules : Rules T) (test : Bool) (result : Result (Unit {0}) Error)
      → Performs (AddsRule s.rule_limit old.row.parts.rules register.0)
      (map_ok (λ rules. with_row old (row_with_rules old.row rules)) (cond test (Err TooManyRegisterRules) (Ok rules))) old new result
      → Sets register (cond test (Err TooManyRegisterRules) (Ok (machine.with_rules (machine_state location old) rules))) result
  by_test register rules true (Ok _) performs = absurd performs
  by_test register rules true (Err error) performs = (performs.1, inl (ap Err (sym performs.0)))
  by_test register rules false (Ok _) performs = (
    ap (λ x. Ok (machine_state location x)) (sym performs),
    (ap (λ x. x.row.start_address) performs, (ap (λ x. x.row.end_address) performs, (ap (λ x. x.remembered) performs, ap (λ x. x.initial_rules) performs))),
  )
  by_test register rules false (Err error) performs =
      (performs.1, inr (adds s.rule_limit old.row.parts.rules register.0 performs.2, refl, performs.0))

  sets : (register : Register) (rule : RegisterRule T) (result : Result (Unit {0}) Error) → IsSet register rule result
      → Sets register (machine.set_rule s (machine_state location old) register.0 rule) result
  sets register rule result =
      by_test register (insert old.row.parts.rules register.0 rule)
      (not (contains_key old.row.parts.rules register.0) && is_at_limit s.rule_limit (len old.row.parts.rules)) result

  of_sets : (i : CallFrameInstruction T) (register : Register) (expected : Result (State T) Error) (result : Result (Unit {0}) Error)
      → step s (machine_state location old) i ≡ expected
      → may_allocate_at s copies_free (machine_state location old) i ≡ adds_rule s (machine_state location old) register.0
      → old.remembered ≡ remembered_after i old → Sets register expected result → Changes s copies_free location i old new result
  of_sets i register expected (Ok _) is allocates kept set =
      record { accepted = is ∙ set.0; start_address = set.1.0; end_address = set.1.1.0; remembered_rows = set.1.1.1.0 ∙ kept; initial_rules = set.1.1.1.1 }
  of_sets i register expected (Err error) is allocates kept set = (
    set.0,
    subst (λ w. IsRefusal w (step s (machine_state location old) i) error) (sym allocates)
        (subst (λ due. IsRefusal (adds_rule s (machine_state location old) register.0) due error) (sym is) set.1),
  )

  pub gives : (i : CallFrameInstruction T) (register : Register) (rule : RegisterRule T) (result : Result (Unit {0}) Error)
      → step s (machine_state location old) i ≡ machine.set_rule s (machine_state location old) register.0 rule
      → may_allocate_at s copies_free (machine_state location old) i ≡ adds_rule s (machine_state location old) register.0
      → old.remembered ≡ remembered_after i old → IsSet register rule result → Changes s copies_free location i old new result
  gives i register rule result is allocates kept set = of_sets i register _ result is allocates kept (sets register rule result set)

  -- so does the restoring of a rule that the CIE's initial instructions left
  pub restores : (register : Register) (rule : RegisterRule T) (result : Result (Unit {0}) Error) → initial_rule_in old.initial_rules register.0 ≡ Ok (Some rule)
      → IsSet register rule result → Changes s copies_free location (Restore register) old new result
  restores register rule result is set =
      let left = restored s (machine_state location old) register.0 rule old.initial_rules is in
      gives (Restore register) register rule result left.0 (ap (λ has. has && adds_rule s (machine_state location old) register.0) left.1) refl set

module _ {T : Type 0} (p : Parameters) (rule_limit stack_limit : Option ℕ) (copies_free : Bool) (location : ℕ) (old new : ContextState T) where
  abbrev pub RunsWith : CallFrameInstruction T → Result (Option ℕ) Error → Type 0
  RunsWith i = Runs (setting_of p rule_limit stack_limit) copies_free location i old new

  -- a change is a run that returns no address
  pub changed : (i : CallFrameInstruction T) (result : Result (Unit {0}) Error) → is_move i ≡ false → Changes (setting_of p rule_limit stack_limit) copies_free location i old new result
      → RunsWith i (result_and result (Ok None))
  changed i (Ok _) stays changes = (changes, sym stays)
  changed i (Err error) stays changes = (changes, tt)

  -- an instruction that gives a register a rule sets that rule
  sets-given-by : (i : CallFrameInstruction T) (e : Action T) (result : Result (Unit {0}) Error) → action i ≡ e
      → IfSome (rule_given (setting_of p None None) e) (λ given. IsSet (setting_of p rule_limit stack_limit) copies_free location old new given.0 given.1 result → RunsWith i (result_and result (Ok None)))
  sets-given-by i (gives_rule r rule) result is = λ set.
      changed i result (ap moves is)
      (gives (setting_of p rule_limit stack_limit) copies_free location old new i r (rule p.data_alignment_factor) result (ap (perform (setting_of p rule_limit stack_limit) (machine_state location old)) is)
      (ap (may_allocate_for (setting_of p rule_limit stack_limit) copies_free (machine_state location old)) is) (sym (ap (λ e. rows_after e old) is)) set)
  sets-given-by i _ result is = tt

  pub sets-given : (i : CallFrameInstruction T) (result : Result (Unit {0}) Error) (given : Register × RegisterRule T)
      → rule_given (setting_of p None None) (action i) ≡ Some given
      → IsSet (setting_of p rule_limit stack_limit) copies_free location old new given.0 given.1 result → RunsWith i (result_and result (Ok None))
  sets-given i result given is =
      subst (λ o. IfSome o (λ given. IsSet (setting_of p rule_limit stack_limit) copies_free location old new given.0 given.1 result → RunsWith i (result_and result (Ok None)))) is
      (sets-given-by i (action i) result refl)

-- an instruction that defines the CFA or half of it
module _ {T : Type 0} (s : Setting) (copies_free : Bool) (location : ℕ) (old : ContextState T) (i : CallFrameInstruction T) (stays : is_move i ≡ false) (given : Result (CfaRule T) Error)
    (steps : step s (machine_state location old) i ≡ map_ok (machine.with_cfa (machine_state location old)) given) where
  pub cfa-refused : (error : Error) → given ≡ Err error → Runs s copies_free location i old old (Err error)
  cfa-refused error is = ((refl, inl (steps ∙ ap (map_ok (machine.with_cfa (machine_state location old))) is)), tt)

  pub cfa-set : (cfa : CfaRule T) (new : ContextState T) → given ≡ Ok cfa → new ≡ with_row old (row_with_cfa old.row cfa) → old.remembered ≡ remembered_after i old
      → Runs s copies_free location i old new (Ok None)
  cfa-set cfa new is set kept = (
    record {
      accepted = steps ∙ ap (map_ok (machine.with_cfa (machine_state location old))) is ∙ ap (λ x. Ok (machine_state location x)) (sym set);
      start_address = ap (λ x. x.row.start_address) set;
      end_address = ap (λ x. x.row.end_address) set;
      remembered_rows = ap (λ x. x.remembered) set ∙ kept;
      initial_rules = ap (λ x. x.initial_rules) set;
    },
    sym stays,
  )

module _ {T : Type 0} (p : Parameters) (rule_limit stack_limit : Option ℕ) (copies_free : Bool) (location : ℕ) (context : ContextState T) where
  if_fits : (fits : Bool) (sum address : ℕ) → cond fits (Ok sum) (Err AddressOverflow) ≡ Ok address
      → cond fits (Ok (machine_state sum context)) (Err AddressOverflow) ≡ Ok (machine_state address context)
  if_fits true sum address is = let same : sum ≡ address = cc in ap (λ n. Ok (machine_state n context)) same
  if_fits false sum address is = absurd (cc)

  -- a move by so many units, if the sum is an address
  pub advances : (delta units size address : ℕ) (sum : Result ℕ Error) → map_ok (λ n. n) sum ≡ checked_sum location (units * p.code_alignment_factor % 2 ^ 64) size
      → units ≡ delta → size ≡ size_in_bytes p.address_size → sum ≡ Ok address → Runs (setting_of p rule_limit stack_limit) copies_free location (AdvanceLoc delta) context context (Ok (Some address))
  advances delta units size address sum is units_are size_is there =
      let due = sym is ∙ ap (map_ok (λ n. n)) there in
      let moved = subst (λ n. checked_sum location (n * p.code_alignment_factor % 2 ^ 64) size ≡ Ok address) units_are due in
      let fits = subst (λ n. checked_sum location (delta * p.code_alignment_factor % 2 ^ 64) n ≡ Ok address) size_is moved in
      ((if_fits (fits_address (setting_of p None None) (advanced_location (setting_of p None None) location delta)) (advanced_location (setting_of p None None) location delta) address fits, refl), refl)
