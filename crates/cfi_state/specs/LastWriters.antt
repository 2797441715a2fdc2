-- Which instruction writes which part of an unwind row (DWARF 5, section 6.4.2.2 and 6.4.2.3), and
-- the parts that a list of instructions leaves: each as its last writer wrote it.
--     final_cfa, final_args_size      the rule of the CFA and the argument size
--     final_rule      the rule of a register; `initial` has those that the CIE's initial
--         instructions leave
--     registers_with_rule      the registers that have one
use Rattle.std.specs.Prelude.{ℕ, zero, suc, ◌+◌, ◌%◌, Bool, false, if◌then◌else◌, not, ◌&&◌, ◌==◌}
use Rattle.std.specs.Prelude.{ℤ, pos, List, [], ◌∷◌, filter, filter_map, count_by, Option, Some}
use Rattle.std.specs.Prelude.{None, is_some, unwrap_or}
use Rattle.std.specs.List.{list_any}
use Rattle.std.specs.Option.{option_or, option_flatten, option_map, option_map_or}
use Rattle.std.specs.FinMap as map
use Rattle.cfi_read_core.specs.declared.common.Register.{Register}
use Rattle.cfi_read_core.specs.declared.instruction.UnwindExpression.{UnwindExpression}
use Rattle.cfi_read_core.specs.declared.instruction.CallFrameInstruction.{CallFrameInstruction}
use Rattle.cfi_state.specs.declared.table.rules.CfaRule.{CfaRule}
use Rattle.cfi_state.specs.declared.table.rules.CfaRule.TheVariants as cfa
use Rattle.cfi_state.specs.declared.table.rules.RegisterRule.{RegisterRule}
use Rattle.cfi_state.specs.declared.table.rules.RegisterRule.TheVariants as rule
use Rattle.cfi_state.specs.Machine.{Rules, Parts}
use Rattle.cfi_state.specs.MachineSettings.{Setting, ra_sign_state, is_toggle}
use Rattle.cfi_state.specs.Actions.{Action, defines_cfa, defines_cfa_register, defines_cfa_offset}
use Rattle.cfi_state.specs.Actions.{defines_cfa_expression, gives_rule, restores_rule}
use Rattle.cfi_state.specs.Actions.{toggles_sign_state, sets_args_size, action}

-- what the last instruction that writes something wrote
abbrev pub last_written :
    {T B : Type 0} → (Action T → Option B) → List (CallFrameInstruction T) → Option B
last_written written [] = None
last_written written (instruction ∷ rest) =
    option_or (last_written written rest) (written (action instruction))

-- what follows the last element that passes the test, or all where none passes
abbrev pub after_last : {A : Type 0} → (A → Bool) → List A → List A
after_last test [] = []
after_last test (first ∷ rest) =
    if list_any test (first ∷ rest) then after_last test rest else first ∷ rest

-- the numbers of a list, each once
abbrev pub distinct_numbers : List ℕ → List ℕ
distinct_numbers [] = []
distinct_numbers (first ∷ rest) =
    if list_any (λ number. number == first) rest
    then distinct_numbers rest
    else first ∷ distinct_numbers rest

module _ {T : Type 0} where
  -- the whole of the CFA: an expression, or within it `None` where a register and an offset are
  -- written; `None` itself where the CFA isn't written whole
  abbrev pub written_cfa : Action T → Option (Option (UnwindExpression T))
  written_cfa (defines_cfa register offset) = Some None
  written_cfa (defines_cfa_expression expression) = Some (Some expression)
  written_cfa _ = None

  abbrev pub written_cfa_register : Action T → Option Register
  written_cfa_register (defines_cfa register offset) = Some register
  written_cfa_register (defines_cfa_register register) = Some register
  written_cfa_register _ = None

  abbrev pub written_cfa_offset : Setting → Action T → Option ℤ
  written_cfa_offset setting (defines_cfa register offset) =
      Some (offset setting.data_alignment_factor)
  written_cfa_offset setting (defines_cfa_offset offset) =
      Some (offset setting.data_alignment_factor)
  written_cfa_offset setting _ = None

  abbrev pub written_args_size : Action T → Option ℕ
  written_args_size (sets_args_size size) = Some size
  written_args_size _ = None

  -- the register whose rule is written or toggled
  abbrev pub written_register : Action T → Option ℕ
  written_register (gives_rule register rule) = Some register.0
  written_register (restores_rule register) = Some register.0
  written_register toggles_sign_state = Some ra_sign_state
  written_register _ = None

  -- the rule that a writer gives its register; a restore gives the initial rule, which may be none
  abbrev pub written_rule :
      Setting → (ℕ → Option (RegisterRule T)) → Action T → Option (RegisterRule T)
  written_rule setting initial (gives_rule register rule) =
      Some (rule setting.data_alignment_factor)
  written_rule setting initial (restores_rule register) = initial register.0
  written_rule setting initial _ = None

  -- whether the register's rule is written or toggled, is written, is toggled
  abbrev pub names : ℕ → Action T → Bool
  names register does = option_map_or (λ number. number == register) (written_register does) false

  abbrev pub writes_rule : ℕ → Action T → Bool
  writes_rule register does = not (is_toggle does) && names register does

  abbrev pub toggles : ℕ → Action T → Bool
  toggles register does = is_toggle does && names register does

  -- ---- what a list of instructions leaves, none of which is struck

  abbrev pub cfa_from : Option (UnwindExpression T) → Register → ℤ → CfaRule T
  cfa_from None register offset = cfa.RegisterAndOffset register offset
  cfa_from (Some expression) register offset = cfa.Expression expression

  -- the CFA that the last writers give; where none does it is register 0 plus 0, with which every
  -- row begins (the standard has no such value, and no producer leaves it)
  abbrev pub final_cfa : Setting → List (CallFrameInstruction T) → CfaRule T
  final_cfa setting list =
      cfa_from
      (option_flatten (last_written written_cfa list))
      (unwrap_or (last_written written_cfa_register list) (record { 0 = 0 }))
      (unwrap_or (last_written (written_cfa_offset setting) list) (pos 0))

  abbrev pub final_args_size : List (CallFrameInstruction T) → ℕ
  final_args_size list = unwrap_or (last_written written_args_size list) 0

  -- what an action writes as the register's rule: nothing, or a rule, which after a restore may be
  -- none
  abbrev pub rule_written_to :
      Setting → (ℕ → Option (RegisterRule T)) → ℕ → Action T → Option (Option (RegisterRule T))
  rule_written_to setting initial register does =
      if writes_rule register does then Some (written_rule setting initial does) else None

  -- the rule that the last writer of the register gave it
  abbrev pub rule_before_toggles :
      Setting → (ℕ → Option (RegisterRule T)) → List (CallFrameInstruction T) → ℕ
      → Option (RegisterRule T)
  rule_before_toggles setting initial list register =
      option_flatten (last_written (rule_written_to setting initial register) list)

  abbrev pub final_toggles : List (CallFrameInstruction T) → ℕ → ℕ
  final_toggles list register =
      count_by (λ instruction. toggles register (action instruction))
      (after_last (λ instruction. writes_rule register (action instruction)) list)

  abbrev pub constant_or_zero : Option (RegisterRule T) → ℕ
  constant_or_zero (Some (rule.Constant value)) = value
  constant_or_zero _ = 0

  -- a rule after some toggles of the sign state: of their number only the parity counts
  abbrev pub rule_after_toggles : ℕ → Option (RegisterRule T) → Option (RegisterRule T)
  rule_after_toggles zero before = before
  rule_after_toggles (suc count) before =
      Some (rule.Constant ((constant_or_zero before + suc count) % 2))

  abbrev pub final_rule :
      Setting → (ℕ → Option (RegisterRule T)) → List (CallFrameInstruction T) → ℕ
      → Option (RegisterRule T)
  final_rule setting initial list register =
      rule_after_toggles (final_toggles list register)
      (rule_before_toggles setting initial list register)

  abbrev pub registers_named : List (CallFrameInstruction T) → List ℕ
  registers_named list =
      distinct_numbers (filter_map (λ instruction. written_register (action instruction)) list)

  abbrev pub registers_with_rule :
      Setting → (ℕ → Option (RegisterRule T)) → List (CallFrameInstruction T) → List ℕ
  registers_with_rule setting initial list =
      filter (λ register. is_some (final_rule setting initial list register))
      (registers_named list)

  -- the same as a map
  abbrev pub final_rules :
      Setting → (ℕ → Option (RegisterRule T)) → List (CallFrameInstruction T) → Rules T
  final_rules setting initial list =
      map.from_entries (filter_map
      (λ register. option_map (λ rule. (register, rule))
      (final_rule setting initial list register))
      (registers_named list))

  abbrev pub final_parts :
      Setting → (ℕ → Option (RegisterRule T)) → List (CallFrameInstruction T) → Parts T
  final_parts setting initial list = record {
    cfa = final_cfa setting list;
    rules = final_rules setting initial list;
    args_size = final_args_size list;
  }
