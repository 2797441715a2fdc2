-- When rules, rows and contexts are equal, given an equality of the offsets in expressions.
use Rattle.std.specs.Prelude.{Bool, true, false, ◌&&◌, ◌==◌}
use Rattle.std.specs.Ordering.{nat_cmp, int_eq}
use Rattle.std.specs.Option.{option_eq}
use Rattle.std.specs.List.{list_all}
use Rattle.std.specs.Cmp.Lexicographic.{pointwise}
use Rattle.std.specs.FinMap.{FinMap, get, keys}
use Rattle.cfi_read_core.specs.declared.instruction.UnwindExpression.{UnwindExpression}
use Rattle.cfi_state.specs.declared.table.rules.CfaRule.{CfaRule}
use Rattle.cfi_state.specs.declared.table.rules.CfaRule.TheVariants as cfa
use Rattle.cfi_state.specs.declared.table.rules.RegisterRule.{RegisterRule}
use Rattle.cfi_state.specs.declared.table.rules.RegisterRule.TheVariants as rule
use Rattle.cfi_state.specs.Machine.{Rules}
use Rattle.cfi_state.specs.Row.{Row}
use Rattle.cfi_state.specs.UnwindContexts.{ContextState}

-- every key of the first map has an equal value in the second
abbrev pub is_within :
    {X : Type 0} → (X → X → Bool) → FinMap nat_cmp X → FinMap nat_cmp X → Bool
is_within E a b = list_all (λ key. option_eq E (get a key) (get b key)) (keys a)

-- the maps have the same keys, with equal values
abbrev pub map_eq : {X : Type 0} → (X → X → Bool) → FinMap nat_cmp X → FinMap nat_cmp X → Bool
map_eq E a b = is_within E a b && is_within E b a

module _ {T : Type 0} (eq : T → T → Bool) where
  abbrev pub expression_eq : UnwindExpression T → UnwindExpression T → Bool
  expression_eq a b = eq a.offset b.offset && eq a.length b.length

  abbrev pub cfa_eq : CfaRule T → CfaRule T → Bool
  cfa_eq (cfa.RegisterAndOffset a m) (cfa.RegisterAndOffset b n) = (a.0 == b.0) && int_eq m n
  cfa_eq (cfa.Expression a) (cfa.Expression b) = expression_eq a b
  cfa_eq _ _ = false

  abbrev pub rule_eq : RegisterRule T → RegisterRule T → Bool
  rule_eq rule.Undefined rule.Undefined = true
  rule_eq rule.SameValue rule.SameValue = true
  rule_eq (rule.Offset a) (rule.Offset b) = int_eq a b
  rule_eq (rule.ValOffset a) (rule.ValOffset b) = int_eq a b
  rule_eq (rule.Register a) (rule.Register b) = a.0 == b.0
  rule_eq (rule.Expression a) (rule.Expression b) = expression_eq a b
  rule_eq (rule.ValExpression a) (rule.ValExpression b) = expression_eq a b
  rule_eq rule.Architectural rule.Architectural = true
  rule_eq (rule.Constant a) (rule.Constant b) = a == b
  rule_eq _ _ = false

  abbrev pub rules_eq : Rules T → Rules T → Bool
  rules_eq = map_eq rule_eq

  -- the addresses, the argument size, the CFA and the rules
  abbrev pub row_eq : Row T → Row T → Bool
  row_eq a b =
      (a.start_address == b.start_address)
      && ((a.end_address == b.end_address)
      && ((a.parts.args_size == b.parts.args_size)
      && (cfa_eq a.parts.cfa b.parts.cfa
      && rules_eq a.parts.rules b.parts.rules)))

  -- row by row, and the initial rules
  abbrev pub context_eq : ContextState T → ContextState T → Bool
  context_eq a b =
      row_eq a.row b.row
      && (pointwise row_eq a.remembered b.remembered
      && option_eq rules_eq a.initial_rules b.initial_rules)
