-- The expressions in the rules of a row (DWARF 5 section 6.4.1).
--     EachExpression      a fact of the CFA's expression and of that of each register's rule
--     HasExpressionsIn      each of them lies in the section
--     EachOfState, EachOfTable      a fact of each expression that a machine's state, or a table,
--         still has
use Rattle.std.specs.Prelude.{ℕ, Option, Some, None, IfSome}
use Rattle.std.specs.FinMap.{get}
use Rattle.std.specs.List.{AllByRecursion}
use Rattle.cfi_read_core.specs.ReadFunctions.{Position}
use Rattle.cfi_read_core.specs.declared.instruction.UnwindExpression.{UnwindExpression}
use Rattle.cfi_read_core.specs.MappedInstructions.{map_expression}
use Rattle.cfi_read_core.specs.ExpressionPlaces.{LiesIn, expression_of}
use Rattle.cfi_state.specs.declared.table.rules.CfaRule.{CfaRule}
use Rattle.cfi_state.specs.declared.table.rules.CfaRule.TheVariants as cfa
use Rattle.cfi_state.specs.declared.table.rules.RegisterRule.{RegisterRule}
use Rattle.cfi_state.specs.declared.table.rules.RegisterRule.TheVariants as rule
use Rattle.cfi_state.specs.Machine.{Rules, Parts, State}
use Rattle.cfi_state.specs.UnwindTableStates.{TableState}

module _ {T : Type 0} where
  abbrev pub cfa_expression : CfaRule T → Option (UnwindExpression T)
  cfa_expression (cfa.RegisterAndOffset register offset) = None
  cfa_expression (cfa.Expression expression) = Some expression

  abbrev pub rule_expression : RegisterRule T → Option (UnwindExpression T)
  rule_expression (rule.Expression expression) = Some expression
  rule_expression (rule.ValExpression expression) = Some expression
  rule_expression _ = None

  abbrev pub EachOfRules : (UnwindExpression T → Type 0) → Rules T → Type 0
  EachOfRules Q rules =
      (register : ℕ) → IfSome (get rules register) (λ rule. IfSome (rule_expression rule) Q)

  abbrev pub EachExpression : (UnwindExpression T → Type 0) → Parts T → Type 0
  EachExpression Q parts = IfSome (cfa_expression parts.cfa) Q × EachOfRules Q parts.rules

  -- `number` gives an offset's number
  abbrev pub HasExpressionsIn : (T → ℕ) → Position → Parts T → Type 0
  HasExpressionsIn number section parts =
      EachExpression (λ expression. LiesIn section (map_expression number expression)) parts

-- of the row, of the remembered rows and of the rules that the CIE's initial instructions end with
pub record EachOfState {T : Type 0} (Q : UnwindExpression T → Type 0)
    (state : State T) : Type 0 where
  pub parts : EachExpression Q state.parts
  pub remembered : AllByRecursion (EachExpression Q) state.remembered
  pub initial : IfSome state.initial_rules (EachOfRules Q)

-- and of the instructions that are left to read
pub record EachOfTable {T : Type 0} (Q : UnwindExpression T → Type 0)
    (table : TableState (State T) T) : Type 0 where
  pub so_far : EachOfState Q table.so_far
  pub left : AllByRecursion (λ instruction. IfSome (expression_of instruction) Q) table.left.values
