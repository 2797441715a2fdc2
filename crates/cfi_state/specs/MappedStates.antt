-- The same rules, states and rows with their offsets in another type.
-- The code's offsets are of a reader's type, and those of the definitions are numbers. Only
-- expressions have such offsets, so a map of offsets changes nothing else.
--     map_rule, map_rules, map_parts, map_state, map_row      by a function of offsets
--     row_lent      the result of a call that borrows a row
use Rattle.std.specs.Prelude.{map, Result}
use Rattle.std.specs.Borrow.{Bor}
use Rattle.std.specs.Option.{option_map}
use Rattle.std.specs.Ordering.{nat_cmp}
use Rattle.std.specs.FinMap.{FinMap, entries, from_sorted}
use Rattle.cfi_read_core.specs.declared.error.Error.{Error}
use Rattle.cfi_read_core.specs.ReaderCalls.{map_ok}
use Rattle.cfi_read_core.specs.MappedInstructions.{map_expression}
use Rattle.cfi_state.specs.declared.table.rules.CfaRule.{CfaRule}
use Rattle.cfi_state.specs.declared.table.rules.CfaRule.TheVariants as cfa
use Rattle.cfi_state.specs.declared.table.rules.RegisterRule.{RegisterRule}
use Rattle.cfi_state.specs.declared.table.rules.RegisterRule.TheVariants as rule
use Rattle.cfi_state.specs.Row.{Row}
use Rattle.cfi_state.specs.Machine.{Rules, Parts, State}

-- a map with the same keys
abbrev pub map_values : {X Y : Type 0} → (X → Y) → FinMap nat_cmp X → FinMap nat_cmp Y
map_values f values = from_sorted (map (λ entry. (entry.0, f entry.1)) (entries values))

module _ {A B : Type 0} (f : A → B) where
  abbrev pub map_cfa : CfaRule A → CfaRule B
  map_cfa (cfa.RegisterAndOffset register offset) = cfa.RegisterAndOffset register offset
  map_cfa (cfa.Expression expression) = cfa.Expression (map_expression f expression)

  abbrev pub map_rule : RegisterRule A → RegisterRule B
  map_rule rule.Undefined = rule.Undefined
  map_rule rule.SameValue = rule.SameValue
  map_rule (rule.Offset offset) = rule.Offset offset
  map_rule (rule.ValOffset offset) = rule.ValOffset offset
  map_rule (rule.Register register) = rule.Register register
  map_rule (rule.Expression expression) = rule.Expression (map_expression f expression)
  map_rule (rule.ValExpression expression) = rule.ValExpression (map_expression f expression)
  map_rule rule.Architectural = rule.Architectural
  map_rule (rule.Constant value) = rule.Constant value

  abbrev pub map_rules : Rules A → Rules B
  map_rules = map_values map_rule

  abbrev pub map_parts : Parts A → Parts B
  map_parts parts = record {
    cfa = map_cfa parts.cfa;
    rules = map_rules parts.rules;
    args_size = parts.args_size;
  }

  abbrev pub map_state : State A → State B
  map_state state = record {
    location = state.location;
    parts = map_parts state.parts;
    remembered = map map_parts state.remembered;
    initial_rules = option_map map_rules state.initial_rules;
  }

  abbrev pub map_row : Row A → Row B
  map_row row = record {
    start_address = row.start_address;
    end_address = row.end_address;
    parts = map_parts row.parts;
  }

  -- a borrowed row, as the result of a call
  abbrev pub lent_row : Bor (Row A) → Row B
  lent_row row = map_row row.now

  abbrev pub row_lent : Result (Bor (Row A)) Error → Result (Row B) Error
  row_lent result = map_ok lent_row result
