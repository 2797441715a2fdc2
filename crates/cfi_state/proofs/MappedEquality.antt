-- Offsets that are numbers already: the map of their values by themselves changes nothing.
use Rattle.std.proofs.Common.{◌≡◌, ℕ, Option, Some, None, refl, ap, ◌∙◌}
use Rattle.std.specs.Option.{option_map}
use Rattle.std.specs.Cmp.{nat_cmp_total}
use Rattle.std.specs.FinMap as map
use Rattle.cfi_state.specs.declared.table.rules.CfaRule.{CfaRule}
use Rattle.cfi_state.specs.declared.table.rules.CfaRule.TheVariants as cfa
use Rattle.cfi_state.specs.declared.table.rules.RegisterRule.{RegisterRule}
use Rattle.cfi_state.specs.declared.table.rules.RegisterRule.TheVariants as rule
use Rattle.cfi_state.specs.Machine.{Rules}
use Rattle.cfi_state.specs.Row.{Row}
use Rattle.cfi_state.specs.MappedStates.{map_cfa, map_rule, map_rules, map_row}
use Rattle.cfi_state.proofs.MappedMaps.{get-map_values}

abbrev pub as_it_is : ℕ → ℕ
as_it_is n = n

same_cfa : (x : CfaRule ℕ) → map_cfa as_it_is x ≡ x
same_cfa (cfa.RegisterAndOffset r offset) = refl
same_cfa (cfa.Expression e) = refl

same_rule : (x : RegisterRule ℕ) → map_rule as_it_is x ≡ x
same_rule rule.Undefined = refl
same_rule rule.SameValue = refl
same_rule (rule.Offset offset) = refl
same_rule (rule.ValOffset offset) = refl
same_rule (rule.Register r) = refl
same_rule (rule.Expression e) = refl
same_rule (rule.ValExpression e) = refl
same_rule rule.Architectural = refl
same_rule (rule.Constant value) = refl

same_option : (o : Option (RegisterRule ℕ)) → option_map (map_rule as_it_is) o ≡ o
same_option None = refl
same_option (Some x) = ap Some (same_rule x)

same_rules : (rules : Rules ℕ) → map_rules as_it_is rules ≡ rules
same_rules rules = map.same_map nat_cmp_total map.nat_cmp-IsAntisymmetric _ _ (λ q. get-map_values (map_rule as_it_is) rules q ∙ same_option (map.get rules q))

pub same_row : (row : Row ℕ) → map_row as_it_is row ≡ row
same_row row = λ i. record {
  start_address = row.start_address;
  end_address = row.end_address;
  parts = record { cfa = same_cfa row.parts.cfa i; rules = same_rules row.parts.rules i; args_size = row.parts.args_size };
}
