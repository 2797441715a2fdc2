-- Rules of registers in two bytes (DWARF 5 section 6.4.1).
--     eightfold n      eight times a number
--     small_rule n      the rule that has this number
--     pair_of packed      a register with its rule
use Rattle.std.specs.Prelude.{ℕ, ℤ, pos, negsuc, int_lt, if◌then◌else◌}
use Rattle.std.specs.Int.{w64, int_wrapping_mul}
use Rattle.cfi_read_core.specs.declared.common.Register.{Register}
use Rattle.cfi_state.specs.declared.table.rules.RegisterRule.{RegisterRule}
use Rattle.cfi_state.specs.declared.table.rules.RegisterRule.TheVariants as rule
use Rattle.cfi_step.specs.declared.packed_rules.PackedRule.{PackedRule}
use Rattle.cfi_step.specs.declared.packed_rules.SmallRule.{SmallRule}
use Rattle.cfi_step.specs.declared.packed_rules.SmallRule.TheVariants as small

abbrev pub register_numbered : ℕ → Register
register_numbered k = record { 0 = k }

abbrev pub eightfold : ℤ → ℤ
eightfold n = int_wrapping_mul w64 n (pos 8)

-- an offset in words from -125 on; below them 1, 0 and an undefined register
abbrev pub small_rule : ℤ → SmallRule
small_rule n =
    if int_lt (negsuc 125) n then small.Offset n
    else if int_lt (negsuc 126) n then small.Constant 1
    else if int_lt (negsuc 127) n then small.Constant 0 else small.Undefined

abbrev pub rule_by : SmallRule → RegisterRule ℕ
rule_by small.Undefined = rule.Undefined
rule_by (small.Offset n) = rule.Offset (eightfold n)
rule_by (small.Constant n) = rule.Constant n

abbrev pub pair_of : PackedRule → Register × RegisterRule ℕ
pair_of packed = (register_numbered packed.register, rule_by (small_rule packed.words))
