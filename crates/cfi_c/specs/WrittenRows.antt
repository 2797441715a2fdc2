-- Rows as C sees them.
--     IsWritten row out      a row but for its rules
--     rule_for_c rule      the rule of a register
--     IsRules row rules first count      from `first` on, the rules of the registers below `count`
use Rattle.std.specs.Prelude.{◌≡◌, ◌⊎◌, ℕ, ◌+◌, ◌<◌, ◌≤◌, ℤ, pos, List, length, nat_le, Option}
use Rattle.std.specs.Prelude.{Some, None, slice_index_or, if◌then◌else◌}
use Rattle.std.specs.FinMap as map
use Rattle.cfi_state.specs.declared.table.rules.CfaRule.{CfaRule}
use Rattle.cfi_state.specs.declared.table.rules.CfaRule.TheVariants as cfa
use Rattle.cfi_state.specs.declared.table.rules.RegisterRule.{RegisterRule}
use Rattle.cfi_state.specs.declared.table.rules.RegisterRule.TheVariants as rule
use Rattle.cfi_state.specs.Row.{Row}
use Rattle.cfi_c.specs.declared.written.CfiRow.{CfiRow}
use Rattle.cfi_c.specs.declared.written.CfiRule.{CfiRule}

-- ---- a row

-- what a rule of another kind has is 0
abbrev pub IsCfa : CfaRule ℕ → CfiRow → Type 0
IsCfa (cfa.RegisterAndOffset r offset) out =
    (out.cfa_kind ≡ 0) × (out.cfa_register ≡ r.0) × (out.cfa_offset ≡ offset)
    × (out.cfa_place ≡ 0) × (out.cfa_length ≡ 0)
IsCfa (cfa.Expression e) out =
    (out.cfa_kind ≡ 1) × (out.cfa_register ≡ 0) × (out.cfa_offset ≡ pos 0)
    × (out.cfa_place ≡ e.offset) × (out.cfa_length ≡ e.length)

abbrev pub IsWritten : Row ℕ → CfiRow → Type 0
IsWritten row out =
    (out.start ≡ row.start_address) × (out.end ≡ row.end_address)
    × (out.args_size ≡ row.parts.args_size)
    × (out.refused ≡ 0) × IsCfa row.parts.cfa out

-- ---- its rules

abbrev pub plain_rule : ℕ → ℤ → CfiRule
plain_rule kind value = record { kind = kind; value = value; place = 0; length = 0 }

abbrev pub placed_rule : ℕ → ℕ → ℕ → CfiRule
placed_rule kind place length =
    record { kind = kind; value = pos 0; place = place; length = length }

abbrev pub rule_for_c : Option (RegisterRule ℕ) → CfiRule
rule_for_c None = plain_rule 0 (pos 0)
rule_for_c (Some rule.Undefined) = plain_rule 1 (pos 0)
rule_for_c (Some rule.SameValue) = plain_rule 2 (pos 0)
rule_for_c (Some (rule.Offset n)) = plain_rule 3 n
rule_for_c (Some (rule.ValOffset n)) = plain_rule 4 n
rule_for_c (Some (rule.Register r)) = plain_rule 5 (pos r.0)
rule_for_c (Some (rule.Expression e)) = placed_rule 6 e.offset e.length
rule_for_c (Some (rule.ValExpression e)) = placed_rule 7 e.offset e.length
rule_for_c (Some rule.Architectural) = plain_rule 8 (pos 0)
rule_for_c (Some (rule.Constant n)) = placed_rule 9 n 0

-- no register is above 65535
abbrev pub rule_at : Row ℕ → ℕ → Option (RegisterRule ℕ)
rule_at row k = if nat_le k 0xffff then map.get row.parts.rules k else None

abbrev pub rule_in : List CfiRule → ℕ → CfiRule
rule_in rules k = slice_index_or rules k (rule_for_c None)

abbrev pub IsRules : Row ℕ → List CfiRule → ℕ → ℕ → Type 0
IsRules row rules first count =
    (k : ℕ) → k < count → rule_in rules (first + k) ≡ rule_for_c (rule_at row k)

-- the rules before `first`, and those from `first + count` on
abbrev pub SameAround : ℕ → ℕ → List CfiRule → List CfiRule → Type 0
SameAround first count old new =
    (k : ℕ) → (k < first) ⊎ (first + count ≤ k) → rule_in new k ≡ rule_in old k
