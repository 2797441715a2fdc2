-- What is printed of a row, with the names of registers.
--     row_saying say names row      where an expression is said so
--     row_text names row      where it is said by its place in the section
--     HasNoExpression row      no rule of the row is an expression
use Rattle.std.specs.Prelude.{ℕ, zero, suc, ◌+◌, ℤ, pos, negsuc, Option, Some, None, List, [], ◌++◌}
use Rattle.std.specs.Prelude.{◌≡◌, Bool, true, false, codes}
use Rattle.std.specs.FinMap as map
use Rattle.std.specs.Fmt.{decimal, signed_decimal}
use Rattle.cfi_read_core.specs.declared.instruction.UnwindExpression.{UnwindExpression}
use Rattle.cfi_state.specs.declared.table.rules.CfaRule.{CfaRule}
use Rattle.cfi_state.specs.declared.table.rules.CfaRule.TheVariants as cfas
use Rattle.cfi_state.specs.declared.table.rules.RegisterRule.{RegisterRule}
use Rattle.cfi_state.specs.declared.table.rules.RegisterRule.TheVariants as rules
use Rattle.cfi_state.specs.Machine.{Parts}
use Rattle.cfi_state.specs.Row.{Row}
use Rattle.cfi_text.specs.RegisterNames.{register_text}
use Rattle.cfi_text.specs.declared.register_names.RegisterNames.{RegisterNames}
use Rattle.cfi_text.specs.Lines.{address_text}

-- ---- the parts

-- after a register, with its sign
abbrev pub offset_text : ℤ → List ℕ
offset_text (pos n) = codes "+" ++ decimal n
offset_text (negsuc n) = codes "-" ++ decimal (suc n)

-- the offset in the section, and the length
abbrev pub expression_text : UnwindExpression ℕ → List ℕ
expression_text e = codes "expr@" ++ decimal e.offset ++ codes ":" ++ decimal e.length

-- where expressions are said so
module _ (say : UnwindExpression ℕ → List ℕ) (names : RegisterNames) where
  abbrev pub cfa_saying : CfaRule ℕ → List ℕ
  cfa_saying (cfas.RegisterAndOffset register n) = register_text names register.0 ++ offset_text n
  cfa_saying (cfas.Expression e) = say e

  abbrev pub rule_saying : RegisterRule ℕ → List ℕ
  rule_saying rules.Undefined = codes "undefined"
  rule_saying rules.SameValue = codes "same"
  rule_saying (rules.Offset n) = codes "offset(" ++ signed_decimal n ++ codes ")"
  rule_saying (rules.ValOffset n) = codes "val_offset(" ++ signed_decimal n ++ codes ")"
  rule_saying (rules.Register register) = register_text names register.0
  rule_saying (rules.Expression e) = say e
  rule_saying (rules.ValExpression e) = codes "val_" ++ say e
  rule_saying rules.Architectural = codes "architectural"
  rule_saying (rules.Constant n) = codes "constant(" ++ decimal n ++ codes ")"

-- a register that has a rule, by what is written of it
abbrev pub ruled_by : (ℕ → RegisterRule ℕ → List ℕ) → ℕ → Option (RegisterRule ℕ) → List ℕ
ruled_by text_of register None = []
ruled_by text_of register (Some rule) = text_of register rule

-- the n registers from r on that have a rule
unfoldable pub rules_by :
    (ℕ → RegisterRule ℕ → List ℕ) → ℕ → ℕ → (ℕ → Option (RegisterRule ℕ)) → List ℕ
rules_by text_of zero register rule_of = []
rules_by text_of (suc n) register rule_of =
    ruled_by text_of register (rule_of register) ++ rules_by text_of n (register + 1) rule_of

-- ---- a row, where expressions are said so

module _ (say : UnwindExpression ℕ → List ℕ) (names : RegisterNames) where
  -- a register and its rule
  abbrev pub ruled_saying : ℕ → RegisterRule ℕ → List ℕ
  ruled_saying register rule =
      codes " " ++ register_text names register ++ codes "=" ++ rule_saying say names rule

  -- the CFA, and the size of arguments
  abbrev pub frame_saying : CfaRule ℕ → ℕ → List ℕ
  frame_saying cfa args_size =
      codes " cfa=" ++ (cfa_saying say names cfa ++ (codes " args=" ++ decimal args_size))

  -- what comes before the rules
  abbrev pub head_saying : Row ℕ → List ℕ
  head_saying row =
      address_text row.start_address ++ codes " " ++ address_text row.end_address
      ++ frame_saying row.parts.cfa row.parts.args_size

  -- the rules of all registers, by rising number
  abbrev pub rules_saying : Parts ℕ → List ℕ
  rules_saying parts = rules_by ruled_saying 65536 0 (map.get parts.rules)

  abbrev pub row_saying : Row ℕ → List ℕ
  row_saying row = head_saying row ++ rules_saying row.parts

-- ---- the same, where an expression is said by its place

abbrev pub cfa_text : RegisterNames → CfaRule ℕ → List ℕ
cfa_text names cfa = cfa_saying expression_text names cfa

abbrev pub rule_text : RegisterNames → RegisterRule ℕ → List ℕ
rule_text names rule = rule_saying expression_text names rule

abbrev pub ruled : RegisterNames → ℕ → RegisterRule ℕ → List ℕ
ruled names register rule = ruled_saying expression_text names register rule

abbrev pub row_head : RegisterNames → Row ℕ → List ℕ
row_head names row = head_saying expression_text names row

abbrev pub parts_rules : RegisterNames → Parts ℕ → List ℕ
parts_rules names parts = rules_saying expression_text names parts

abbrev pub row_text : RegisterNames → Row ℕ → List ℕ
row_text names row = row_saying expression_text names row

-- ---- rows without expressions

abbrev pub is_plain_cfa : CfaRule ℕ → Bool
is_plain_cfa (cfas.RegisterAndOffset register n) = true
is_plain_cfa (cfas.Expression e) = false

abbrev pub expression_in : RegisterRule ℕ → Option (UnwindExpression ℕ)
expression_in (rules.Expression e) = Some e
expression_in (rules.ValExpression e) = Some e
expression_in _ = None

-- of a register that may have a rule
abbrev pub expression_at : Option (RegisterRule ℕ) → Option (UnwindExpression ℕ)
expression_at None = None
expression_at (Some rule) = expression_in rule

pub record HasNoExpression (row : Row ℕ) : Type 0 where
  pub cfa : is_plain_cfa row.parts.cfa ≡ true
  pub rules : (register : ℕ) → expression_at (map.get row.parts.rules register) ≡ None
