-- The required action of each call frame instruction (DWARF 5, section 6.4.2): one line for each
-- instruction, here and nowhere else.
--     Action      what an instruction asks for, in the order of the standard
--     action      the action of an instruction
use Rattle.std.specs.Prelude.{ℕ, ℤ}
use Rattle.std.specs.Int.{w64, cast_signed, int_wrapping_mul, int_wrapping_neg}
use Rattle.cfi_read_core.specs.declared.common.Register.{Register}
use Rattle.cfi_read_core.specs.declared.instruction.UnwindExpression.{UnwindExpression}
use Rattle.cfi_read_core.specs.declared.instruction.CallFrameInstruction.{CallFrameInstruction}
use Rattle.cfi_read_core.specs.declared.instruction.CallFrameInstruction.TheVariants as instruction
use Rattle.cfi_state.specs.declared.table.rules.RegisterRule.{RegisterRule}
use Rattle.cfi_state.specs.declared.table.rules.RegisterRule.TheVariants as rule

-- an operand times the data alignment factor; the product wraps
abbrev pub factored : ℤ → ℤ → ℤ
factored operand factor = int_wrapping_mul w64 operand factor

abbrev pub unsigned_factored : ℕ → ℤ → ℤ
unsigned_factored operand = factored (cast_signed w64 operand)

-- The offset of a CFA and the rule of a register are functions of the data alignment factor.
pub data Action (T : Type 0) : Type 0 where
  -- row creation (section 6.4.2.1)
  sets_location : ℕ → Action T
  advances_location : ℕ → Action T
  -- the definition of the CFA (section 6.4.2.2), whole or one half
  defines_cfa : Register → (ℤ → ℤ) → Action T
  defines_cfa_register : Register → Action T
  defines_cfa_offset : (ℤ → ℤ) → Action T
  defines_cfa_expression : UnwindExpression T → Action T
  -- a register's rule (section 6.4.2.3)
  gives_rule : Register → (ℤ → RegisterRule T) → Action T
  restores_rule : Register → Action T
  toggles_sign_state : Action T
  -- the state of a row (section 6.4.2.4)
  remembers_state : Action T
  restores_state : Action T
  -- what is not in the row's rules, and padding (section 6.4.2.5)
  sets_args_size : ℕ → Action T
  changes_nothing : Action T

module _ {T : Type 0} where
  abbrev pub action : CallFrameInstruction T → Action T
  action (instruction.SetLoc address) = sets_location address
  action (instruction.AdvanceLoc delta) = advances_location delta
  action (instruction.DefCfa register offset) =
      defines_cfa register (λ factor. cast_signed w64 offset)
  action (instruction.DefCfaSf register offset) = defines_cfa register (factored offset)
  action (instruction.DefCfaRegister register) = defines_cfa_register register
  action (instruction.DefCfaOffset offset) = defines_cfa_offset (λ factor. cast_signed w64 offset)
  action (instruction.DefCfaOffsetSf offset) = defines_cfa_offset (factored offset)
  action (instruction.DefCfaExpression expression) = defines_cfa_expression expression
  action (instruction.Undefined register) = gives_rule register (λ factor. rule.Undefined)
  action (instruction.SameValue register) = gives_rule register (λ factor. rule.SameValue)
  action (instruction.Offset register operand) =
      gives_rule register (λ factor. rule.Offset (unsigned_factored operand factor))
  action (instruction.OffsetExtendedSf register operand) =
      gives_rule register (λ factor. rule.Offset (factored operand factor))
  action (instruction.OffsetExtendedNegative register operand) =
      gives_rule register
      (λ factor. rule.Offset (int_wrapping_neg w64 (unsigned_factored operand factor)))
  action (instruction.ValOffset register operand) =
      gives_rule register (λ factor. rule.ValOffset (unsigned_factored operand factor))
  action (instruction.ValOffsetSf register operand) =
      gives_rule register (λ factor. rule.ValOffset (factored operand factor))
  action (instruction.Register register source) =
      gives_rule register (λ factor. rule.Register source)
  action (instruction.Expression register expression) =
      gives_rule register (λ factor. rule.Expression expression)
  action (instruction.ValExpression register expression) =
      gives_rule register (λ factor. rule.ValExpression expression)
  action (instruction.Restore register) = restores_rule register
  action instruction.RememberState = remembers_state
  action instruction.RestoreState = restores_state
  action (instruction.ArgsSize size) = sets_args_size size
  action instruction.NegateRaState = toggles_sign_state
  action instruction.Nop = changes_nothing
