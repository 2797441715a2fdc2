-- The operations of a DWARF expression as they are read (DWARF 5 sections 2.5.1 and 7.7.1): for
-- each section a table, from the opcode to the read of its operands. An opcode that no table has
-- isn't evaluated.
--     operation size      an operation, where an address has this size
use Rattle.std.specs.Prelude.{ℕ, ◌-◌, ℤ, List, [], ◌∷◌, nat_lt, ◌==◌, if◌then◌else◌}
use Rattle.std.specs.Int.{w8, w16, w32, w64, cast_unsigned}
use Rattle.cfi_read_core.specs.declared.common.Register.{Register}
use Rattle.cfi_read_core.specs.ReadFunctions.{Read, ◌>>=◌, give, chosen_from}
use Rattle.cfi_read_core.specs.Numbers.{unsigned, signed, unsigned_leb128, signed_leb128}
use Rattle.cfi_read_core.specs.Numbers.{register_leb128}
use Rattle.cfi_read_core.specs.Addresses.{address}
use Rattle.cfi_expression.specs.declared.operation.UnaryOperation.TheVariants.{Abs, Neg, Not}
use Rattle.cfi_expression.specs.declared.operation.UnaryOperation.TheVariants.{PlusConstant}
use Rattle.cfi_expression.specs.declared.operation.BinaryOperation.TheVariants.{And, Div, Minus}
use Rattle.cfi_expression.specs.declared.operation.BinaryOperation.TheVariants.{Mod, Mul, Or, Plus}
use Rattle.cfi_expression.specs.declared.operation.BinaryOperation.TheVariants.{Shl, Shr, Shra, Xor}
use Rattle.cfi_expression.specs.declared.operation.BinaryOperation.TheVariants.{Eq, Ge, Gt, Le, Lt}
use Rattle.cfi_expression.specs.declared.operation.BinaryOperation.TheVariants.{Ne}
use Rattle.cfi_expression.specs.declared.operation.StackOperation.{StackOperation}
use Rattle.cfi_expression.specs.declared.operation.StackOperation.TheVariants.{Constant}
use Rattle.cfi_expression.specs.declared.operation.StackOperation.TheVariants.{RegisterOffset, Pick}
use Rattle.cfi_expression.specs.declared.operation.StackOperation.TheVariants.{Discard, Swap}
use Rattle.cfi_expression.specs.declared.operation.StackOperation.TheVariants.{Rotate, Dereference}
use Rattle.cfi_expression.specs.declared.operation.StackOperation.TheVariants.{Unary, Binary, Nop}
use Rattle.cfi_expression.specs.declared.operation.StackOperation.TheVariants.{Unsupported}
use Rattle.cfi_expression.specs.declared.operation.Operation.{Operation}
use Rattle.cfi_expression.specs.declared.operation.Operation.TheVariants.{Stack, Skip, Bra}

-- ---- control flow: comparisons (section 2.5.1.5)

abbrev pub choose : ℕ → List (ℕ × StackOperation) → StackOperation → StackOperation
choose n [] other = other
choose n (row ∷ rows) other = if row.0 == n then row.1 else choose n rows other

abbrev pub comparisons : List (ℕ × StackOperation)
comparisons =
    (0x29, Binary Eq)
    ∷ (0x2a, Binary Ge)
    ∷ (0x2b, Binary Gt)
    ∷ (0x2c, Binary Le)
    ∷ (0x2d, Binary Lt)
    ∷ (0x2e, Binary Ne)
    ∷ []

unfoldable pub by_comparison : ℕ → StackOperation
by_comparison opcode = choose opcode comparisons (Unsupported opcode)

-- ---- arithmetic and logical operations (section 2.5.1.4): of two entries, and of one

abbrev pub logical_operations : List (ℕ × StackOperation)
logical_operations =
    (0x1a, Binary And)
    ∷ (0x1b, Binary Div)
    ∷ (0x1c, Binary Minus)
    ∷ (0x1d, Binary Mod)
    ∷ (0x1e, Binary Mul)
    ∷ (0x21, Binary Or)
    ∷ (0x22, Binary Plus)
    ∷ (0x24, Binary Shl)
    ∷ (0x25, Binary Shr)
    ∷ (0x26, Binary Shra)
    ∷ (0x27, Binary Xor)
    ∷ []

unfoldable pub by_logic : ℕ → StackOperation
by_logic opcode = choose opcode logical_operations (by_comparison opcode)

abbrev pub arithmetic_operations : List (ℕ × Read StackOperation)
arithmetic_operations =
    (0x19, give (Unary Abs))
    ∷ (0x1f, give (Unary Neg))
    ∷ (0x20, give (Unary Not))
    ∷ (0x23, unsigned_leb128 >>= λ n. give (Unary (PlusConstant n)))
    ∷ []

unfoldable pub by_arithmetic : ℕ → Read StackOperation
by_arithmetic opcode = chosen_from opcode arithmetic_operations (give (by_logic opcode))

-- ---- stack operations (section 2.5.1.3), and the operation that does nothing (section 2.5.1.7)

-- DW_OP_deref, deref_size, dup, over, pick, drop, swap, rot, nop
abbrev pub stack_operations : ℕ → List (ℕ × Read StackOperation)
stack_operations size =
    (0x06, give (Dereference size))
    ∷ (0x94, unsigned w8 >>= λ n. give (Dereference n))
    ∷ (0x12, give (Pick 0))
    ∷ (0x14, give (Pick 1))
    ∷ (0x15, unsigned w8 >>= λ n. give (Pick n))
    ∷ (0x13, give Discard)
    ∷ (0x16, give Swap)
    ∷ (0x17, give Rotate)
    ∷ (0x96, give Nop)
    ∷ []

unfoldable pub by_stack : ℕ → ℕ → Read StackOperation
by_stack size opcode = chosen_from opcode (stack_operations size) (by_arithmetic opcode)

-- ---- literal encodings (section 2.5.1.1) and register values (section 2.5.1.2)

abbrev pub constant : Read ℕ → Read StackOperation
constant number = number >>= λ n. give (Constant n)

-- a number with a sign, in two's complement
abbrev pub signed_constant : Read ℤ → Read StackOperation
signed_constant number = number >>= λ z. give (Constant (cast_unsigned w64 z))

-- the offset comes after the register
unfoldable pub register_offset : Register → Read StackOperation
register_offset r = signed_leb128 >>= λ offset. give (RegisterOffset r offset)

-- DW_OP_addr, const8u, const8s, constu, consts, bregx
abbrev pub long_constants : ℕ → List (ℕ × Read StackOperation)
long_constants size =
    (0x03, constant (address size))
    ∷ (0x0e, constant (unsigned w64))
    ∷ (0x0f, constant (unsigned w64))
    ∷ (0x10, constant unsigned_leb128)
    ∷ (0x11, signed_constant signed_leb128)
    ∷ (0x92, register_leb128 >>= register_offset)
    ∷ []

unfoldable pub by_long_constant : ℕ → ℕ → Read StackOperation
by_long_constant size opcode = chosen_from opcode (long_constants size) (by_stack size opcode)

-- DW_OP_const1u, const2u, const4u, const1s, const2s, const4s
abbrev pub short_constants : List (ℕ × Read StackOperation)
short_constants =
    (0x08, constant (unsigned w8))
    ∷ (0x0a, constant (unsigned w16))
    ∷ (0x0c, constant (unsigned w32))
    ∷ (0x09, signed_constant (signed w8))
    ∷ (0x0b, signed_constant (signed w16))
    ∷ (0x0d, signed_constant (signed w32))
    ∷ []

unfoldable pub by_constant : ℕ → ℕ → Read StackOperation
by_constant size opcode = chosen_from opcode short_constants (by_long_constant size opcode)

-- 0x30 to 0x4f are DW_OP_lit0 to lit31, 0x50 to 0x6f DW_OP_reg0 to reg31, which push nothing, and
-- 0x70 to 0x8f DW_OP_breg0 to breg31
unfoldable pub stack_operation : ℕ → ℕ → Read StackOperation
stack_operation size opcode =
    if nat_lt opcode 0x30 then by_constant size opcode
    else if nat_lt opcode 0x50 then give (Constant (opcode - 0x30))
    else if nat_lt opcode 0x70 then give (Unsupported opcode)
    else if nat_lt opcode 0x90 then register_offset (record { 0 = opcode - 0x70 })
    else by_constant size opcode

-- ---- control flow operations (section 2.5.1.5)

-- DW_OP_bra, skip
abbrev pub control_flow_operations : List (ℕ × Read Operation)
control_flow_operations =
    (0x28, signed w16 >>= λ d. give (Bra d))
    ∷ (0x2f, signed w16 >>= λ d. give (Skip d))
    ∷ []

abbrev pub operation_of : ℕ → ℕ → Read Operation
operation_of size opcode =
    chosen_from opcode control_flow_operations (stack_operation size opcode >>= λ o. give (Stack o))

unfoldable pub operation : ℕ → Read Operation
operation size = do
  opcode ← unsigned w8
  operation_of size opcode
