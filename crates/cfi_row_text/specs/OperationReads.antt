-- The reads of operations of DWARF expressions: an opcode, and the operand that its form says
-- (DWARF 5 section 7.7.1).
--     operation size      the read of an operation, where an address has this size
use Rattle.std.specs.Prelude.{ℕ, ℤ}
use Rattle.std.specs.Int.{w8, w16, w32, w64}
use Rattle.cfi_read_core.specs.declared.common.Register.{Register}
use Rattle.cfi_read_core.specs.ReadFunctions.{Read, ◌>>=◌, give}
use Rattle.cfi_read_core.specs.Numbers.{unsigned, signed, unsigned_leb128, signed_leb128}
use Rattle.cfi_read_core.specs.Numbers.{register_leb128}
use Rattle.cfi_read_core.specs.Addresses.{address}
use Rattle.cfi_row_text.specs.Operations.{operation_entry}
use Rattle.cfi_row_text.specs.declared.operations.Form.{Form}
use Rattle.cfi_row_text.specs.declared.operations.Form.TheVariants as form
use Rattle.cfi_row_text.specs.declared.operations.Form.TheVariants.{Nothing, Unsigned, Signed}
use Rattle.cfi_row_text.specs.declared.operation_reader.Operand.{Operand}
use Rattle.cfi_row_text.specs.declared.operation_reader.Operand.TheVariants as operands
use Rattle.cfi_row_text.specs.declared.operation_reader.Operation.{Operation}
use Rattle.cfi_row_text.specs.declared.operations.Width.{Width}
use Rattle.cfi_row_text.specs.declared.operations.Width.TheVariants.{One, Two, Four, Eight, Leb128}

unfoldable pub unsigned_by : Width → Read ℕ
unsigned_by One = unsigned w8
unsigned_by Two = unsigned w16
unsigned_by Four = unsigned w32
unsigned_by Eight = unsigned w64
unsigned_by Leb128 = unsigned_leb128

-- in two's complement
unfoldable pub signed_by : Width → Read ℤ
signed_by One = signed w8
signed_by Two = signed w16
signed_by Four = signed w32
signed_by Eight = signed w64
signed_by Leb128 = signed_leb128

unfoldable pub unsigned_operand : Width → Read Operand
unsigned_operand width = unsigned_by width >>= λ n. give (operands.Unsigned n)

unfoldable pub signed_operand : Width → Read Operand
signed_operand width = signed_by width >>= λ z. give (operands.Signed z)

unfoldable pub address_operand : ℕ → Read Operand
address_operand size = address size >>= λ n. give (operands.Address n)

unfoldable pub register_operand : Read Operand
register_operand = register_leb128 >>= λ r. give (operands.Register r)

-- the offset comes after the register
unfoldable pub offset_from : Register → Read Operand
offset_from r = signed_leb128 >>= λ z. give (operands.RegisterOffset r z)

unfoldable pub any_offset : Read Operand
any_offset = register_leb128 >>= offset_from

abbrev pub operand : ℕ → Form → Read Operand
operand size form.Unknown = give operands.Unknown
operand size Nothing = give operands.Nothing
operand size form.Address = address_operand size
operand size (Unsigned width) = unsigned_operand width
operand size (Signed width) = signed_operand width
operand size form.Register = register_operand
operand size form.RegisterOffset = any_offset
operand size (form.Named r) = give (operands.Register r)
operand size (form.OffsetFrom r) = offset_from r

unfoldable pub operation : ℕ → Read Operation
operation size = do
  opcode ← unsigned w8
  operand ← operand size (operation_entry opcode).form
  give (record { opcode = opcode; operand = operand })
