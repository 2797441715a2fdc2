-- Call frame instructions (DWARF 5 sections 6.4.2 and 7.24).
use Rattle.std.specs.Prelude.{◌≢◌, ◌==◌, if◌then◌else◌, ℕ, ◌-◌, ◌%◌, Option, Some, None, List, []}
use Rattle.std.specs.Prelude.{◌∷◌, ◌++◌}
use Rattle.std.specs.Int.{Width, w8, w16, w32}
use Rattle.cfi_read_core.specs.declared.common.Register.{Register as RegisterNumber}
use Rattle.cfi_read_core.specs.declared.common.Vendor.{Vendor}
use Rattle.cfi_read_core.specs.declared.common.Vendor.TheVariants as vendors
use Rattle.cfi_read_core.specs.declared.error.Error.TheVariants.{UnknownCallFrameInstruction}
use Rattle.cfi_read_core.specs.ReadFunctions.{Read, Source, Extent, Readings, readings_over, ◌>>=◌}
use Rattle.cfi_read_core.specs.ReadFunctions.{give, refuse, of_result, split, chosen_from}
use Rattle.cfi_read_core.specs.Numbers.{unsigned, unsigned_leb128, signed_leb128, offset_leb128}
use Rattle.cfi_read_core.specs.Numbers.{register_leb128}
use Rattle.cfi_read_core.specs.Addresses.{address}
use Rattle.cfi_read_core.specs.declared.instruction.UnwindExpression.{UnwindExpression}
use Rattle.cfi_read_core.specs.declared.instruction.CallFrameInstruction.{CallFrameInstruction}
use Rattle.cfi_read_core.specs.declared.instruction.CallFrameInstruction.TheVariants as variant
use Rattle.cfi_parts.specs.Pointers.{PointerContext, pointer, direct}

-- The parameters for reading the instructions of an entry.
pub record InstructionContext : Type 0 where
  pub pointers : PointerContext
  pub address_encoding : Option ℕ  -- in an FDE whose CIE gives one
  pub vendor : Vendor

abbrev pub Instruction : Type 0
Instruction = CallFrameInstruction ℕ

-- ---- operands

-- where the expression is: a length and so many bytes, which are skipped
unfoldable pub expression : PointerContext → Read (UnwindExpression ℕ)
expression context = do
  length ← offset_leb128
  extent ← split length
  give (record { offset = extent.first - context.section; length = length })

abbrev pub location_by : PointerContext → Option ℕ → Read ℕ
location_by context None = address context.size
location_by context (Some encoding) = pointer encoding context >>= λ p. of_result (direct p)

-- the address of DW_CFA_set_loc
abbrev pub set_location : InstructionContext → Read ℕ
set_location c = location_by c.pointers c.address_encoding

-- ---- opcodes

abbrev pub unknown_opcode : {A : Type 0} → ℕ → Read A
unknown_opcode opcode = refuse (UnknownCallFrameInstruction (record { 0 = opcode }))

abbrev pub negate_ra_state : Vendor → Read Instruction
negate_ra_state vendors.AArch64 = give variant.NegateRaState
negate_ra_state vendors.Default = unknown_opcode 0x2d

abbrev pub advance : ℕ → Read Instruction
advance delta = give (variant.AdvanceLoc delta)

-- DW_CFA_offset and its kin: a register and a number that is read after it
abbrev pub register_and :
    {A : Type 0} → Read A → (RegisterNumber → A → Instruction) → Read Instruction
register_and operand made = do
  r ← register_leb128
  n ← operand
  give (made r n)

-- the width of the operand of DW_CFA_advance_loc1 and DW_CFA_advance_loc2
abbrev pub delta_width : ℕ → Width
delta_width opcode = if opcode == 0x02 then w8 else w16

-- row creation (DWARF 5 section 6.4.2.1)
abbrev pub row_creation : InstructionContext → List (ℕ × Read Instruction)
row_creation c =
    (0x01, set_location c >>= λ a. give (variant.SetLoc a))
    ∷ (0x02, unsigned w8 >>= advance)
    ∷ (0x03, unsigned w16 >>= advance)
    ∷ (0x04, unsigned w32 >>= advance)
    ∷ []

-- the definition of the CFA (section 6.4.2.2)
abbrev pub cfa_definition : InstructionContext → List (ℕ × Read Instruction)
cfa_definition c =
    (0x0c, register_and unsigned_leb128 variant.DefCfa)
    ∷ (0x0d, register_leb128 >>= λ r. give (variant.DefCfaRegister r))
    ∷ (0x0e, unsigned_leb128 >>= λ n. give (variant.DefCfaOffset n))
    ∷ (0x0f, expression c.pointers >>= λ e. give (variant.DefCfaExpression e))
    ∷ (0x12, register_and signed_leb128 variant.DefCfaSf)
    ∷ (0x13, signed_leb128 >>= λ z. give (variant.DefCfaOffsetSf z))
    ∷ []

-- the state of a row (section 6.4.2.4), padding (section 6.4.2.5), and the opcodes of vendors
abbrev pub state_and_others : InstructionContext → List (ℕ × Read Instruction)
state_and_others c =
    (0x00, give variant.Nop)
    ∷ (0x0a, give variant.RememberState)
    ∷ (0x0b, give variant.RestoreState)
    ∷ (0x2d, negate_ra_state c.vendor)
    ∷ (0x2e, unsigned_leb128 >>= λ n. give (variant.ArgsSize n))
    ∷ []

-- the rules of registers (section 6.4.2.3), with an offset from the CFA and without; 0x2f is GNU's
-- DW_CFA_GNU_negative_offset_extended
abbrev pub offset_rules : List (ℕ × Read Instruction)
offset_rules =
    (0x05, register_and unsigned_leb128 variant.Offset)
    ∷ (0x11, register_and signed_leb128 variant.OffsetExtendedSf)
    ∷ (0x14, register_and unsigned_leb128 variant.ValOffset)
    ∷ (0x15, register_and signed_leb128 variant.ValOffsetSf)
    ∷ (0x2f, register_and unsigned_leb128 variant.OffsetExtendedNegative)
    ∷ []

abbrev pub register_rules : InstructionContext → List (ℕ × Read Instruction)
register_rules c =
    (0x06, register_leb128 >>= λ r. give (variant.Restore r))
    ∷ (0x07, register_leb128 >>= λ r. give (variant.Undefined r))
    ∷ (0x08, register_leb128 >>= λ r. give (variant.SameValue r))
    ∷ (0x09, register_and register_leb128 variant.Register)
    ∷ (0x10, register_and (expression c.pointers) variant.Expression)
    ∷ (0x16, register_and (expression c.pointers) variant.ValExpression)
    ∷ []

-- the opcodes whose two high bits are 0, with what is read after them
abbrev pub extended_opcodes : InstructionContext → List (ℕ × Read Instruction)
extended_opcodes c =
    row_creation c ++ cfa_definition c ++ state_and_others c ++ offset_rules ++ register_rules c

-- the primary opcodes, which are the two high bits alone: the low six bits are the first operand
abbrev pub primary_opcodes : ℕ → List (ℕ × Read Instruction)
primary_opcodes low =
    (0x40, advance low)
    ∷ (0x80, unsigned_leb128 >>= λ n. give (variant.Offset (record { 0 = low }) n))
    ∷ (0xc0, give (variant.Restore (record { 0 = low })))
    ∷ []

-- ---- the choice by an opcode

abbrev pub by_extended_opcode : InstructionContext → ℕ → Read Instruction
by_extended_opcode c opcode = chosen_from opcode (extended_opcodes c) (unknown_opcode opcode)

-- the end of the table, the rules of registers, and of these the ones without an offset
unfoldable pub by_register_rules : InstructionContext → ℕ → Read Instruction
by_register_rules c opcode = chosen_from opcode (register_rules c) (unknown_opcode opcode)

unfoldable pub by_rules : InstructionContext → ℕ → Read Instruction
by_rules c opcode = chosen_from opcode offset_rules (by_register_rules c opcode)

-- Not one of the opcodes whose two high bits are 0 that compilers write most: padding, short moves,
-- a new place of the CFA, and the state of a row.
abbrev pub IsRare : ℕ → Type 0
IsRare opcode =
    (opcode ≢ 0x00) × (opcode ≢ 0x02) × (opcode ≢ 0x03) × (opcode ≢ 0x0a) × (opcode ≢ 0x0b)
    × (opcode ≢ 0x0c) × (opcode ≢ 0x0d) × (opcode ≢ 0x0e)

abbrev pub by_opcode : InstructionContext → ℕ → Read Instruction
by_opcode c opcode =
    let low = opcode % 64 in
    chosen_from (opcode - low) (primary_opcodes low) (by_extended_opcode c opcode)

unfoldable pub instruction : InstructionContext → Read Instruction
instruction c = do
  opcode ← unsigned w8
  by_opcode c opcode

-- the instructions of an extent, up to its end or to the first that can't be read
abbrev pub instructions : InstructionContext → Extent → Source → Readings Instruction
instructions c extent source = readings_over extent (instruction c) source
