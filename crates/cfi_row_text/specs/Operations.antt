-- The operations of DWARF expressions (DWARF 5 sections 2.5.1, 2.6.1 and 7.7.1): for each section a
-- table or two, from the opcode to the name and the form of the operand. Operations with a block, a
-- type, an entry or an offset of another section are in no table: call frames may not have them, or
-- they mean nothing there (section 6.4.2).
--     operation_entry opcode      its name, and the form of its operand
use Rattle.std.specs.Prelude.{ℕ, ◌-◌, List, [], ◌∷◌, ◌++◌, nat_lt, ◌==◌}
use Rattle.std.specs.Prelude.{codes, if◌then◌else◌}
use Rattle.std.specs.Fmt.{decimal}
use Rattle.std.specs.Option.{option_map_or}
use Rattle.cfi_read_core.specs.declared.common.Register.{Register}
use Rattle.cfi_row_text.specs.declared.operations.Form.{Form}
use Rattle.cfi_row_text.specs.declared.operations.Form.TheVariants as form
use Rattle.cfi_row_text.specs.declared.operations.Form.TheVariants.{Nothing, Unsigned, Signed}
use Rattle.cfi_row_text.specs.declared.operations.OperationName.{OperationName}
use Rattle.cfi_row_text.specs.declared.operations.Width.TheVariants.{One, Two, Four, Eight, Leb128}

-- ---- the tables

pub record OperationEntry : Type 0 where
  pub name : List ℕ
  pub form : Form

abbrev pub made : List ℕ → Form → OperationEntry
made name form = record { name = name; form = form }

-- what the table has for an opcode, or the other one
abbrev pub found : ℕ → List (ℕ × OperationEntry) → OperationEntry → OperationEntry
found opcode [] other = other
found opcode (row ∷ rows) other = if row.0 == opcode then row.1 else found opcode rows other

-- register values (section 2.5.1.2), objects and frames (section 2.5.1.3), the one that does
-- nothing (section 2.5.1.6), and what names a place (sections 2.6.1.1 and 2.6.1.2)
abbrev pub special_table : List (ℕ × OperationEntry)
special_table =
    (0x90, made (codes "DW_OP_regx") form.Register)
    ∷ (0x91, made (codes "DW_OP_fbreg") (Signed Leb128))
    ∷ (0x92, made (codes "DW_OP_bregx") form.RegisterOffset)
    ∷ (0x93, made (codes "DW_OP_piece") (Unsigned Leb128))
    ∷ (0x96, made (codes "DW_OP_nop") Nothing)
    ∷ (0x97, made (codes "DW_OP_push_object_address") Nothing)
    ∷ (0x9b, made (codes "DW_OP_form_tls_address") Nothing)
    ∷ (0x9c, made (codes "DW_OP_call_frame_cfa") Nothing)
    ∷ (0x9f, made (codes "DW_OP_stack_value") Nothing)
    ∷ []

unfoldable pub other_entry : ℕ → OperationEntry
other_entry opcode = found opcode special_table (made [] form.Unknown)

-- control flow (section 2.5.1.5)
abbrev pub control_flow_table : List (ℕ × OperationEntry)
control_flow_table =
    (0x28, made (codes "DW_OP_bra") (Signed Two))
    ∷ (0x29, made (codes "DW_OP_eq") Nothing)
    ∷ (0x2a, made (codes "DW_OP_ge") Nothing)
    ∷ (0x2b, made (codes "DW_OP_gt") Nothing)
    ∷ (0x2c, made (codes "DW_OP_le") Nothing)
    ∷ (0x2d, made (codes "DW_OP_lt") Nothing)
    ∷ (0x2e, made (codes "DW_OP_ne") Nothing)
    ∷ (0x2f, made (codes "DW_OP_skip") (Signed Two))
    ∷ []

unfoldable pub control_entry : ℕ → OperationEntry
control_entry opcode = found opcode control_flow_table (other_entry opcode)

-- bits and shifts, of the arithmetic and logical operations (section 2.5.1.4)
abbrev pub logical_table : List (ℕ × OperationEntry)
logical_table =
    (0x1a, made (codes "DW_OP_and") Nothing)
    ∷ (0x20, made (codes "DW_OP_not") Nothing)
    ∷ (0x21, made (codes "DW_OP_or") Nothing)
    ∷ (0x24, made (codes "DW_OP_shl") Nothing)
    ∷ (0x25, made (codes "DW_OP_shr") Nothing)
    ∷ (0x26, made (codes "DW_OP_shra") Nothing)
    ∷ (0x27, made (codes "DW_OP_xor") Nothing)
    ∷ []

unfoldable pub logic_entry : ℕ → OperationEntry
logic_entry opcode = found opcode logical_table (control_entry opcode)

-- arithmetic, of the same
abbrev pub arithmetic_table : List (ℕ × OperationEntry)
arithmetic_table =
    (0x19, made (codes "DW_OP_abs") Nothing)
    ∷ (0x1b, made (codes "DW_OP_div") Nothing)
    ∷ (0x1c, made (codes "DW_OP_minus") Nothing)
    ∷ (0x1d, made (codes "DW_OP_mod") Nothing)
    ∷ (0x1e, made (codes "DW_OP_mul") Nothing)
    ∷ (0x1f, made (codes "DW_OP_neg") Nothing)
    ∷ (0x22, made (codes "DW_OP_plus") Nothing)
    ∷ (0x23, made (codes "DW_OP_plus_uconst") (Unsigned Leb128))
    ∷ []

unfoldable pub arithmetic_entry : ℕ → OperationEntry
arithmetic_entry opcode = found opcode arithmetic_table (logic_entry opcode)

-- stack operations (section 2.5.1.3)
abbrev pub stack_table : List (ℕ × OperationEntry)
stack_table =
    (0x06, made (codes "DW_OP_deref") Nothing)
    ∷ (0x12, made (codes "DW_OP_dup") Nothing)
    ∷ (0x13, made (codes "DW_OP_drop") Nothing)
    ∷ (0x14, made (codes "DW_OP_over") Nothing)
    ∷ (0x15, made (codes "DW_OP_pick") (Unsigned One))
    ∷ (0x16, made (codes "DW_OP_swap") Nothing)
    ∷ (0x17, made (codes "DW_OP_rot") Nothing)
    ∷ (0x18, made (codes "DW_OP_xderef") Nothing)
    ∷ (0x94, made (codes "DW_OP_deref_size") (Unsigned One))
    ∷ (0x95, made (codes "DW_OP_xderef_size") (Unsigned One))
    ∷ []

unfoldable pub stack_entry : ℕ → OperationEntry
stack_entry opcode = found opcode stack_table (arithmetic_entry opcode)

-- literal encodings (section 2.5.1.1)
abbrev pub literal_table : List (ℕ × OperationEntry)
literal_table =
    (0x03, made (codes "DW_OP_addr") form.Address)
    ∷ (0x08, made (codes "DW_OP_const1u") (Unsigned One))
    ∷ (0x09, made (codes "DW_OP_const1s") (Signed One))
    ∷ (0x0a, made (codes "DW_OP_const2u") (Unsigned Two))
    ∷ (0x0b, made (codes "DW_OP_const2s") (Signed Two))
    ∷ (0x0c, made (codes "DW_OP_const4u") (Unsigned Four))
    ∷ (0x0d, made (codes "DW_OP_const4s") (Signed Four))
    ∷ (0x0e, made (codes "DW_OP_const8u") (Unsigned Eight))
    ∷ (0x0f, made (codes "DW_OP_const8s") (Signed Eight))
    ∷ (0x10, made (codes "DW_OP_constu") (Unsigned Leb128))
    ∷ (0x11, made (codes "DW_OP_consts") (Signed Leb128))
    ∷ []

unfoldable pub constant_entry : ℕ → OperationEntry
constant_entry opcode = found opcode literal_table (stack_entry opcode)

abbrev pub numbered_register : ℕ → Register
numbered_register n = record { 0 = n }

-- 0x30 to 0x4f are DW_OP_lit0 to lit31, 0x50 to 0x6f DW_OP_reg0 to reg31, and 0x70 to 0x8f
-- DW_OP_breg0 to breg31
abbrev pub operation_entry : ℕ → OperationEntry
operation_entry opcode =
    if nat_lt opcode 0x30 then constant_entry opcode
    else if nat_lt opcode 0x50 then made (codes "DW_OP_lit" ++ decimal (opcode - 0x30)) Nothing
    else if nat_lt opcode 0x70 then made (codes "DW_OP_reg" ++ decimal (opcode - 0x50))
    (form.Named (numbered_register (opcode - 0x50)))
    else if nat_lt opcode 0x90 then made (codes "DW_OP_breg" ++ decimal (opcode - 0x70))
    (form.OffsetFrom (numbered_register (opcode - 0x70)))
    else constant_entry opcode

-- a name of the code
abbrev pub operation_name_text : OperationName → List ℕ
operation_name_text name = name.text.now ++ option_map_or decimal name.number []
