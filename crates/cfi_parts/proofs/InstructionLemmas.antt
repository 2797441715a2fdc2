-- Each instruction takes a byte at least, so that a program ends.
use Rattle.std.proofs.Common.{◌-◌, ◌%◌, ◌++◌, ℕ, List, [], ◌∷◌, Option, Some, None, arith}
use Rattle.std.specs.Prelude.{ℤ}
use Rattle.std.specs.List.{AllByRecursion}
use Rattle.std.specs.Int.{w8, w16, w32, w64, cast_unsigned}
use Rattle.cfi_read_core.specs.declared.common.Vendor.{Vendor}
use Rattle.cfi_read_core.specs.declared.common.Vendor.TheVariants as vendors
use Rattle.cfi_read_core.specs.declared.common.Register.{Register as RegisterNumber}
use Rattle.cfi_read_core.specs.ReadFunctions.{Read, ◌>>=◌, give, of_result, refuse_if, here, split}
use Rattle.cfi_read_core.specs.Numbers.{unsigned, signed, unsigned_leb128, signed_leb128, offset_leb128, register_leb128}
use Rattle.cfi_read_core.specs.declared.error.Error.{Error}
use Rattle.cfi_read_core.specs.declared.error.Error.TheVariants.{PcRelativePointerButSectionBaseIsUndefined, CannotParseOmitPointerEncoding}
use Rattle.cfi_read_core.specs.Addresses.{wrap}
use Rattle.cfi_read_core.specs.PointerEncodings.{format_of, application_of, is_omitted}
use Rattle.cfi_read_core.proofs.Onward.{IsOnward, onward_give, onward_refuse, onward_bind, onward_here, onward_split, onward_of_result, onward_refuse_if, onward_unsigned, onward_signed, onward_unsigned_leb128, onward_signed_leb128, onward_offset_leb128, onward_register_leb128, onward_address, onward_from}
use Rattle.cfi_read_core.proofs.Repeating.{Advances, advances_bind, advances_unsigned}
use Rattle.cfi_parts.specs.declared.pointer.Pointer.{Pointer}
use Rattle.cfi_read_core.specs.declared.instruction.UnwindExpression.{UnwindExpression}
use Rattle.cfi_read_core.specs.declared.instruction.CallFrameInstruction.TheVariants as variant
use Rattle.cfi_parts.specs.Pointers.{PointerContext, unknown_encoding, in_64_bits, format_table, encoded_value, required_base, pc_base, application_table, base_of, pointer, pointer_to, direct}
use Rattle.cfi_parts.specs.Instructions.{Instruction, InstructionContext, expression, location_by, negate_ra_state, register_and, row_creation, cfa_definition, offset_rules, register_rules, state_and_others, extended_opcodes, primary_opcodes, unknown_opcode, by_opcode, instruction}

-- ---- pointers

-- a read, and something that is made of its value
onward_map : {A B : Type 0} (read : Read A) (made : A → B) → IsOnward read → IsOnward (read >>= λ x. give (made x))
onward_map read made first = onward_bind read (λ x. give (made x)) first (λ x. onward_give _)

onward_in_64_bits : (read : Read ℤ) → IsOnward read → IsOnward (in_64_bits read)
onward_in_64_bits read first = onward_map read (cast_unsigned w64) first

pub onward_formatted : (encoding size : ℕ) → IsOnward (encoded_value encoding size)
unfolding encoded_value
onward_formatted encoding size =
    onward_from (format_of encoding) (format_table size) (unknown_encoding encoding) (
      onward_address size,
      (
        onward_unsigned_leb128,
        (
          onward_unsigned w16,
          (
            onward_unsigned w32,
            (
              onward_unsigned w64,
              (onward_in_64_bits signed_leb128 onward_signed_leb128, (onward_in_64_bits (signed w16) (onward_signed w16), (onward_in_64_bits (signed w32) (onward_signed w32), (onward_in_64_bits (signed w64) (onward_signed w64), tt)))),
            ),
          ),
        ),
      ),
    )
    (onward_refuse _)

onward_defined : (e : Error) (o : Option ℕ) → IsOnward (required_base e o)
onward_defined e None = onward_refuse e
onward_defined e (Some base) = onward_give base

onward_pc_base : (context : PointerContext) → IsOnward (pc_base context)
onward_pc_base context =
    onward_bind (required_base PcRelativePointerButSectionBaseIsUndefined context.bases.section) (λ base. here >>= λ place. give (wrap base (place - context.section) context.size)) (onward_defined _ _) (λ base.
    onward_map here (λ place. wrap base (place - context.section) context.size) onward_here)

pub onward_base_of : (encoding : ℕ) (context : PointerContext) → IsOnward (base_of encoding context)
unfolding base_of
onward_base_of encoding context =
    onward_from (application_of encoding) (application_table encoding context) (unknown_encoding encoding)
    (onward_give 0, (onward_pc_base context, (onward_defined _ context.bases.text, (onward_defined _ context.bases.data_base, (onward_defined _ context.function, (onward_refuse _, tt))))))
    (onward_refuse _)

pub onward_pointer : (encoding : ℕ) (context : PointerContext) → IsOnward (pointer encoding context)
unfolding pointer
onward_pointer encoding context =
    let value : ℕ → Read Pointer = λ base. encoded_value encoding context.size >>= λ v. give (pointer_to encoding (wrap base v context.size)) in
    onward_bind (refuse_if (is_omitted encoding) CannotParseOmitPointerEncoding) (λ _. base_of encoding context >>= value) (onward_refuse_if _ _) (λ _.
    onward_bind (base_of encoding context) value (onward_base_of encoding context) (λ base.
    onward_map (encoded_value encoding context.size) (λ v. pointer_to encoding (wrap base v context.size)) (onward_formatted encoding context.size)))

-- ---- operands

pub onward_expression : (context : PointerContext) → IsOnward (expression context)
unfolding expression
onward_expression context =
    let passed : ℕ → Read (UnwindExpression ℕ) = λ length. split length >>= λ extent. give (record { offset = extent.first - context.section; length = length }) in
    onward_bind offset_leb128 passed onward_offset_leb128 (λ length.
    onward_map (split length) (λ extent. record { offset = extent.first - context.section; length = length }) (onward_split length))

onward_location : (context : PointerContext) (encoding : Option ℕ) → IsOnward (location_by context encoding)
onward_location context None = onward_address context.size
onward_location context (Some encoding) = onward_bind (pointer encoding context) (λ p. of_result (direct p)) (onward_pointer encoding context) (λ p. onward_of_result _)

onward_negate : (vendor : Vendor) → IsOnward (negate_ra_state vendor)
onward_negate vendors.AArch64 = onward_give _
onward_negate vendors.Default = onward_refuse _

onward_two : {A : Type 0} (operand : Read A) (made : RegisterNumber → A → Instruction) → IsOnward operand → IsOnward (register_and operand made)
onward_two operand made second =
    onward_bind register_leb128 (λ r. operand >>= λ n. give (made r n)) onward_register_leb128 (λ r. onward_map operand (made r) second)

-- ---- the opcodes, group by group, in the order of the definition's tables

abbrev IsEachOnward : List (ℕ × Read Instruction) → Type 0
IsEachOnward rows = AllByRecursion (λ row. IsOnward row.1) rows

onward_both : (rows others : List (ℕ × Read Instruction)) → IsEachOnward rows → IsEachOnward others → IsEachOnward (rows ++ others)
onward_both [] others each rest = rest
onward_both (row ∷ rows) others each rest = (each.0, onward_both rows others each.1 rest)

onward_row_creation : (c : InstructionContext) → IsEachOnward (row_creation c)
onward_row_creation c = (onward_map (location_by c.pointers c.address_encoding) variant.SetLoc (onward_location c.pointers c.address_encoding), (onward_map (unsigned w8) variant.AdvanceLoc (onward_unsigned w8), (onward_map (unsigned w16) variant.AdvanceLoc (onward_unsigned w16), (onward_map (unsigned w32) variant.AdvanceLoc (onward_unsigned w32), tt))))

onward_cfa_definition : (c : InstructionContext) → IsEachOnward (cfa_definition c)
onward_cfa_definition c = (onward_two unsigned_leb128 variant.DefCfa onward_unsigned_leb128, (onward_map register_leb128 variant.DefCfaRegister onward_register_leb128, (onward_map unsigned_leb128 variant.DefCfaOffset onward_unsigned_leb128, (onward_map (expression c.pointers) variant.DefCfaExpression (onward_expression c.pointers), (onward_two signed_leb128 variant.DefCfaSf onward_signed_leb128, (onward_map signed_leb128 variant.DefCfaOffsetSf onward_signed_leb128, tt))))))

onward_offset_rules : IsEachOnward offset_rules
onward_offset_rules = (onward_two unsigned_leb128 variant.Offset onward_unsigned_leb128, (onward_two signed_leb128 variant.OffsetExtendedSf onward_signed_leb128, (onward_two unsigned_leb128 variant.ValOffset onward_unsigned_leb128, (onward_two signed_leb128 variant.ValOffsetSf onward_signed_leb128, (onward_two unsigned_leb128 variant.OffsetExtendedNegative onward_unsigned_leb128, tt)))))

onward_register_rules : (c : InstructionContext) → IsEachOnward (register_rules c)
onward_register_rules c = (onward_map register_leb128 variant.Restore onward_register_leb128, (onward_map register_leb128 variant.Undefined onward_register_leb128, (onward_map register_leb128 variant.SameValue onward_register_leb128, (onward_two register_leb128 variant.Register onward_register_leb128, (onward_two (expression c.pointers) variant.Expression (onward_expression c.pointers), (onward_two (expression c.pointers) variant.ValExpression (onward_expression c.pointers), tt))))))

onward_state_and_others : (c : InstructionContext) → IsEachOnward (state_and_others c)
onward_state_and_others c = (onward_give variant.Nop, (onward_give variant.RememberState, (onward_give variant.RestoreState, (onward_negate c.vendor, (onward_map unsigned_leb128 variant.ArgsSize onward_unsigned_leb128, tt)))))

onward_extended : (c : InstructionContext) → IsEachOnward (extended_opcodes c)
onward_extended c =
    let rules : List (ℕ × Read Instruction) = offset_rules ++ register_rules c in
    let others : List (ℕ × Read Instruction) = state_and_others c ++ rules in
    onward_both (row_creation c) (cfa_definition c ++ others) (onward_row_creation c)
    (onward_both (cfa_definition c) others (onward_cfa_definition c)
    (onward_both (state_and_others c) rules (onward_state_and_others c)
    (onward_both offset_rules (register_rules c) onward_offset_rules (onward_register_rules c))))

-- an instruction that is read takes a byte at least
pub advances_instruction : (c : InstructionContext) → Advances (instruction c)
unfolding instruction
advances_instruction c =
    advances_bind (unsigned w8) (by_opcode c) (advances_unsigned w8 (omega arith)) (λ opcode.
    onward_from (opcode - opcode % 64) (primary_opcodes (opcode % 64)) _
    (onward_give _, (onward_map unsigned_leb128 (variant.Offset (record { 0 = opcode % 64 })) onward_unsigned_leb128, (onward_give _, tt)))
    (onward_from opcode (extended_opcodes c) (unknown_opcode opcode) (onward_extended c) (onward_refuse _)))
