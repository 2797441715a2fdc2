-- Instructions and pointers at places, by computation.
use Rattle.std.proofs.Common.{◌≡◌, ℕ, List, [], ◌∷◌, length, false, Some, None, Ok, Err, negsuc, refl}
use Rattle.cfi_read_core.specs.declared.error.Error.TheVariants.{UnknownCallFrameInstruction, PcRelativePointerButSectionBaseIsUndefined}
use Rattle.cfi_read_core.specs.declared.common.Vendor.TheVariants as vendors
use Rattle.cfi_read_core.specs.ReadFunctions.{Source, Readings, unexpected_eof}
use Rattle.cfi_read_core.specs.ReadFunctions.{readings_up_to}
use Rattle.cfi_read_core.specs.Numbers.{unsigned, signed, leb128_bytes, unsigned_leb128, signed_leb128, register_leb128, offset_leb128}
use Rattle.cfi_read_core.specs.declared.instruction.CallFrameInstruction.TheVariants.{AdvanceLoc, DefCfaSf, DefCfaOffsetSf, DefCfaExpression, Offset, OffsetExtendedSf, OffsetExtendedNegative, Register, ValExpression, Restore}
use Rattle.cfi_parts.specs.declared.pointer.Pointer.TheVariants.{Direct, Indirect}
use Rattle.cfi_parts.specs.Pointers.{PointerContext, encoded_value, base_of, pointer}
use Rattle.cfi_parts.specs.Instructions.{Instruction, InstructionContext, expression, instruction, instructions}

abbrev little : List ℕ → Source
little bs = record { whole = bs; last = length bs; big_endian = false; greatest = 0xffffffffffffffff }

-- no bases, eight bytes of address
abbrev no_bases : PointerContext
no_bases = record { bases = record { section = None; text = None; data_base = None }; function = None; size = 8; section = 0 }

abbrev plain : InstructionContext
plain = record { pointers = no_bases; address_encoding = None; vendor = vendors.Default }

-- what the bytes are read as
abbrev read_as : List ℕ → Readings Instruction
read_as bs = instructions plain (record { first = 0; last = length bs }) (little bs)

-- bytes that are these instructions and nothing else
abbrev all : List Instruction → Readings Instruction
all is = record { values = is; refusal = None }

-- ---- the opcodes

primary_opcodes : read_as (0x6a ∷ 0x83 ∷ 0xcd ∷ 0x0f ∷ 0xc3 ∷ []) ≡ all (AdvanceLoc 42 ∷ Offset (record { 0 = 3 }) 1997 ∷ Restore (record { 0 = 3 }) ∷ [])
unfolding readings_up_to instruction unsigned leb128_bytes unsigned_leb128
primary_opcodes = refl

advances : read_as (0x02 ∷ 0x08 ∷ 0x03 ∷ 0xf4 ∷ 0x01 ∷ 0x04 ∷ 0x00 ∷ 0x00 ∷ 0x10 ∷ 0x00 ∷ []) ≡ all (AdvanceLoc 8 ∷ AdvanceLoc 500 ∷ AdvanceLoc 1048576 ∷ [])
unfolding readings_up_to instruction unsigned
advances = refl

registers : read_as (0x09 ∷ 0x07 ∷ 0x08 ∷ 0x12 ∷ 0x02 ∷ 0xf1 ∷ 0xb1 ∷ 0x7f ∷ 0x13 ∷ 0x85 ∷ 0x7f ∷ 0x11 ∷ 0x07 ∷ 0x5f ∷ []) ≡
    all (Register (record { 0 = 7 }) (record { 0 = 8 }) ∷ DefCfaSf (record { 0 = 2 }) (negsuc 9998) ∷ DefCfaOffsetSf (negsuc 122) ∷ OffsetExtendedSf (record { 0 = 7 }) (negsuc 32) ∷ [])
unfolding readings_up_to instruction unsigned leb128_bytes unsigned_leb128 signed_leb128 register_leb128
registers = refl

negative_offset : read_as (0x2f ∷ 0x06 ∷ 0x02 ∷ []) ≡ all (OffsetExtendedNegative (record { 0 = 6 }) 2 ∷ [])
unfolding readings_up_to instruction unsigned leb128_bytes unsigned_leb128 register_leb128
negative_offset = refl

cfa_expression : read_as (0x0f ∷ 0x0a ∷ 0x0a ∷ 0x09 ∷ 0x08 ∷ 0x07 ∷ 0x06 ∷ 0x05 ∷ 0x04 ∷ 0x03 ∷ 0x02 ∷ 0x01 ∷ []) ≡ all (DefCfaExpression (record { offset = 2; length = 10 }) ∷ [])
unfolding readings_up_to instruction expression unsigned leb128_bytes unsigned_leb128 offset_leb128
cfa_expression = refl

value_expression : read_as (0x16 ∷ 0x32 ∷ 0x06 ∷ 0x02 ∷ 0x02 ∷ 0x01 ∷ 0x01 ∷ 0x05 ∷ 0x05 ∷ []) ≡ all (ValExpression (record { 0 = 50 }) (record { offset = 3; length = 6 }) ∷ [])
unfolding readings_up_to instruction expression unsigned leb128_bytes unsigned_leb128 offset_leb128 register_leb128
value_expression = refl

-- the offset counts from the section, which begins behind two bytes
expression_of_a_section :
    instructions (record plain { pointers = record no_bases { section = 2 } }) (record { first = 2; last = 5 }) (little (0 ∷ 0 ∷ 0x0f ∷ 0x01 ∷ 0x30 ∷ [])) ≡ all (DefCfaExpression (record { offset = 2; length = 1 }) ∷ [])
unfolding readings_up_to instruction expression unsigned unsigned_leb128 offset_leb128 leb128_bytes
expression_of_a_section = refl

unknown_opcode_3f : read_as (0x3f ∷ []) ≡ record { values = []; refusal = Some (UnknownCallFrameInstruction (record { 0 = 0x3f })) }
unfolding readings_up_to instruction unsigned
unknown_opcode_3f = refl

operand_cut_off : read_as (0x02 ∷ []) ≡ record { values = []; refusal = Some (unexpected_eof 1) }
unfolding readings_up_to instruction unsigned
operand_cut_off = refl

vendor_opcode : read_as (0x2d ∷ []) ≡ record { values = []; refusal = Some (UnknownCallFrameInstruction (record { 0 = 0x2d })) }
unfolding readings_up_to instruction unsigned
vendor_opcode = refl

-- ---- pointers

abbrev based : ℕ → ℕ → PointerContext
based base size = record { bases = record { section = Some base; text = None; data_base = None }; function = None; size = size; section = 0 }

-- four bytes after, at address 0x1f04
behind_itself : pointer 0x1b (based 0x1f00 8) (little (0 ∷ 0 ∷ 0 ∷ 0 ∷ 0x10 ∷ 0 ∷ 0 ∷ 0 ∷ [])) 4 ≡ record { value = Ok (Direct 0x1f14); place = 8 }
unfolding pointer base_of encoded_value unsigned signed
behind_itself = refl

-- the same of a section that begins behind two bytes
behind_itself_in_a_section : pointer 0x1b (record (based 0x1f00 8) { section = 2 }) (little (0 ∷ 0 ∷ 0 ∷ 0 ∷ 0 ∷ 0 ∷ 0x10 ∷ 0 ∷ 0 ∷ 0 ∷ [])) 6 ≡ record { value = Ok (Direct 0x1f14); place = 10 }
unfolding pointer base_of encoded_value unsigned signed
behind_itself_in_a_section = refl

indirect_and_before_itself : pointer 0x9b (based 0x1f00 8) (little (0 ∷ 0 ∷ 0 ∷ 0 ∷ 0xf0 ∷ 0xff ∷ 0xff ∷ 0xff ∷ [])) 4 ≡ record { value = Ok (Indirect 0x1ef4); place = 8 }
unfolding pointer base_of encoded_value unsigned signed
indirect_and_before_itself = refl

wraps_at_the_size : pointer 0x1b (based 0xfffffff0 4) (little (0 ∷ 0 ∷ 0 ∷ 0 ∷ 0x20 ∷ 0 ∷ 0 ∷ 0 ∷ [])) 4 ≡ record { value = Ok (Direct 0x14); place = 8 }
unfolding pointer base_of encoded_value unsigned signed
wraps_at_the_size = refl

no_section_base : pointer 0x1b no_bases (little []) 0 ≡ record { value = Err PcRelativePointerButSectionBaseIsUndefined; place = 0 }
unfolding pointer base_of encoded_value unsigned signed
no_section_base = refl
