-- What pointers and operands are read as, over plain values.
use Rattle.std.proofs.Common.{◌≡◌, ◌∙◌, ◌-◌, ◌%◌, ℕ, Bool, true, false, Some, Ok, Err, refl, sym, ap}
use Rattle.std.specs.Prelude.{if◌then◌else◌}
use Rattle.std.specs.Int.{w8, w32, w64, cast_unsigned}
use Rattle.std.proofs.Math.IntN.{ℤ}
use Rattle.cfi_read_core.specs.declared.common.Register.{Register as RegisterNumber}
use Rattle.cfi_read_core.specs.declared.common.Vendor.TheVariants as vendors
use Rattle.cfi_read_core.specs.declared.error.Error.TheVariants.{UnknownPointerEncoding, UnknownCallFrameInstruction, UnsupportedPointerEncoding, CannotParseOmitPointerEncoding}
use Rattle.cfi_read_core.specs.ReadFunctions.{Source, Outcome, ◌>>=◌, carry_on, give, chosen_from}
use Rattle.cfi_read_core.specs.Numbers.{unsigned, signed, unsigned_leb128, register_leb128}
use Rattle.cfi_read_core.specs.Addresses.{wrap}
use Rattle.cfi_read_core.specs.PointerEncodings.{application_of, format_of, is_indirect, is_omitted, is_valid_encoding}
use Rattle.cfi_read_core.specs.declared.instruction.CallFrameInstruction.TheVariants.{OffsetExtendedNegative, RestoreState, AdvanceLoc}
use Rattle.cfi_parts.specs.declared.pointer.Pointer.TheVariants.{Direct, Indirect}
use Rattle.cfi_parts.specs.Pointers.{PointerContext, encoding_byte, encoded_value, unknown_encoding, base_of, pointer_to, pointer}
use Rattle.cfi_parts.specs.Instructions.{Instruction, InstructionContext, by_rules, by_opcode, extended_opcodes, unknown_opcode, instruction}

module _ (source : Source) (place : ℕ) where
  refused_if : (valid : Bool) (b at : ℕ) → valid ≡ false → (if valid then give b else unknown_encoding b) source at ≡ record { value = Err (UnknownPointerEncoding (record { 0 = b })); place = at }
  refused_if valid b at is = rw is refl

  -- a byte that is no encoding
  pub byte_refused : {b at : ℕ} → unsigned w8 source place ≡ record { value = Ok b; place = at } → is_valid_encoding b ≡ false →
      encoding_byte source place ≡ record { value = Err (UnknownPointerEncoding (record { 0 = b })); place = at }
  unfolding encoding_byte
  byte_refused {b = b} {at = at} gives invalid =
      ap (λ (o : Outcome ℕ). carry_on (λ e. if is_valid_encoding e then give e else unknown_encoding e) source o.value o.place) gives ∙ refused_if (is_valid_encoding b) b at invalid

  -- the base of a pointer that counts from itself
  pub pc_read : (encoding : ℕ) (context : PointerContext) {base start size address : ℕ} → application_of encoding ≡ 1 → context.bases.section ≡ Some base →
      start ≡ place - context.section → size ≡ context.size → address ≡ wrap base start size → base_of encoding context source place ≡ record { value = Ok address; place = place }
  unfolding base_of
  pc_read encoding context is has starts sized sum = rw (is, has, sum, starts, sized) refl

  -- the base of an aligned value
  pub aligned_refused : (encoding : ℕ) (context : PointerContext) → application_of encoding ≡ 5 →
      base_of encoding context source place ≡ record { value = Err (UnsupportedPointerEncoding (record { 0 = encoding })); place = place }
  unfolding base_of
  aligned_refused encoding context is = rw is refl

  -- a value of four bytes with a sign
  pub sdata4_read : (encoding size : ℕ) {value at : ℕ} {z : ℤ} → format_of encoding ≡ 0x0b → signed w32 source place ≡ record { value = Ok z; place = at } → value ≡ cast_unsigned w64 z →
      encoded_value encoding size source place ≡ record { value = Ok value; place = at }
  unfolding encoded_value
  sdata4_read encoding size is read extended = rw (is, extended) (ap (λ (o : Outcome ℤ). carry_on (λ z. give (cast_unsigned w64 z)) source o.value o.place) read)

  -- a pointer that is left out
  pub omitted_refused : (encoding : ℕ) (context : PointerContext) → is_omitted encoding ≡ true →
      pointer encoding context source place ≡ record { value = Err CannotParseOmitPointerEncoding; place = place }
  unfolding pointer
  omitted_refused encoding context is = rw is refl

  -- a pointer, by its base and its value
  module _ (encoding : ℕ) (context : PointerContext) (given : is_omitted encoding ≡ false) where
    pub pointer_read : {b at v behind size address : ℕ} {indirect : Bool} → base_of encoding context source place ≡ record { value = Ok b; place = at } →
        size ≡ context.size → encoded_value encoding size source at ≡ record { value = Ok v; place = behind } → address ≡ wrap b v size → is_indirect encoding ≡ indirect →
        pointer encoding context source place ≡ record { value = Ok (if indirect then Indirect address else Direct address); place = behind }
    unfolding pointer
    pointer_read {b = b} {at = at} base sized value sum is =
        rw (given, sum, sized, sym is) (
        ap (λ (o : Outcome ℕ). carry_on (λ b. encoded_value encoding context.size >>= λ v. give (pointer_to encoding (wrap b v context.size))) source o.value o.place) base
        ∙ ap (λ (o : Outcome ℕ). carry_on (λ v. give (pointer_to encoding (wrap b v context.size))) source o.value o.place) (ap (λ (n : ℕ). encoded_value encoding n source at) (sym sized) ∙ value))

  -- an opcode that the vendor hasn't
  pub negate_refused : (c : InstructionContext) {opcode : ℕ} → opcode ≡ 0x2d → c.vendor ≡ vendors.Default →
      chosen_from opcode (extended_opcodes c) (unknown_opcode opcode) source place
      ≡ record { value = Err (UnknownCallFrameInstruction (record { 0 = opcode })); place = place }
  negate_refused c is vendor = rw (is, vendor) refl

  -- a register, and an offset that is negated
  pub negative_read : (c : InstructionContext) {opcode : ℕ} {r : RegisterNumber} {n at behind : ℕ} {further : Source} → opcode ≡ 0x2f → further ≡ source →
      register_leb128 source place ≡ record { value = Ok r; place = at } → unsigned_leb128 further at ≡ record { value = Ok n; place = behind } →
      by_rules c opcode source place ≡ record { value = Ok (OffsetExtendedNegative r n); place = behind }
  unfolding by_rules
  negative_read c {r = r} {at = at} is same register number =
      rw is (
      ap (λ (o : Outcome RegisterNumber). carry_on {B = Instruction} (λ r. unsigned_leb128 >>= λ n. give (OffsetExtendedNegative r n)) source o.value o.place) register
      ∙ ap (λ (o : Outcome ℕ). carry_on {B = Instruction} (λ n. give (OffsetExtendedNegative r n)) source o.value o.place) (ap (λ (s : Source). unsigned_leb128 s at) (sym same) ∙ number))

  -- the state of a row is restored
  pub restore_read : (c : InstructionContext) {opcode : ℕ} → opcode ≡ 0x0b →
      chosen_from opcode (extended_opcodes c) (unknown_opcode opcode) source place ≡ record { value = Ok RestoreState; place = place }
  restore_read c is = rw is refl

  -- a move by the low six bits
  pub advance_read : (c : InstructionContext) {opcode at delta : ℕ} → unsigned w8 source place ≡ record { value = Ok opcode; place = at } →
      opcode - opcode % 64 ≡ 0x40 → delta ≡ opcode % 64 → instruction c source place ≡ record { value = Ok (AdvanceLoc delta); place = at }
  unfolding instruction
  advance_read c byte is low = ap (λ (o : Outcome ℕ). carry_on (by_opcode c) source o.value o.place) byte ∙ rw (is, low) refl
