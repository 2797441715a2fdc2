-- The expression of an instruction lies in the section in which the instruction was read.
use Rattle.std.proofs.Common.{◌≡◌, ◌≤◌, ◌<◌, ◌+◌, ◌-◌, ◌%◌, ◌++◌, ℕ, zero, suc, Bool, true, false, List, [], ◌∷◌, Option, Some, None, Result, Ok, Err, refl, sym, ap, subst, arith}
use Rattle.std.specs.Prelude.{nat_le, IfOk, IfSome, if◌then◌else◌, ◌==◌}
use Rattle.std.specs.List.{AllByRecursion}
use Rattle.std.specs.Int.{w8, w16, w32, byte_len}
use borrow.Author.Tests.{leb-true, leb-false}
use Rattle.cfi_read_core.specs.declared.common.Vendor.{Vendor}
use Rattle.cfi_read_core.specs.declared.common.Vendor.TheVariants as vendors
use Rattle.cfi_read_core.specs.declared.common.Register.{Register as RegisterNumber}
use Rattle.cfi_read_core.specs.declared.error.Error.{Error}
use Rattle.cfi_read_core.specs.ReadFunctions.{Read, Source, Position, Outcome, Extent, carry_on, ◌>>=◌, give, refuse, of_result, split, bytes, unexpected_eof, chosen_from, Readings, readings_with, readings_up_to}
use Rattle.cfi_read_core.specs.Numbers.{unsigned, unsigned_leb128, signed_leb128, offset_leb128, register_leb128, register_of}
use Rattle.cfi_read_core.proofs.Onward.{IsOnward, onward_unsigned, onward_offset_leb128, onward_register_leb128}
use Rattle.cfi_read_core.specs.declared.instruction.UnwindExpression.{UnwindExpression}
use Rattle.cfi_read_core.specs.declared.instruction.CallFrameInstruction.{CallFrameInstruction}
use Rattle.cfi_read_core.specs.declared.instruction.CallFrameInstruction.TheVariants as variant
use Rattle.cfi_parts.specs.Pointers.{PointerContext}
use Rattle.cfi_parts.specs.Instructions.{Instruction, InstructionContext, expression, location_by, negate_ra_state, register_and, row_creation, cfa_definition, offset_rules, register_rules, state_and_others, extended_opcodes, primary_opcodes, unknown_opcode, by_opcode, instruction, instructions}
use Rattle.cfi_parts.specs.InstructionReaders.{InstructionReader}
use Rattle.cfi_read_core.specs.MappedInstructions.{map_instruction}
use Rattle.cfi_read_core.specs.ExpressionPlaces.{LiesIn, expression_of, HasExpressionIn}
use Rattle.cfi_parts.specs.InstructionReaders.{ReadsIn}
use Rattle.cfi_parts.proofs.InstructionLemmas.{advances_instruction}
use Rattle.cfi_parts.proofs.Expressions.{IsInside, inside_bind, inside_unsigned_leb128, inside_offset_leb128, passed_at, at_length}

-- ---- the reads before an expression stay within the bytes

split_inside : (b : Bool) (n p last : ℕ) (x : Extent) → (b ≡ true → n ≤ last - p) → p ≤ last →
    (let o : Outcome Extent = if b then record { value = Ok (record { first = p; last = p + n }); place = p + n } else record { value = Err (unexpected_eof p); place = p } in
    o.value ≡ Ok x → o.place ≤ last)
split_inside true n p last x fits h e = let room = fits refl in omega arith
split_inside false n p last x fits h e = absurd (cc)

inside_split : (n : ℕ) → IsInside (split n)
inside_split n = record { kept = λ source place x e h. split_inside (nat_le n (source.last - place)) n place source.last x (λ t. leb-true _ _ t) h e }

inside_unsigned : IsInside (unsigned w8)
unfolding unsigned
inside_unsigned =
    inside_bind (bytes (byte_len w8)) _ (inside_bind (split (byte_len w8)) _ (inside_split (byte_len w8)) (λ extent. record { kept = λ source place x e h. h }))
    (λ bs. record { kept = λ source place x e h. h })

inside_register_leb128 : IsInside register_leb128
unfolding register_leb128
inside_register_leb128 = inside_bind unsigned_leb128 (λ n. of_result (register_of n)) inside_unsigned_leb128 (λ n. record { kept = λ source place x e h. h })

-- ---- an expression that is read ends with the bytes at the latest

ends_within : (context : PointerContext) (source : Source) (place : ℕ) (e : UnwindExpression ℕ) → context.section ≤ place → place ≤ source.last → (expression context source place).value ≡ Ok e →
    e.offset + e.length ≤ source.last - context.section
unfolding expression passed_at
ends_within context source place e begins within is =
    let length = offset_leb128 source place in
    let found = at_length context.section length.place source length.value e (expression context source place).place (λ k. record { value = is k; place = (expression context source place).place }) in
    let on = onward_offset_leb128.after source place in
    let inside = inside_offset_leb128.kept source place found.1.0 found.1.1 within in
    let offset = found.0.offset_is in
    let room = found.0.inside in
    omega arith

-- ---- what an instruction gives

-- the expression of an instruction that is read from `first` on ends with the bytes at the latest
record GivesWithin (first : ℕ) (read : Read Instruction) : Type 0 where
  kept : (source : Source) (place : ℕ) (i : Instruction) → first ≤ place → place ≤ source.last → (read source place).value ≡ Ok i →
      IfSome (expression_of i) (λ e. e.offset + e.length ≤ source.last - first)

-- an instruction that is read holds no expression
record GivesNone (read : Read Instruction) : Type 0 where
  none : (source : Source) (place : ℕ) (i : Instruction) → (read source place).value ≡ Ok i → expression_of i ≡ None

within_none : (first : ℕ) (read : Read Instruction) → GivesNone read → GivesWithin first read
within_none first read free = record {
  kept = λ source place i begins within is. subst (λ o. IfSome o (λ e. e.offset + e.length ≤ source.last - first)) (sym (free.none source place i is)) tt;
}

none_give : (i : Instruction) → expression_of i ≡ None → GivesNone (give i)
none_give i h = record { none = λ source place x is. let same : i ≡ x = cc in subst (λ (y : Instruction). expression_of y ≡ None) same h }

none_refuse : (e : Error) → GivesNone (refuse e)
none_refuse e = record { none = λ source place x is. absurd (cc) }

none_carried : {A : Type 0} (next : A → Read Instruction) → ((x : A) → GivesNone (next x)) → (source : Source) (r : Result A Error) (place : ℕ) (i : Instruction) →
    (carry_on next source r place).value ≡ Ok i → expression_of i ≡ None
none_carried next each source (Ok x) place i is = (each x).none source place i is
none_carried next each source (Err e) place i is = absurd (cc)

none_bind : {A : Type 0} (read : Read A) (next : A → Read Instruction) → ((x : A) → GivesNone (next x)) → GivesNone (read >>= next)
none_bind read next each = record { none = λ source place i is. none_carried next each source (read source place).value (read source place).place i is }

-- what is made of a value, and of a register and a value
none_made : {A : Type 0} (read : Read A) (made : A → Instruction) → ((x : A) → expression_of (made x) ≡ None) → GivesNone (read >>= λ x. give (made x))
none_made read made free = none_bind read _ (λ x. none_give (made x) (free x))

none_two : {A : Type 0} (operand : Read A) (made : RegisterNumber → A → Instruction) → ((r : RegisterNumber) (x : A) → expression_of (made r x) ≡ None) → GivesNone (register_and operand made)
none_two operand made free = none_bind register_leb128 _ (λ r. none_made operand (made r) (free r))

-- after a read that stays within the bytes
within_carried : {A : Type 0} (first : ℕ) (next : A → Read Instruction) → ((x : A) → GivesWithin first (next x)) → (source : Source) (r : Result A Error) (place : ℕ) (i : Instruction) →
    first ≤ place → ((x : A) → r ≡ Ok x → place ≤ source.last) → (carry_on next source r place).value ≡ Ok i → IfSome (expression_of i) (λ e. e.offset + e.length ≤ source.last - first)
within_carried first next each source (Ok x) place i begins within is = (each x).kept source place i begins (within x refl) is
within_carried first next each source (Err e) place i begins within is = absurd (cc)

within_bind : {A : Type 0} (first : ℕ) (read : Read A) (next : A → Read Instruction) → IsOnward read → IsInside read → ((x : A) → GivesWithin first (next x)) → GivesWithin first (read >>= next)
within_bind first read next onward inside each = record {
  kept = λ source place i begins within is.
      within_carried first next each source (read source place).value (read source place).place i (let on = onward.after source place in omega arith)
      (λ x e. inside.kept source place x e within) is;
}

made_of : {A : Type 0} (made : A → Instruction) (source : Source) (r : Result A Error) (place : ℕ) (i : Instruction) → (carry_on (λ x. give (made x)) source r place).value ≡ Ok i → (x : A) × (r ≡ Ok x) × (made x ≡ i)
made_of made source (Ok x) place i is = (x, refl, (let same : made x ≡ i = cc in same))
made_of made source (Err e) place i is = absurd (cc)

within_expression : (context : PointerContext) (made : UnwindExpression ℕ → Instruction) → ((e : UnwindExpression ℕ) → expression_of (made e) ≡ Some e) → GivesWithin context.section (expression context >>= λ e. give (made e))
within_expression context made holds = record {
  kept = λ source place i begins within is.
      let found = made_of made source (expression context source place).value (expression context source place).place i is in
      subst (λ (y : Instruction). IfSome (expression_of y) (λ e. e.offset + e.length ≤ source.last - context.section)) found.2
      (subst (λ o. IfSome o (λ e. e.offset + e.length ≤ source.last - context.section)) (sym (holds found.0))
      (ends_within context source place found.0 begins within found.1));
}

-- ---- the opcodes, group by group, in the order of the definition's tables

abbrev IsEachWithin : ℕ → List (ℕ × Read Instruction) → Type 0
IsEachWithin first rows = AllByRecursion (λ row. GivesWithin first row.1) rows

within_both : (first : ℕ) (rows others : List (ℕ × Read Instruction)) → IsEachWithin first rows → IsEachWithin first others → IsEachWithin first (rows ++ others)
within_both first [] others each rest = rest
within_both first (row ∷ rows) others each rest = (each.0, within_both first rows others each.1 rest)

within_row_creation : (first : ℕ) (c : InstructionContext) → IsEachWithin first (row_creation c)
within_row_creation first c = (
  within_none first _ (none_made (location_by c.pointers c.address_encoding) variant.SetLoc (λ x. refl)),
  (
    within_none first _ (none_made (unsigned w8) variant.AdvanceLoc (λ x. refl)),
    (
      within_none first _ (none_made (unsigned w16) variant.AdvanceLoc (λ x. refl)),
      (within_none first _ (none_made (unsigned w32) variant.AdvanceLoc (λ x. refl)), tt),
    ),
  ),
)

within_cfa_definition : (c : InstructionContext) → IsEachWithin c.pointers.section (cfa_definition c)
within_cfa_definition c = (
  within_none _ _ (none_two unsigned_leb128 variant.DefCfa (λ r x. refl)),
  (
    within_none _ _ (none_made register_leb128 variant.DefCfaRegister (λ x. refl)),
    (
      within_none _ _ (none_made unsigned_leb128 variant.DefCfaOffset (λ x. refl)),
      (
        within_expression c.pointers variant.DefCfaExpression (λ e. refl),
        (
          within_none _ _ (none_two signed_leb128 variant.DefCfaSf (λ r x. refl)),
          (within_none _ _ (none_made signed_leb128 variant.DefCfaOffsetSf (λ x. refl)), tt),
        ),
      ),
    ),
  ),
)

within_offset_rules : (first : ℕ) → IsEachWithin first offset_rules
within_offset_rules first = (
  within_none _ _ (none_two unsigned_leb128 variant.Offset (λ r x. refl)),
  (
    within_none _ _ (none_two signed_leb128 variant.OffsetExtendedSf (λ r x. refl)),
    (
      within_none _ _ (none_two unsigned_leb128 variant.ValOffset (λ r x. refl)),
      (
        within_none _ _ (none_two signed_leb128 variant.ValOffsetSf (λ r x. refl)),
        (within_none _ _ (none_two unsigned_leb128 variant.OffsetExtendedNegative (λ r x. refl)), tt),
      ),
    ),
  ),
)

within_of_register : (c : InstructionContext) (made : RegisterNumber → UnwindExpression ℕ → Instruction) → ((r : RegisterNumber) (e : UnwindExpression ℕ) → expression_of (made r e) ≡ Some e) →
    GivesWithin c.pointers.section (register_and (expression c.pointers) made)
within_of_register c made holds = within_bind _ register_leb128 _ onward_register_leb128 inside_register_leb128 (λ r. within_expression c.pointers (made r) (holds r))

within_register_rules : (c : InstructionContext) → IsEachWithin c.pointers.section (register_rules c)
within_register_rules c = (
  within_none _ _ (none_made register_leb128 variant.Restore (λ x. refl)),
  (
    within_none _ _ (none_made register_leb128 variant.Undefined (λ x. refl)),
    (
      within_none _ _ (none_made register_leb128 variant.SameValue (λ x. refl)),
      (
        within_none _ _ (none_two register_leb128 variant.Register (λ r x. refl)),
        (
          within_of_register c variant.Expression (λ r e. refl),
          (within_of_register c variant.ValExpression (λ r e. refl), tt),
        ),
      ),
    ),
  ),
)

none_negate : (vendor : Vendor) → GivesNone (negate_ra_state vendor)
none_negate vendors.AArch64 = none_give variant.NegateRaState refl
none_negate vendors.Default = none_refuse _

within_state_and_others : (first : ℕ) (c : InstructionContext) → IsEachWithin first (state_and_others c)
within_state_and_others first c = (
  within_none _ _ (none_give variant.Nop refl),
  (
    within_none _ _ (none_give variant.RememberState refl),
    (
      within_none _ _ (none_give variant.RestoreState refl),
      (
        within_none _ _ (none_negate c.vendor),
        (within_none _ _ (none_made unsigned_leb128 variant.ArgsSize (λ x. refl)), tt),
      ),
    ),
  ),
)

within_extended : (c : InstructionContext) → IsEachWithin c.pointers.section (extended_opcodes c)
within_extended c =
    let first = c.pointers.section in
    let rules : List (ℕ × Read Instruction) = offset_rules ++ register_rules c in
    let others : List (ℕ × Read Instruction) = state_and_others c ++ rules in
    within_both first (row_creation c) (cfa_definition c ++ others) (within_row_creation first c)
    (within_both first (cfa_definition c) others (within_cfa_definition c)
    (within_both first (state_and_others c) rules (within_state_and_others first c)
    (within_both first offset_rules (register_rules c) (within_offset_rules first) (within_register_rules c))))

within_if : (first : ℕ) (b : Bool) (yes' no' : Read Instruction) → GivesWithin first yes' → GivesWithin first no' → GivesWithin first (if b then yes' else no')
within_if first true yes' no' y n = y
within_if first false yes' no' y n = n

within_from : (first n : ℕ) (rows : List (ℕ × Read Instruction)) (other : Read Instruction) → IsEachWithin first rows → GivesWithin first other → GivesWithin first (chosen_from n rows other)
within_from first n [] other each otherwise = otherwise
within_from first n (row ∷ rows) other each otherwise = within_if first (row.0 == n) row.1 (chosen_from n rows other) each.0 (within_from first n rows other each.1 otherwise)

within_instruction : (c : InstructionContext) → GivesWithin c.pointers.section (instruction c)
unfolding instruction
within_instruction c =
    within_bind _ (unsigned w8) (by_opcode c) (onward_unsigned w8) inside_unsigned (λ opcode.
    within_from _ (opcode - opcode % 64) (primary_opcodes (opcode % 64)) _
    (within_none _ _ (none_give _ refl), (within_none _ _ (none_made unsigned_leb128 (variant.Offset (record { 0 = opcode % 64 })) (λ x. refl)), (within_none _ _ (none_give _ refl), tt)))
    (within_from _ opcode (extended_opcodes c) (unknown_opcode opcode) (within_extended c) (within_none _ _ (none_refuse _))))

-- ---- in a section

in_code : {T : Type 0} (number : T → ℕ) (section : Position) (i : CallFrameInstruction T) → HasExpressionIn (λ n. n) section (map_instruction number i) → HasExpressionIn number section i
in_code number section (variant.DefCfaExpression e) h = h
in_code number section (variant.Expression r e) h = h
in_code number section (variant.ValExpression r e) h = h
in_code number section _ h = tt

in_section : (o : Option (UnwindExpression ℕ)) (section : Position) (room : ℕ) → room ≤ section.source.last - section.place → IfSome o (λ e. e.offset + e.length ≤ room) → IfSome o (LiesIn section)
in_section None section room more h = tt
in_section (Some e) section room more h = record { ends = omega (arith, h) }

pub read_in : {T : Type 0} (number : T → ℕ) (section : Position) (c : InstructionContext) (at : Position) (i : CallFrameInstruction T) (after : ℕ) →
    ReadsIn section (record { context = c; position = at }) → c.pointers.section ≤ at.place → at.place ≤ at.source.last →
    instruction c at.source at.place ≡ record { value = Ok (map_instruction number i); place = after } → HasExpressionIn number section i
read_in number section c at i after reads begins within is =
    let first = reads.first in
    let last = reads.last in
    in_code number section i
    (in_section (expression_of (map_instruction number i)) section (at.source.last - c.pointers.section) (omega arith)
    ((within_instruction c).kept at.source at.place (map_instruction number i) begins within (ap (λ (o : Outcome Instruction). o.value) is)))

-- ---- the instructions of an extent

listed : (P : Instruction → Type 0) (b : Bool) (r : Result Instruction Error) (others : Readings Instruction) → ((i : Instruction) → b ≡ false → r ≡ Ok i → P i × AllByRecursion P others.values) →
    AllByRecursion P (readings_with b r others).values
listed P true r others each = tt
listed P false (Err e) others each = tt
listed P false (Ok i) others each = each i refl refl

each_within : (c : InstructionContext) (source : Source) (n place : ℕ) → c.pointers.section ≤ place →
    AllByRecursion (λ i. IfSome (expression_of i) (λ e. e.offset + e.length ≤ source.last - c.pointers.section)) (readings_up_to n (instruction c) source place).values
unfolding readings_up_to
each_within c source zero place begins = tt
each_within c source (suc n) place begins =
    listed _ (nat_le source.last place) (instruction c source place).value _ (λ i more is.
    let within : place < source.last = leb-false _ _ more in
    let on : place < (instruction c source place).place = (advances_instruction c).taken source place i is in
    ((within_instruction c).kept source place i begins (omega arith) is, each_within c source n (instruction c source place).place (omega arith)))

all_in_section : (is : List Instruction) (section : Position) (room : ℕ) → room ≤ section.source.last - section.place →
    AllByRecursion (λ i. IfSome (expression_of i) (λ e. e.offset + e.length ≤ room)) is → AllByRecursion (HasExpressionIn (λ n. n) section) is
all_in_section [] section room more all = tt
all_in_section (i ∷ is) section room more all = (in_section (expression_of i) section room more all.0, all_in_section is section room more all.1)

-- each instruction of a part of a section has its expression in the section
pub all_read_in : (section : Position) (c : InstructionContext) (extent : Extent) (source : Source) → c.pointers.section ≡ section.place → section.place ≤ extent.first → extent.last ≤ section.source.last →
    AllByRecursion (HasExpressionIn (λ n. n) section) (instructions c extent source).values
all_read_in section c extent source first begins ends =
    all_in_section (instructions c extent source).values section (extent.last - c.pointers.section) (omega arith)
    (each_within c (record source { last = extent.last }) (extent.last - extent.first) extent.first (omega arith))

-- for a caller of `next`: of the instruction that it answered
pub found_in : {T : Type 0} (number : T → ℕ) (section : Position) {reader : InstructionReader} {result : Result (Option (CallFrameInstruction T)) Error} {i : CallFrameInstruction T} →
    IfOk result (λ found. IfSome found (λ i. (s : Position) → ReadsIn s reader → HasExpressionIn number s i)) → ReadsIn section reader → result ≡ Ok (Some i) → HasExpressionIn number section i
found_in number section {reader = reader} held reads is = subst (λ r. IfOk r (λ found. IfSome found (λ i. (s : Position) → ReadsIn s reader → HasExpressionIn number s i))) is held section reads
