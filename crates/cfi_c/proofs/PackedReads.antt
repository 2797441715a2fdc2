-- What is read by a packed rule.
use Rattle.std.proofs.Common.{◌≡◌, ◌<◌, ◌^◌, ◌∙◌, ℕ, ℤ, true, false, Bool, List, map, Option, Some, None, IfSome, Result, Ok, Err, refl, sym, ap, subst, inl, inr}
use Rattle.std.specs.FinMap.{get}
use Rattle.std.specs.Int.{w64, bit_not}
use Rattle.std.specs.Option.{option_map}
use Rattle.std.specs.Prelude.{◌&&◌, bit_and, nat_le, ok_or, if◌then◌else◌}
use Rattle.cfi_read_core.specs.Addresses.{IsAddressSize, is_sized}
use Rattle.cfi_read_core.specs.ReadFunctions.{Position}
use Rattle.cfi_state.specs.RulePairs.{rules_of}
use Rattle.cfi_state.specs.declared.table.rules.RegisterRule.{RegisterRule}
use Rattle.cfi_expression.specs.declared.error.FrameError.{FrameError}
use Rattle.cfi_expression.specs.declared.error.FrameError.TheVariants.{UnknownRegister, UnreadableMemory, UnsupportedSize}
use Rattle.cfi_expression.specs.Arithmetic.{displaced}
use Rattle.cfi_expression.specs.Frames.{known}
use Rattle.cfi_read_core.specs.ReaderCalls.{map_ok}
use Rattle.cfi_step.specs.declared.packed_rows.PackedRow.{PackedRow}
use Rattle.cfi_step.specs.declared.packed_rules.PackedRule.{PackedRule}
use Rattle.cfi_step.specs.declared.packed_rules.SmallRule.{SmallRule}
use Rattle.cfi_step.specs.declared.packed_rules.SmallRule.TheVariants as small
use Rattle.cfi_step.specs.declared.step.Caller.{Caller}
use Rattle.cfi_step.specs.Callers.{by_rule, cfa_of, found_value, is_signed, on_ok, pc_of, return_address, return_by, saved_at, unsigned, without_rule}
use Rattle.cfi_step.specs.Marks.{is_trampoline}
use Rattle.cfi_step.specs.PackedRows.{counted_rules, parts_packed}
use Rattle.cfi_step.specs.PackedRules.{eightfold, register_numbered, pair_of, rule_by}
use Rattle.cfi_step.proofs.Signatures.{no_bits}
use Rattle.cfi_c.specs.declared.memory.CfiMemory.{CfiMemory}
use Rattle.cfi_c.specs.declared.register.CfiValue.{CfiValue}
use Rattle.cfi_c.specs.PackedSteps.{Clears, IsCallerBy, IsCallerFrom, IsPcBy, IsPcOf, IsSavedPc, IsValueBy, passed_frame}
use Rattle.cfi_c.specs.PassedRegisters.{values_of}
use Rattle.cfi_c.specs.PassedMemories.{abi_in, number_in_memory}

-- ---- memory

sized : (size : ℕ) → IsAddressSize size → (is_sized size && nat_le size size) ≡ true
sized size (inl is) = subst (λ (n : ℕ). (is_sized n && nat_le n n) ≡ true) (sym is) refl
sized size (inr (inl is)) = subst (λ (n : ℕ). (is_sized n && nat_le n n) ≡ true) (sym is) refl
sized size (inr (inr (inl is))) = subst (λ (n : ℕ). (is_sized n && nat_le n n) ≡ true) (sym is) refl
sized size (inr (inr (inr is))) = subst (λ (n : ℕ). (is_sized n && nat_le n n) ≡ true) (sym is) refl

read_if : (test : Bool) (size a : ℕ) (there : Option ℕ) → test ≡ true
    → map_ok Some (ok_or there (UnreadableMemory a)) ≡ map_ok Some (if test then ok_or there (UnreadableMemory a) else Err (UnsupportedSize size))
read_if true size a there is = refl
read_if false size a there is = absurd (cc)

abbrev pub found_at : ℕ → Result (Option ℕ) FrameError
found_at a = Ok (Some a)

pub saved : (memory : CfiMemory) (a : ℕ) (there : Option ℕ) → IsAddressSize memory.address_size → number_in_memory memory a memory.address_size ≡ there → (registers : List CfiValue)
    → map_ok Some (ok_or there (UnreadableMemory a)) ≡ saved_at (passed_frame memory registers) a
saved memory a there is_size is registers =
    let size = memory.address_size in
    read_if (is_sized size && nat_le size size) size a there (sized size is_size)
    ∙ ap (λ (o : Option ℕ). map_ok Some (if is_sized size && nat_le size size then ok_or o (UnreadableMemory a) else Err (UnsupportedSize size))) (sym is)

pub if_some_at : {X : Type 0} (P : X → Type 0) (o : Option X) (x : X) → o ≡ Some x → IfSome o P → P x
if_some_at P o x is all = subst (λ found. IfSome found P) is all

-- ---- the bits of a signature

nothing_cleared : (a : ℕ) → a < 2 ^ 64 → bit_and a (bit_not w64 0) ≡ a
nothing_cleared a fits = sym (no_bits true a fits)

pub clears_of_none : (mask : ℕ) (signed : Bool) → mask ≡ 0 → Clears mask signed 0
clears_of_none mask signed none a fits = nothing_cleared a fits ∙ (no_bits signed a fits ∙ ap (λ (m : ℕ). unsigned m signed a) (sym none))

pub clears_nothing : (mask : ℕ) (signed : Bool) → signed ≡ false → Clears mask signed 0
clears_nothing mask true is = absurd (cc)
clears_nothing mask false is = nothing_cleared

pub clears_mask : (mask : ℕ) (signed : Bool) → signed ≡ true → Clears mask signed mask
clears_mask mask true is = λ a fits. refl
clears_mask mask false is = absurd (cc)

pub sign_of : (row : PackedRow) (rules : List PackedRule) (found : Option SmallRule) (signed : Bool) → rules ≡ counted_rules row.numbers → option_map rule_by found ≡ get (rules_of (map pair_of rules)) 34
    → signed ≡ is_signed (option_map rule_by found) → is_signed (get (parts_packed row).rules 34) ≡ signed
sign_of row rules found signed same of is =
    sym (is ∙ ap (λ (o : Option (RegisterRule ℕ)). is_signed o) (of ∙ ap (λ (l : List PackedRule). get (rules_of (map pair_of l)) 34) same))

-- ---- the pc that is saved

module _ (memory : CfiMemory) (a bits : ℕ) (is_size : IsAddressSize memory.address_size) where
  pub saved_some : (n : ℕ) → n < 2 ^ 64 → number_in_memory memory a memory.address_size ≡ Some n → IsSavedPc memory a bits (Ok (Some (bit_and n (bit_not w64 bits))))
  saved_some n fits there registers bytes signed ra clears =
      ap found_at (clears n fits) ∙ ap (on_ok (pc_of (passed_frame memory registers) bytes (abi_in memory) (λ (n : ℕ). n) signed ra)) (saved memory a (Some n) is_size there registers)

  pub saved_none : number_in_memory memory a memory.address_size ≡ None → IsSavedPc memory a bits (Err (UnreadableMemory a))
  saved_none there registers bytes signed ra clears =
      ap (on_ok (pc_of (passed_frame memory registers) bytes (abi_in memory) (λ (n : ℕ). n) signed ra)) (saved memory a None is_size there registers)

-- ---- the pc

module _ (memory : CfiMemory) (registers : List CfiValue) (cfa ra bits : ℕ) where
  known_pc : (bytes : Position) (signed : Bool) (value : Option ℕ) (pc : Result (Option ℕ) FrameError) → IsPcOf memory.signature_mask signed value (register_numbered ra) pc
      → pc ≡ pc_of (passed_frame memory registers) bytes (abi_in memory) (λ (n : ℕ). n) signed (register_numbered ra) value
  known_pc bytes signed (Some a) pc is = is
  known_pc bytes signed None pc is = is

  abbrev pub IsPcByRule : Option SmallRule → Result (Option ℕ) FrameError → Type 0
  IsPcByRule given pc = IsPcBy memory registers cfa ra bits (option_map rule_by given) pc

  ruled_as : (given : Option SmallRule) (other : Option SmallRule) (pc : Result (Option ℕ) FrameError) → given ≡ other → IsPcByRule other pc → IsPcByRule given pc
  ruled_as given other pc is of = subst (λ (g : Option SmallRule). IsPcByRule g pc) (sym is) of

  module _ (given : Option SmallRule) where
    pub by_undefined : given ≡ Some small.Undefined → IsPcByRule given (Ok None)
    by_undefined is = ruled_as given (Some small.Undefined) (Ok None) is (λ bytes parts clears. refl)

    pub by_constant : (n : ℕ) → n < 2 ^ 64 → given ≡ Some (small.Constant n) → IsPcByRule given (Ok (Some (bit_and n (bit_not w64 bits))))
    by_constant n fits is = ruled_as given (Some (small.Constant n)) (Ok (Some (bit_and n (bit_not w64 bits)))) is (λ bytes parts clears. ap found_at (clears n fits))

    pub by_unruled : given ≡ None → (value : Option ℕ)
        → ((bytes : Position) → Ok value ≡ without_rule (passed_frame memory registers) bytes (abi_in memory) (λ (n : ℕ). n) cfa ra)
        → (pc : Result (Option ℕ) FrameError) → ((mask : ℕ) (signed : Bool) → Clears mask signed bits → IsPcOf mask signed value (register_numbered ra) pc) → IsPcByRule given pc
    by_unruled is value of pc there =
        ruled_as given None pc is
        (λ bytes parts clears.
        known_pc bytes (is_signed (get parts.rules 34)) value pc (there memory.signature_mask (is_signed (get parts.rules 34)) clears) ∙ ap (on_ok (pc_of (passed_frame memory registers) bytes (abi_in memory) (λ (n : ℕ). n) (is_signed (get parts.rules 34)) (register_numbered ra))) (of bytes))

  module _ (given : Option SmallRule) (words : ℤ) (is : given ≡ Some (small.Offset words)) where
    pub by_saved : (a : ℕ) → a ≡ displaced memory.address_size cfa (eightfold words) → (pc : Result (Option ℕ) FrameError) → IsSavedPc memory a bits pc → IsPcByRule given pc
    by_saved a of pc there =
        ruled_as given (Some (small.Offset words)) pc is
        (λ bytes parts clears.
        there registers bytes (is_signed (get parts.rules 34)) (register_numbered ra) clears
        ∙ ap (λ (x : ℕ). on_ok (pc_of (passed_frame memory registers) bytes (abi_in memory) (λ (n : ℕ). n) (is_signed (get parts.rules 34)) (register_numbered ra)) (saved_at (passed_frame memory registers) x)) of)

    pub by_first : IsAddressSize memory.address_size → (n : ℕ) → n < 2 ^ 64 → number_in_memory memory (displaced memory.address_size cfa (eightfold words)) memory.address_size ≡ Some n
        → IsPcByRule given (Ok (Some (bit_and n (bit_not w64 bits))))
    by_first is_size n fits there =
        let here = displaced memory.address_size cfa (eightfold words) in by_saved here refl (Ok (Some (bit_and n (bit_not w64 bits)))) (saved_some memory here bits is_size n fits there)

-- the rule of the register is that of the row
module _ (memory : CfiMemory) (registers : List CfiValue) (row : PackedRow) (cfa : ℕ) where
  abbrev returned : Position → ℕ → Option (RegisterRule ℕ) → Result (Option ℕ) FrameError
  returned bytes k given = return_by (passed_frame memory registers) bytes (abi_in memory) (λ (n : ℕ). n) (parts_packed row) cfa (register_numbered k) given

  pub by_row : (ra bits : ℕ) (rules : List PackedRule) (given : Option SmallRule) (pc : Result (Option ℕ) FrameError)
      → ra ≡ row.numbers.return_address → rules ≡ counted_rules row.numbers → option_map rule_by given ≡ get (rules_of (map pair_of rules)) ra
      → Clears memory.signature_mask (is_signed (get (parts_packed row).rules 34)) bits → IsPcByRule memory registers cfa ra bits given pc
      → (bytes : Position) → pc ≡ return_address (passed_frame memory registers) bytes (abi_in memory) (λ (n : ℕ). n) (parts_packed row) cfa (register_numbered row.numbers.return_address)
  by_row ra bits rules given pc same_ra same_rules of clears is bytes =
      is bytes (parts_packed row) clears
      ∙ (ap (returned bytes ra) (of ∙ ap (λ (l : List PackedRule). get (rules_of (map pair_of l)) ra) same_rules)
      ∙ ap (λ (k : ℕ). returned bytes k (get (parts_packed row).rules k)) same_ra)

-- ---- a value

given_of : (o : Option ℕ) (a : ℕ) → found_value (map_ok Some (ok_or o (UnreadableMemory a))) ≡ o
given_of None a = refl
given_of (Some n) a = refl

module _ (memory : CfiMemory) (cfa : ℕ) (rule : SmallRule) (words : ℤ) (is : rule ≡ small.Offset words) (is_size : IsAddressSize memory.address_size) where
  pub given_saved : (o : Option ℕ) → number_in_memory memory (displaced memory.address_size cfa (eightfold words)) memory.address_size ≡ o → IsValueBy memory cfa rule o
  given_saved o there registers bytes k =
      let a = displaced memory.address_size cfa (eightfold words) in
      let P : SmallRule → Type 0 = λ r. o ≡ found_value (by_rule (passed_frame memory registers) bytes (abi_in memory) (λ (n : ℕ). n) cfa k (rule_by r)) in
      let here : P (small.Offset words) = sym (given_of o a) ∙ ap found_value (saved memory a o is_size there registers) in
      subst P (sym is) here

-- ---- the caller

module _ (memory : CfiMemory) (registers : List CfiValue) (row : PackedRow) where
  abbrev pub found_pc : Position → ℕ → Result (Option ℕ) FrameError
  found_pc bytes cfa = return_address (passed_frame memory registers) bytes (abi_in memory) (λ (n : ℕ). n) (parts_packed row) cfa (register_numbered row.numbers.return_address)

  abbrev of_pc : ℕ → Option ℕ → Caller
  of_pc cfa pc = record { cfa = cfa; pc = pc; is_interrupted = is_trampoline row.numbers.marks; args_size = (parts_packed row).args_size }

  pub with_pc : (cfa : ℕ) (found : Option ℕ) (trampoline : Bool) (args_size : ℕ) → trampoline ≡ is_trampoline row.numbers.marks → args_size ≡ (parts_packed row).args_size
      → ((bytes : Position) → Ok found ≡ found_pc bytes cfa)
      → IsCallerFrom memory registers row cfa (Ok (record { cfa = cfa; pc = found; is_interrupted = trampoline; args_size = args_size }))
  with_pc cfa found trampoline args_size same_trampoline same_size of bytes =
      let named : ◌≡◌ {A = Result Caller FrameError} (Ok (record { cfa = cfa; pc = found; is_interrupted = trampoline; args_size = args_size })) (Ok (of_pc cfa found)) =
      λ i. Ok (record { cfa = cfa; pc = found; is_interrupted = same_trampoline i; args_size = same_size i }) in
      named ∙ ap (map_ok (of_pc cfa)) (of bytes)

  pub without_pc : (cfa : ℕ) (error : FrameError) → ((bytes : Position) → Err error ≡ found_pc bytes cfa) → IsCallerFrom memory registers row cfa (Err error)
  without_pc cfa error of bytes = ap (map_ok (of_pc cfa)) (of bytes)

  abbrev from_cfa : Position → ℕ → Result Caller FrameError
  from_cfa bytes cfa = map_ok (of_pc cfa) (found_pc bytes cfa)

  pub with_cfa : (cfa : ℕ) (caller : Result Caller FrameError)
      → ((bytes : Position) → Ok cfa ≡ cfa_of (passed_frame memory registers) bytes (abi_in memory) (λ (n : ℕ). n) (parts_packed row).cfa)
      → IsCallerFrom memory registers row cfa caller → IsCallerBy memory registers row caller
  with_cfa cfa caller of is bytes = is bytes ∙ ap (on_ok (from_cfa bytes)) (of bytes)

  pub without_cfa : (error : FrameError) → ((bytes : Position) → Err error ≡ cfa_of (passed_frame memory registers) bytes (abi_in memory) (λ (n : ℕ). n) (parts_packed row).cfa)
      → IsCallerBy memory registers row (Err error)
  without_cfa error of bytes = ap (on_ok (from_cfa bytes)) (of bytes)

  abbrev ok_at : ℕ → Result ℕ FrameError
  ok_at a = Ok a

  abbrev cfa_from : Result ℕ FrameError → Result ℕ FrameError
  cfa_from = on_ok (λ (v : ℕ). ok_at (displaced memory.address_size v (eightfold row.numbers.cfa_words)))

  pub quick_cfa : (value k : ℕ) (offset : ℤ) (cfa : ℕ) → memory.address_size ≡ 8 → known (values_of registers) k ≡ Some value → k ≡ row.numbers.cfa_register
      → offset ≡ eightfold row.numbers.cfa_words → cfa ≡ displaced 8 value offset → (bytes : Position)
      → Ok cfa ≡ cfa_of (passed_frame memory registers) bytes (abi_in memory) (λ (n : ℕ). n) (parts_packed row).cfa
  quick_cfa value k offset cfa size is same_k same_offset at bytes =
      let there : known (values_of registers) row.numbers.cfa_register ≡ Some value = subst (λ (j : ℕ). known (values_of registers) j ≡ Some value) same_k is in
      ap ok_at (at ∙ (ap (λ (z : ℤ). displaced 8 value z) same_offset ∙ ap (λ (s : ℕ). displaced s value (eightfold row.numbers.cfa_words)) (sym size)))
      ∙ ap (λ (o : Option ℕ). cfa_from (ok_or o (UnknownRegister (register_numbered row.numbers.cfa_register)))) (sym there)

  pub quick_with_cfa : (cfa : ℕ) (caller : Option Caller)
      → ((bytes : Position) → Ok cfa ≡ cfa_of (passed_frame memory registers) bytes (abi_in memory) (λ (n : ℕ). n) (parts_packed row).cfa)
      → IfSome caller (λ c. IsCallerFrom memory registers row cfa (Ok c)) → IfSome caller (λ c. IsCallerBy memory registers row (Ok c))
  quick_with_cfa cfa None of is = tt
  quick_with_cfa cfa (Some c) of is = with_cfa cfa (Ok c) of is
