-- Reads that never go back.
use Rattle.std.proofs.Common.{◌≤◌, ◌+◌, ◌-◌, ℕ, Bool, true, false, not, ◌||◌, List, [], ◌∷◌, length, Option, Some, None, Result, Ok, Err, arith, nat_lt}
use Rattle.std.specs.Prelude.{nat_le, ◌==◌, if◌then◌else◌}
use Rattle.std.specs.List.{AllByRecursion, slice_get}
use Rattle.std.specs.Int.{Width, byte_len, cast_signed}
use Rattle.cfi_read_core.specs.declared.error.Error.{Error}
use Rattle.cfi_read_core.specs.declared.error.Error.TheVariants.{BadUnsignedLeb128, BadSignedLeb128}
use Rattle.cfi_read_core.specs.ReadFunctions.{Read, Source, Outcome, Extent, carry_on, ◌>>=◌, ◌>>◌, give, refuse, of_result, refuse_if, here, split, bytes, within, offset, rest, chosen_from}
use Rattle.cfi_read_core.specs.Numbers.{unsigned, signed, continuation_count, leb128_bytes, is_bad_byte, leb128_sum, signed_leb128_sum, unsigned_leb128, signed_leb128, offset_leb128, register_of, register_leb128, length_in, initial_length}
use Rattle.cfi_read_core.specs.declared.common.Format.{Format}
use Rattle.cfi_read_core.specs.declared.common.Format.TheVariants.{Dwarf32, Dwarf64}
use Rattle.cfi_read_core.specs.Addresses.{address, address_width, of_width}

-- the place after the read is not before it
pub record IsOnward {A : Type 0} (read : Read A) : Type 0 where
  pub after : (source : Source) (place : ℕ) → place ≤ (read source place).place

pub onward_give : {A : Type 0} (x : A) → IsOnward (give x)
onward_give x = record { after = λ source place. omega arith }

pub onward_refuse : {A : Type 0} (e : Error) → IsOnward (refuse {A = A} e)
onward_refuse e = record { after = λ source place. omega arith }

pub onward_if : {A : Type 0} (b : Bool) (yes' no' : Read A) → IsOnward yes' → IsOnward no' → IsOnward (if b then yes' else no')
onward_if true yes' no' y n = y
onward_if false yes' no' y n = n

onward_carried : {A B : Type 0} (next : A → Read B) → ((x : A) → IsOnward (next x)) → (source : Source) (before : ℕ) (r : Result A Error) (place : ℕ) →
    before ≤ place → before ≤ (carry_on next source r place).place
onward_carried next onward source before (Ok x) place h = let h' = (onward x).after source place in omega arith
onward_carried next onward source before (Err e) place h = h

pub onward_bind : {A B : Type 0} (read : Read A) (next : A → Read B) → IsOnward read → ((x : A) → IsOnward (next x)) → IsOnward (read >>= next)
onward_bind read next first onward = record {
  after = λ source place. onward_carried next onward source place (read source place).value (read source place).place (first.after source place);
}

pub onward_here : IsOnward here
onward_here = record { after = λ source place. omega arith }

pub onward_within : {A : Type 0} (extent : Extent) (read : Read A) → IsOnward (within extent read)
onward_within extent read = record { after = λ source place. omega arith }

onward_chosen : (b : Bool) (n place : ℕ) (extent : Extent) (e : Error) → place ≤ (let o : Outcome Extent = if b then record { value = Ok extent; place = place + n } else record { value = Err e; place = place } in o).place
onward_chosen true n place extent e = omega arith
onward_chosen false n place extent e = omega arith

pub onward_split : (n : ℕ) → IsOnward (split n)
onward_split n = record { after = λ source place. onward_chosen (nat_le n (source.last - place)) n place _ _ }

pub onward_offset : (n : ℕ) → IsOnward (offset n)
onward_offset n = record { after = λ source. (onward_if (nat_le n source.greatest) (give n) (refuse _) (onward_give n) (onward_refuse _)).after source }

pub onward_unsigned : (width : Width) → IsOnward (unsigned width)
unfolding unsigned
onward_unsigned width =
    onward_bind (bytes (byte_len width)) _ (onward_bind (split (byte_len width)) _ (onward_split (byte_len width)) (λ extent. record { after = λ source place. omega arith }))
    (λ bs. record { after = λ source place. omega arith })

onward_length : (format : Format) (n : ℕ) → IsOnward (length_in format n)
onward_length format n = onward_bind (offset n) _ (onward_offset n) (λ m. onward_give _)

pub onward_initial_length : IsOnward initial_length
unfolding initial_length
onward_initial_length =
    onward_bind (unsigned _) _ (onward_unsigned _) (λ n.
    onward_if _ (length_in Dwarf32 n) _ (onward_length Dwarf32 n)
    (onward_if _ _ (refuse _) (onward_bind (unsigned _) (length_in Dwarf64) (onward_unsigned _) (onward_length Dwarf64)) (onward_refuse _)))

pub onward_of_result : {A : Type 0} (r : Result A Error) → IsOnward (of_result r)
onward_of_result r = record { after = λ source place. omega arith }

pub onward_refuse_if : (b : Bool) (e : Error) → IsOnward (refuse_if b e)
onward_refuse_if b e = onward_if b (refuse e) (give b) (onward_refuse e) (onward_give b)

pub onward_signed : (width : Width) → IsOnward (signed width)
unfolding signed
onward_signed width = onward_bind (unsigned width) (λ n. give (cast_signed width n)) (onward_unsigned width) (λ n. onward_give _)

onward_ended : (b : Bool) (n place : ℕ) (bs : List ℕ) (e : Error) →
    place ≤ (let o : Outcome (List ℕ) = if b then record { value = Ok bs; place = place + n + 1 } else record { value = Err e; place = place + n } in o).place
onward_ended true n place bs e = omega arith
onward_ended false n place bs e = omega arith

pub onward_leb128_bytes : IsOnward leb128_bytes
unfolding leb128_bytes
onward_leb128_bytes = record {
  after = λ source place. onward_ended (nat_lt (continuation_count (rest source place)) (length (rest source place))) (continuation_count (rest source place)) place _ _;
}

pub onward_unsigned_leb128 : IsOnward unsigned_leb128
unfolding unsigned_leb128
onward_unsigned_leb128 =
    onward_bind leb128_bytes (λ bs. refuse_if (is_bad_byte (λ tenth. nat_lt 1 tenth) (slice_get bs 9)) BadUnsignedLeb128 >> give (leb128_sum bs)) onward_leb128_bytes (λ bs.
    onward_bind (refuse_if (is_bad_byte (λ tenth. nat_lt 1 tenth) (slice_get bs 9)) BadUnsignedLeb128) (λ _. give (leb128_sum bs)) (onward_refuse_if _ _) (λ _. onward_give _))

pub onward_signed_leb128 : IsOnward signed_leb128
unfolding signed_leb128
onward_signed_leb128 =
    onward_bind leb128_bytes (λ bs. refuse_if (is_bad_byte (λ tenth. not (tenth == 0 || tenth == 0x7f)) (slice_get bs 9)) BadSignedLeb128 >> give (signed_leb128_sum bs)) onward_leb128_bytes (λ bs.
    onward_bind (refuse_if (is_bad_byte (λ tenth. not (tenth == 0 || tenth == 0x7f)) (slice_get bs 9)) BadSignedLeb128) (λ _. give (signed_leb128_sum bs)) (onward_refuse_if _ _) (λ _. onward_give _))

pub onward_offset_leb128 : IsOnward offset_leb128
unfolding offset_leb128
onward_offset_leb128 = onward_bind unsigned_leb128 offset onward_unsigned_leb128 onward_offset

pub onward_register_leb128 : IsOnward register_leb128
unfolding register_leb128
onward_register_leb128 =
    onward_bind unsigned_leb128 (λ n. of_result (register_of n)) onward_unsigned_leb128 (λ n. onward_of_result (register_of n))

pub onward_address : (size : ℕ) → IsOnward (address size)
unfolding address
onward_address size = by_width (address_width size)
  where
    by_width : (o : Option Width) → IsOnward (of_width o size)
    by_width None = onward_refuse _
    by_width (Some width) = onward_unsigned width

pub onward_from : {A : Type 0} (n : ℕ) (rows : List (ℕ × Read A)) (other : Read A) → AllByRecursion (λ row. IsOnward row.1) rows → IsOnward other → IsOnward (chosen_from n rows other)
onward_from n [] other each otherwise = otherwise
onward_from n (row ∷ rows) other each otherwise = onward_if (row.0 == n) row.1 (chosen_from n rows other) each.0 (onward_from n rows other each.1 otherwise)
