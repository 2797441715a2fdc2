-- The bytes of an expression that was read in a section are there.
use Rattle.std.proofs.Common.{◌≡◌, ◌≤◌, ◌<◌, ◌+◌, ◌-◌, ℕ, Bool, true, false, List, length, Result, Ok, Err, refl, sym, ap, arith, nat_lt, length-take, drop}
use Rattle.std.specs.Prelude.{nat_le, if◌then◌else◌}
use Rattle.std.specs.List.{slice_get}
use borrow.Author.Tests.{ltb-true, leb-true}
use Rattle.cfi_read_core.specs.declared.error.Error.{Error}
use Rattle.cfi_read_core.specs.declared.error.Error.TheVariants.{BadUnsignedLeb128, UnsupportedOffset}
use Rattle.cfi_read_core.specs.ReadFunctions.{Read, Source, Extent, Outcome, carry_on, ◌>>=◌, ◌>>◌, split, give, refuse, refuse_if, unexpected_eof, offset, rest}
use Rattle.cfi_read_core.specs.Numbers.{continuation_count, is_bad_byte, leb128_bytes, leb128_sum, unsigned_leb128, offset_leb128}
use Rattle.cfi_read_core.specs.declared.instruction.UnwindExpression.{UnwindExpression}

-- ---- a read that gives a value stays within the bytes

pub record IsInside {A : Type 0} (read : Read A) : Type 0 where
  pub kept : (source : Source) (place : ℕ) (x : A) → (read source place).value ≡ Ok x → place ≤ source.last → (read source place).place ≤ source.last

inside_carried : {A B : Type 0} (next : A → Read B) → ((x : A) → IsInside (next x)) → (source : Source) (r : Result A Error) (place : ℕ) (y : B) →
    ((x : A) → r ≡ Ok x → place ≤ source.last) → (carry_on next source r place).value ≡ Ok y → (carry_on next source r place).place ≤ source.last
inside_carried next inside source (Ok x) place y h e = (inside x).kept source place y e (h x refl)
inside_carried next inside source (Err r) place y h e = absurd (cc)

pub inside_bind : {A B : Type 0} (read : Read A) (next : A → Read B) → IsInside read → ((x : A) → IsInside (next x)) → IsInside (read >>= next)
inside_bind read next first inside = record {
  kept = λ source place y e h. inside_carried next inside source (read source place).value (read source place).place y (λ x is. first.kept source place x is h) e;
}

pub inside_give : {A : Type 0} (x : A) → IsInside (give x)
inside_give x = record { kept = λ source place y e h. h }

inside_refuse : {A : Type 0} (e : Error) → IsInside (refuse {A = A} e)
inside_refuse e = record { kept = λ source place y is h. h }

inside_if : {A : Type 0} (b : Bool) (yes' no' : Read A) → IsInside yes' → IsInside no' → IsInside (if b then yes' else no')
inside_if true yes' no' y n = y
inside_if false yes' no' y n = n

inside_offset : (n : ℕ) → IsInside (offset n)
inside_offset n = record { kept = λ source. (inside_if (nat_le n source.greatest) (give n) (refuse UnsupportedOffset) (inside_give n) (inside_refuse _)).kept source }

bytes_end : (b : Bool) (n place last room : ℕ) (bs xs : List ℕ) → (b ≡ true → n < room) → place + room ≤ last → place ≤ last →
    (let o : Outcome (List ℕ) = if b then record { value = Ok bs; place = place + n + 1 } else record { value = Err (unexpected_eof (place + n)); place = place + n } in
    o.value ≡ Ok xs → o.place ≤ last)
bytes_end true n place last room bs xs some fits h e = let more = some refl in omega arith
bytes_end false n place last room bs xs some fits h e = absurd (cc)

inside_leb128_bytes : IsInside leb128_bytes
unfolding leb128_bytes
inside_leb128_bytes = record {
  kept = λ source place xs e h.
      let room : place + length (rest source place) ≤ source.last = omega (arith, length-take (source.last - place) (drop place source.whole)) in
      bytes_end (nat_lt (continuation_count (rest source place)) (length (rest source place))) (continuation_count (rest source place)) place source.last (length (rest source place)) _ xs
      (λ t. ltb-true _ _ t) room h e;
}

pub inside_unsigned_leb128 : IsInside unsigned_leb128
unfolding unsigned_leb128
inside_unsigned_leb128 =
    inside_bind leb128_bytes (λ bs. refuse_if (is_bad_byte (λ tenth. nat_lt 1 tenth) (slice_get bs 9)) BadUnsignedLeb128 >> give (leb128_sum bs)) inside_leb128_bytes (λ bs.
    inside_bind (refuse_if (is_bad_byte (λ tenth. nat_lt 1 tenth) (slice_get bs 9)) BadUnsignedLeb128) (λ _. give (leb128_sum bs))
    (inside_if (is_bad_byte (λ tenth. nat_lt 1 tenth) (slice_get bs 9)) (refuse BadUnsignedLeb128) (give (is_bad_byte (λ tenth. nat_lt 1 tenth) (slice_get bs 9))) (inside_refuse _) (inside_give _))
    (λ _. inside_give _))

pub inside_offset_leb128 : IsInside offset_leb128
unfolding offset_leb128
inside_offset_leb128 = inside_bind unsigned_leb128 offset inside_unsigned_leb128 inside_offset

-- ---- where the bytes stand: at p, from which the length's bytes are there

pub record Stands (first last : ℕ) (e : UnwindExpression ℕ) (p after : ℕ) : Type 0 where
  pub offset_is : e.offset ≡ p - first
  pub inside : e.length ≤ last - p
  pub after_is : after ≡ p + e.length

at_split : (first last n p : ℕ) (source : Source) (b : Bool) (e : UnwindExpression ℕ) (after : ℕ) → (b ≡ true → n ≤ last - p) →
    (let o : Outcome Extent = if b then record { value = Ok (record { first = p; last = p + n }); place = p + n } else record { value = Err (unexpected_eof p); place = p } in
    let passed : Extent → Read (UnwindExpression ℕ) = λ extent. give (record { offset = extent.first - first; length = n }) in
    carry_on passed source o.value o.place ≡ record { value = Ok e; place = after } → Stands first last e p after)
at_split first last n p source true e after fits is =
    let made : UnwindExpression ℕ = record { offset = p - first; length = n } in
    let same : made ≡ e = let value = ap (λ (o : Outcome (UnwindExpression ℕ)). o.value) is in cc in
    let room = fits refl in
    let offset = ap (λ (x : UnwindExpression ℕ). x.offset) same in
    let length = ap (λ (x : UnwindExpression ℕ). x.length) same in
    let place = ap (λ (o : Outcome (UnwindExpression ℕ)). o.place) is in
    record { offset_is = sym offset; inside = omega arith; after_is = omega arith }
at_split first last n p source false e after fits is = let value = ap (λ (o : Outcome (UnwindExpression ℕ)). o.value) is in absurd (cc)

unfoldable pub passed_at : (first : ℕ) → ℕ → Read (UnwindExpression ℕ)
passed_at first n = split n >>= λ extent. give (record { offset = extent.first - first; length = n })

pub at_length : (first p : ℕ) (source : Source) (r : Result ℕ Error) (e : UnwindExpression ℕ) (after : ℕ) →
    carry_on (passed_at first) source r p ≡ record { value = Ok e; place = after } → Stands first source.last e p after × ((n : ℕ) × (r ≡ Ok n))
unfolding passed_at
at_length first p source (Ok n) e after is =
    (at_split first source.last n p source (nat_le n (source.last - p)) e after (λ t. leb-true _ _ t) is, (n, refl))
at_length first p source (Err r) e after is = let value = ap (λ (o : Outcome (UnwindExpression ℕ)). o.value) is in absurd (cc)
