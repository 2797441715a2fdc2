-- A function without pointers.
use Rattle.std.proofs.Common.{◌≡◌, ◌∙◌, ℕ, Bool, false, true, Some, None, refl, ap, sym}
use Rattle.std.specs.Prelude.{◌==◌, ◌&&◌, ◌/◌, ◌%◌, if◌then◌else◌}
use Rattle.cfi_step.specs.declared.packed_rows.PackedRow.{PackedRow}
use Rattle.cfi_step.specs.declared.marks.PointerKind.TheVariants as pointer
use Rattle.cfi_step.specs.declared.function.Function.{Function}
use Rattle.cfi_step.specs.Marks.{is_plain, kind_by}
use Rattle.cfi_step.specs.PackedRows.{function_packed, function_with, near, plain_packed, pointer_of}

both : (a b : Bool) → (a && b) ≡ true → (a ≡ true) × (b ≡ true)
both true true is = (refl, refl)
both true false is = absurd (cc)
both false b is = absurd (cc)

no_pointer : (n address : ℕ) → (n == 0) ≡ true → pointer_of (kind_by n) address ≡ None
no_pointer n address is = ap (λ (b : Bool). pointer_of (if b then pointer.Absent else if n == 1 then pointer.Direct else pointer.Indirect) address) is

pub plain_same : (row : PackedRow) → is_plain row.numbers.marks ≡ true → function_with row None None ≡ function_packed row
plain_same row is =
    let bits = row.numbers.marks.bits in
    let (lsda, personality) = both (bits / 16 % 4 == 0) (bits / 64 % 4 == 0) is in
    let named : function_packed row ≡ function_with row None None = λ i. function_with row
    (no_pointer (bits / 16 % 4) (near row row.distances.lsda) lsda i)
    (no_pointer (bits / 64 % 4) (near row row.distances.personality) personality i) in
    sym named

pub plain_is : (row : PackedRow) → is_plain row.numbers.marks ≡ true → Some (function_with row None None) ≡ plain_packed row
plain_is row is =
    ap (λ (f : Function). Some f) (plain_same row is) ∙ sym (ap (λ (b : Bool). if b then Some (function_packed row) else None) is)
