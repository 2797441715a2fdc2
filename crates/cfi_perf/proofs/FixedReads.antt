-- Reads that take a number of bytes: they give the same where more bytes follow these.
use Rattle.std.proofs.Common.{◌≡◌, ◌≤◌, ◌+◌, ◌-◌, ℕ, Bool, List, ◌++◌, Ok, sym, ap, ◌∙◌, length, arith}
use Rattle.std.specs.Prelude.{slice_range}
use Rattle.std.specs.Int.{Width, w64, byte_len}
use Rattle.std.proofs.lemmas.Bool.{le-leb}
use Rattle.std.proofs.lemmas.List.{length-append}
use Rattle.cfi_read_core.specs.ReadFunctions.{Read, Source, Outcome, carry_on, give, ◌>>=◌}
use Rattle.cfi_read_core.specs.Numbers.{unsigned, number_of}
use Rattle.cfi_read_core.specs.SliceReaders.{slice_over}
use Rattle.cfi_perf.specs.declared.file_header.FileHeader.{FileHeader}
use Rattle.cfi_perf.specs.declared.file_header.FileSection.{FileSection}
use Rattle.cfi_perf.specs.FileHeaders.{feature_bits, file_section, header_fields}
use Rattle.cfi_perf.specs.ByteReads.{read_from}
use Rattle.cfi_perf.proofs.WindowSteps.{front_range, number_read}

abbrev over : List ℕ → Bool → Source
over bytes big = (slice_over bytes big).source

abbrev found : {A : Type 0} → A → ℕ → Outcome A
found x place = record { value = Ok x; place = place }

-- What it gives of the bytes, and where more follow.
record Same {A : Type 0} (read : Read A) (n : ℕ) (big : Bool) (front others : List ℕ) (place : ℕ) : Type 0 where
  value : A
  of_front : read (over front big) place ≡ found value (place + n)
  of_all : read (over (front ++ others) big) place ≡ found value (place + n)

pub record Fixed {A : Type 0} (read : Read A) (n : ℕ) : Type 0 where
  same : (big : Bool) (front others : List ℕ) (place : ℕ) → place + n ≤ length front → Same read n big front others place

fixed_number : (w : Width) → Fixed (unsigned w) (byte_len w)
fixed_number w = record {
  same = λ big front others place fits.
      let n : ℕ = byte_len w in
      let range = front_range front others place (place + n) fits (omega arith) in
      record {
        value = number_of w big (slice_range front place (place + n));
        of_front = number_read w (over front big) place (le-leb n (length front - place) (omega arith));
        of_all =
            number_read w (over (front ++ others) big) place (le-leb n (length (front ++ others) - place) (omega (arith, length-append front others)))
            ∙ ap (λ (bs : List ℕ). found (number_of w big bs) (place + n)) range;
      };
}

fixed_then : {A B : Type 0} (first : Read A) (next : A → Read B) (n m : ℕ) → Fixed first n → ((x : A) → Fixed (next x) m) → Fixed (first >>= next) (n + m)
fixed_then {A = A} {B = B} first next n m is then = record {
  same = λ big front others place fits.
      let one = is.same big front others place (omega arith) in
      let two = (then one.value).same big front others (place + n) (omega arith) in
      let sum : (place + n) + m ≡ place + (n + m) = omega arith in
      record {
        value = two.value;
        of_front =
            ap (λ (o : Outcome A). carry_on next (over front big) o.value o.place) one.of_front
            ∙ (two.of_front ∙ ap (λ (p : ℕ). found two.value p) sum);
        of_all =
            ap (λ (o : Outcome A). carry_on next (over (front ++ others) big) o.value o.place) one.of_all
            ∙ (two.of_all ∙ ap (λ (p : ℕ). found two.value p) sum);
      };
}

fixed_give : {A : Type 0} (x : A) → Fixed (give x) 0
fixed_give x = record {
  same = λ big front others place fits.
      let none : place ≡ place + 0 = omega arith in
      record {
        value = x;
        of_front = ap (λ (p : ℕ). found x p) none;
        of_all = ap (λ (p : ℕ). found x p) none;
      };
}

fixed_section : Fixed file_section 16
unfolding file_section
fixed_section =
    fixed_then (unsigned w64) (λ offset. unsigned w64 >>= λ size. give (record { offset = offset; size = size })) 8 8 (fixed_number w64)
    (λ offset. fixed_then (unsigned w64) (λ size. give (record { offset = offset; size = size })) 8 0 (fixed_number w64) (λ size. fixed_give (record { offset = offset; size = size })))

fixed_bits : Fixed feature_bits 32
unfolding feature_bits
fixed_bits =
    fixed_then (unsigned w64) (λ features. unsigned w64 >>= λ a. unsigned w64 >>= λ b. unsigned w64 >>= λ c. give features) 8 24 (fixed_number w64)
    (λ features. fixed_then (unsigned w64) (λ a. unsigned w64 >>= λ b. unsigned w64 >>= λ c. give features) 8 16 (fixed_number w64)
    (λ a. fixed_then (unsigned w64) (λ b. unsigned w64 >>= λ c. give features) 8 8 (fixed_number w64)
    (λ b. fixed_then (unsigned w64) (λ c. give features) 8 0 (fixed_number w64) (λ c. fixed_give features))))

-- the header's own
abbrev last_of : ℕ → FileSection → FileSection → Read FileHeader
last_of size attrs records = feature_bits >>= λ features. give (record { attr_size = size; attrs = attrs; records = records; features = features })

abbrev types_of : ℕ → FileSection → FileSection → Read FileHeader
types_of size attrs records = file_section >>= λ types. last_of size attrs records

abbrev records_of : ℕ → FileSection → Read FileHeader
records_of size attrs = file_section >>= λ records. types_of size attrs records

abbrev attrs_of : ℕ → Read FileHeader
attrs_of size = file_section >>= λ attrs. records_of size attrs

pub fixed_header : Fixed header_fields 88
unfolding header_fields
fixed_header =
    fixed_then (unsigned w64) attrs_of 8 80 (fixed_number w64)
    (λ size. fixed_then file_section (records_of size) 16 64 fixed_section
    (λ attrs. fixed_then file_section (types_of size attrs) 16 48 fixed_section
    (λ records. fixed_then file_section (λ types. last_of size attrs records) 16 32 fixed_section
    (λ types. fixed_then feature_bits (λ features. give (record { attr_size = size; attrs = attrs; records = records; features = features })) 32 0 fixed_bits
    (λ features. fixed_give (record { attr_size = size; attrs = attrs; records = records; features = features }))))))

pub fixed_size : Fixed (unsigned w64) 8
fixed_size = fixed_number w64

pub same_from : {A : Type 0} (read : Read A) (n : ℕ) → Fixed read n → (big : Bool) (front others : List ℕ) → n ≤ length front →
    read_from big (front ++ others) read ≡ read_from big front read
same_from {A = A} read n is big front others fits =
    let same = is.same big front others 0 (omega arith) in
    ap (λ (o : Outcome A). o.value) same.of_all ∙ sym (ap (λ (o : Outcome A). o.value) same.of_front)
