-- Results that are the same unless bytes of the file were not read.
use Rattle.std.proofs.Common.{◌≡◌, ◌∙◌, Bool, true, false, List, [], ◌∷◌, Option, Some, None, Result, Ok, Err, refl, sym, ap, true≢false}
use Rattle.std.specs.Prelude.{if◌then◌else◌}
use Rattle.cfi_elf.specs.declared.error.ElfError.{ElfError}
use Rattle.cfi_elf.specs.declared.error.ElfError.TheVariants.{NotRead}
use Rattle.cfi_elf.specs.Images.{IsRead}
use Rattle.cfi_elf.specs.Results.{and_then, if_found, or_missing}
use Rattle.cfi_elf.specs.Searches.{first_by, if_passed}

-- a result by parts of a file, and that of the whole file, which needs no byte that was not read
pub record Same {A : Type 0} (r r' : Result A ElfError) : Type 0 where
  pub same : IsRead r → r ≡ r'
  pub read : IsRead r'

-- ---- results that need no bytes of the file

abbrev pub is_not_read : ElfError → Bool
is_not_read (NotRead offset size) = true
is_not_read e = false

abbrev fails_so : {A : Type 0} → Result A ElfError → Bool
fails_so (Ok x) = false
fails_so (Err e) = is_not_read e

pub ok_read : {A : Type 0} (x : A) → IsRead (Ok x)
ok_read {A = A} x offset size is = true≢false (sym (ap (λ (r : Result A ElfError). fails_so r) is))

pub err_read : {A : Type 0} (e : ElfError) → is_not_read e ≡ false → IsRead {A = A} (Err e)
err_read {A = A} e other offset size is = true≢false (sym (ap (λ (r : Result A ElfError). fails_so r) is) ∙ other)

pub same_self : {A : Type 0} (r : Result A ElfError) → IsRead r → Same r r
same_self r given = record { same = λ read. refl; read = given }

pub same_ok : {A : Type 0} (x : A) → Same (Ok x) (Ok x)
same_ok x = same_self (Ok x) (ok_read x)

pub same_err : {A : Type 0} (e : ElfError) → is_not_read e ≡ false → Same {A = A} (Err e) (Err e)
same_err e other = same_self (Err e) (err_read e other)

pub same_or_missing : {A : Type 0} (e : ElfError) → is_not_read e ≡ false → (o : Option A) → Same (or_missing e o) (or_missing e o)
same_or_missing e other (Some x) = same_ok x
same_or_missing e other None = same_err e other

-- ---- one after the other

then_first : {A B : Type 0} (r : Result A ElfError) (next : A → Result B ElfError) → IsRead (and_then r next) → IsRead r
then_first {A = A} r next read offset size is = read offset size (ap (λ (r : Result A ElfError). and_then r next) is)

then_same : {A B : Type 0} (r r' : Result A ElfError) (next next' : A → Result B ElfError) → Same r r' → ((x : A) → Same (next x) (next' x)) → IsRead (and_then r next) → and_then r next ≡ and_then r' next'
then_same {A = A} (Ok x) r' next next' first others read =
    (others x).same read ∙ ap (λ (r : Result A ElfError). and_then r next') (first.same (ok_read x))
then_same {A = A} (Err e) r' next next' first others read =
    ap (λ (r : Result A ElfError). and_then r next') (first.same (then_first (Err e) next read))

pub then_read : {A B : Type 0} (r : Result A ElfError) (next : A → Result B ElfError) → IsRead r → ((x : A) → IsRead (next x)) → IsRead (and_then r next)
then_read (Ok x) next first others = others x
then_read {A = A} {B = B} (Err e) next first others = λ offset size is. first offset size (ap (λ (r : Result B ElfError). and_then r (λ x. Err e)) is)

pub same_then : {A B : Type 0} {r r' : Result A ElfError} {next next' : A → Result B ElfError} → Same r r' → ((x : A) → Same (next x) (next' x)) → Same (and_then r next) (and_then r' next')
same_then {r = r} {r' = r'} {next = next} {next' = next'} first others = record {
  same = then_same r r' next next' first others;
  read = then_read r' next' first.read (λ x. (others x).read);
}

pub same_if_found : {A B : Type 0} {next next' : A → Result B ElfError} → ((x : A) → Same (next x) (next' x)) → (found : Option A) → Same (if_found next found) (if_found next' found)
same_if_found each None = same_ok None
same_if_found each (Some x) = same_then (each x) (λ y. same_ok (Some y))

-- ---- by a test

pub same_if : {A : Type 0} {x x' y y' : Result A ElfError} (b : Bool) → Same x x' → Same y y' → Same (if b then x else y) (if b then x' else y')
same_if true first second = first
same_if false first second = second

-- ---- the first that passes a test

passed_read : {A : Type 0} (r : Result Bool ElfError) (x : A) (others : Result (Option A) ElfError) → IsRead r → IsRead others → IsRead (if_passed r x others)
passed_read (Ok true) x others first rest = ok_read (Some x)
passed_read (Ok false) x others first rest = rest
passed_read {A = A} (Err e) x others first rest = λ offset size is. first offset size (ap (λ (r : Result (Option A) ElfError). and_then r (λ x. Err e)) is)

first_by_read : {A : Type 0} (test : A → Result Bool ElfError) → ((x : A) → IsRead (test x)) → (xs : List A) → IsRead (first_by test xs)
first_by_read test each [] = ok_read None
first_by_read test each (x ∷ xs) = passed_read (test x) x (first_by test xs) (each x) (first_by_read test each xs)

pub same_first_by : {A : Type 0} (test : A → Result Bool ElfError) → ((x : A) → IsRead (test x)) → (xs : List A) → Same (first_by test xs) (first_by test xs)
same_first_by test each xs = same_self (first_by test xs) (first_by_read test each xs)
