-- A value that was found, and what comes of it.
use Rattle.std.proofs.Common.{◌≡◌, Bool, true, false, Option, Some, None, Result, Ok, Err, ap, refl}
use Rattle.std.specs.Prelude.{if◌then◌else◌, ok_or}
use Rattle.cfi_perf.specs.declared.error.PerfError.{PerfError}
use Rattle.cfi_perf.specs.Results.{and_then, or_error}

pub ok_then : {A B : Type 0} (x : A) (r : Result A PerfError) (next : A → Result B PerfError) → Ok x ≡ r → next x ≡ and_then r next
ok_then x r next is = ap (λ r. and_then r next) is

pub chosen : {A : Type 0} (b : Bool) (x y : A) → b ≡ true → x ≡ (if b then x else y)
chosen b x y is = rw is refl

-- ---- where the whole gives a value

-- What a result was, and what its value gave.
pub record Gave {A B : Type 0} (r : Result A PerfError) (next : A → Result B PerfError) (y : B) : Type 0 where
  pub value : A
  pub was : r ≡ Ok value
  pub gives : next value ≡ Ok y

pub gave : {A B : Type 0} (r : Result A PerfError) (next : A → Result B PerfError) (y : B) → and_then r next ≡ Ok y → Gave r next y
gave (Ok x) next y is = record { value = x; was = refl; gives = is }
gave (Err e) next y is = absurd (cc)

pub not_refused : {A : Type 0} (b : Bool) (e : PerfError) (r : Result A PerfError) (y : A) → (if b then Err e else r) ≡ Ok y → (b ≡ false) × (r ≡ Ok y)
not_refused true e r y is = absurd (cc)
not_refused false e r y is = (refl, is)

pub not_missing : {A : Type 0} (e : PerfError) (o : Option A) (y : A) → ok_or o e ≡ Ok y → o ≡ Some y
not_missing e (Some x) y is = cc
not_missing e None y is = absurd (cc)

pub not_error : {A E : Type 0} (e : PerfError) (r : Result A E) (y : A) → or_error e r ≡ Ok y → r ≡ Ok y
not_error e (Ok x) y is = cc
not_error e (Err other) y is = absurd (cc)
