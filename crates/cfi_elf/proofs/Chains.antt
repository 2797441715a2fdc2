-- A value that was found, and what comes of it.
use Rattle.std.proofs.Common.{◌≡◌, Bool, true, Result, Ok, ap, refl}
use Rattle.std.specs.Prelude.{if◌then◌else◌}
use Rattle.cfi_elf.specs.declared.error.ElfError.{ElfError}
use Rattle.cfi_elf.specs.Results.{and_then}

pub ok_then : {A B : Type 0} (x : A) (r : Result A ElfError) (next : A → Result B ElfError) → Ok x ≡ r → next x ≡ and_then r next
ok_then x r next is = ap (λ r. and_then r next) is

pub chosen : {A : Type 0} (b : Bool) (x y : A) → b ≡ true → x ≡ (if b then x else y)
chosen b x y is = rw is refl
