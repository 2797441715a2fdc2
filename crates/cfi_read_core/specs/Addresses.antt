-- Addresses of 1, 2, 4 or 8 bytes (DWARF 5 section 7.3).
use Rattle.std.specs.Prelude.{◌≡◌, ℕ, ◌+◌, ◌*◌, ◌^◌, ◌%◌, ◌⊎◌, Bool, true, false, ◌||◌, nat_lt}
use Rattle.std.specs.Prelude.{Option, Some, None, Result, Ok, Err, ◌==◌, if◌then◌else◌}
use Rattle.std.specs.Int.{Width, w8, w16, w32, w64}
use Rattle.std.proofs.Common.{inl, inr}
use Rattle.std.proofs.lemmas.Bool.{eqb-true}
use Rattle.cfi_read_core.specs.declared.error.Error.{Error}
use Rattle.cfi_read_core.specs.declared.error.Error.TheVariants.{UnsupportedAddressSize}
use Rattle.cfi_read_core.specs.declared.error.Error.TheVariants.{AddressOverflow}
use Rattle.cfi_read_core.specs.ReadFunctions.{Read, ◌>>=◌, give, refuse}
use Rattle.cfi_read_core.specs.Numbers.{unsigned}

-- the sum that wraps at the size
abbrev pub wrap : ℕ → ℕ → ℕ → ℕ
wrap a b size = (a + b) % 2 ^ (8 * size)

-- whether a number is an address of the size
abbrev pub fits : ℕ → ℕ → Bool
fits size n = nat_lt n (2 ^ (8 * size))

-- the sum, where it is an address of the size
abbrev pub checked_sum : ℕ → ℕ → ℕ → Result ℕ Error
checked_sum a b size = if fits size (a + b) then Ok (a + b) else Err AddressOverflow

-- the sizes, in bytes, that an address may have
abbrev pub IsAddressSize : ℕ → Type 0
IsAddressSize size = (size ≡ 1) ⊎ ((size ≡ 2) ⊎ ((size ≡ 4) ⊎ (size ≡ 8)))

-- the same as a test
abbrev pub is_sized : ℕ → Bool
is_sized size = (size == 1) || ((size == 2) || ((size == 4) || (size == 8)))

either : {A B : Type 0} (a b : Bool) → (a ≡ true → A) → (b ≡ true → B) → (a || b) ≡ true → A ⊎ B
either true b f g h = inl (f h)
either false b f g h = inr (g h)

pub sized_by : (size : ℕ) → is_sized size ≡ true → IsAddressSize size
sized_by size =
    either (size == 1) _ (eqb-true size 1)
    (either (size == 2) _ (eqb-true size 2)
    (either (size == 4) (size == 8) (eqb-true size 4) (eqb-true size 8)))

abbrev pub address_width : ℕ → Option Width
address_width size =
    if size == 1 then Some w8
    else if size == 2 then Some w16
    else if size == 4 then Some w32
    else if size == 8 then Some w64
    else None

abbrev pub of_width : Option Width → ℕ → Read ℕ
of_width (Some width) size = unsigned width
of_width None size = refuse (UnsupportedAddressSize size)

unfoldable pub address : ℕ → Read ℕ
address size = of_width (address_width size) size

abbrev pub is_address_size : Option Width → ℕ → Read ℕ
is_address_size (Some width) size = give size
is_address_size None size = refuse (UnsupportedAddressSize size)

-- a byte that is an address size
unfoldable pub address_size : Read ℕ
address_size = do
  size ← unsigned w8
  is_address_size (address_width size) size
