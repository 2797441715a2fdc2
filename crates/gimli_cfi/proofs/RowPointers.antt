-- The ways in which the pointers in rows are read are those of the encoding.
use Rattle.std.proofs.Common.{◌≡◌, ℕ, Option, Some, None, false, refl, inl, inr, ne_eqb}
use Rattle.cfi_read_core.specs.ReadFunctions.{Read, give}
use Rattle.std.specs.Int.{w32}
use Rattle.cfi_read_core.specs.Numbers.{signed}
use Rattle.cfi_read_core.specs.PointerEncodings.{application_of, format_of, is_indirect, is_omitted}
use Rattle.cfi_parts.specs.Pointers.{PointerContext, base_of, encoded_value, in_64_bits, pointer}
use Rattle.gimli_cfi.specs.RowReadings.{HasBase, ReadsPointers, added_to}

-- the value is read by the format alone
pub signed_4 : (encoding size : ℕ) → format_of encoding ≡ 0x0b → encoded_value encoding size ≡ in_64_bits (signed w32)
unfolding encoded_value
signed_4 encoding size is = rw is refl

module _ (encoding base : ℕ) (context : PointerContext) where
  base_given : HasBase encoding context.bases base → base_of encoding context ≡ give base
  unfolding base_of
  base_given (inl plain) = rw (plain.0, plain.1) refl
  base_given (inr relative) = rw (relative.0, relative.1) refl

  -- an omitted pointer has another application
  not_omitted : HasBase encoding context.bases base → is_omitted encoding ≡ false
  not_omitted (inl plain) = ne_eqb encoding 0xff (λ is. let no = rw is at plain.0 in absurd (cc))
  not_omitted (inr relative) = ne_eqb encoding 0xff (λ is. let no = rw is at relative.0 in absurd (cc))

  pub plain : (read : Read ℕ) → encoded_value encoding 8 ≡ read → is_indirect encoding ≡ false → context.size ≡ 8 → HasBase encoding context.bases base →
      added_to base read ≡ pointer encoding context
  unfolding pointer
  plain read same is_direct sized given = rw (not_omitted given, base_given given, is_direct, sized, same) refl

-- four bytes with a sign, direct, in addresses of eight bytes
module _ (encoding : ℕ) (context : PointerContext) (is_format : format_of encoding ≡ 0x0b) (is_direct : is_indirect encoding ≡ false) (sized : context.size ≡ 8) where
  pub by_base : (base : ℕ) → HasBase encoding context.bases base → ReadsPointers (Some base) encoding context
  by_base base given = plain encoding base context _ (signed_4 encoding 8 is_format) is_direct sized given

  pub by_data_base : application_of encoding ≡ 3 → (given : Option ℕ) → context.bases.data_base ≡ given → ReadsPointers given encoding context
  by_data_base relative None is = refl
  by_data_base relative (Some base) is = by_base base (inr (relative, is))
