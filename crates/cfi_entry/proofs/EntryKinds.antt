-- What an entry is by its id, and what stands at an offset, over plain values.
use Rattle.std.proofs.Common.{◌≡◌, ℕ, Bool, true, false, Option, Some, None, Result, Ok, Err, refl, sym, ◌∙◌}
use Rattle.std.specs.Prelude.{◌==◌, ok_or, if◌then◌else◌}
use Rattle.cfi_read_core.specs.declared.error.Error.{Error}
use Rattle.cfi_read_core.specs.declared.error.Error.TheVariants.{NotCieId, NotCiePointer}
use Rattle.cfi_read_core.specs.ReaderCalls.{map_ok}
use Rattle.cfi_read_core.specs.CallFrameSections.{SectionKind}
use Rattle.cfi_entry.specs.Sections.{Section, cie_id}
use Rattle.cfi_entry.specs.Prefixes.{Prefix}
use Rattle.cfi_entry.specs.Cies.{Cie, cie_of}
use Rattle.cfi_entry.specs.Fdes.{PartialFde}
use Rattle.cfi_entry.specs.Entries.{CieEntry, FdeEntry, is_cie, entry_of, prefix_at, cie_at, partial_fde_of, partial_fde_at}

-- a number that a test gives, and the refusal where it gives none
pub found_or : (b : Bool) (n : ℕ) (e : Error) {o : Option ℕ} → o ≡ (if b then Some n else None) → ok_or o e ≡ (if b then Ok n else Err e)
found_or true n e is = rw is refl
found_or false n e is = rw is refl

module _ (section : Section) (found : Prefix) where
  -- the id's test by the kind of the section's type
  pub by_kind : {kind : SectionKind} {b test : Bool} → section.kind ≡ kind → test ≡ (found.id == cie_id kind found.format) → test ≡ b → is_cie section found ≡ b
  by_kind same tested is = rw same (sym tested ∙ is)

  pub cie_entry : (cie : Result Cie Error) → is_cie section found ≡ true → cie ≡ cie_of section found → map_ok CieEntry cie ≡ entry_of section found
  unfolding entry_of
  cie_entry cie is same = rw (is, same) refl

  pub fde_entry : (fde : Result PartialFde Error) → is_cie section found ≡ false → fde ≡ partial_fde_of section found → map_ok FdeEntry fde ≡ entry_of section found
  unfolding entry_of
  fde_entry fde is same = rw (is, same) refl

  pub cie_found : (offset : ℕ) {cie : Result Cie Error} → Ok found ≡ prefix_at section offset → is_cie section found ≡ true → cie ≡ cie_of section found → cie ≡ cie_at section offset
  unfolding cie_at
  cie_found offset there is same = rw (sym there, is) same

  pub no_cie_found : (offset : ℕ) → Ok found ≡ prefix_at section offset → is_cie section found ≡ false → Err (NotCieId offset) ≡ cie_at section offset
  unfolding cie_at
  no_cie_found offset there is = rw (sym there, is) refl

  pub fde_found : (offset : ℕ) {fde : Result PartialFde Error} → Ok found ≡ prefix_at section offset → is_cie section found ≡ false → fde ≡ partial_fde_of section found → fde ≡ partial_fde_at section offset
  unfolding partial_fde_at
  fde_found offset there is same = rw (sym there, is) same

  pub no_fde_found : (offset : ℕ) → Ok found ≡ prefix_at section offset → is_cie section found ≡ true → Err (NotCiePointer offset) ≡ partial_fde_at section offset
  unfolding partial_fde_at
  no_fde_found offset there is = rw (sym there, is) refl
