-- The table of a header, by the count of its rows, and all its rows; and the offset that a pointer comes to.
use Rattle.std.proofs.Common.{◌≡◌, ◌≤◌, ◌-◌, ℕ, true, false, ne_eqb, Some, None, Result, Ok, Err, refl, ap, sym, ◌∙◌, arith}
use borrow.Author.Tests.{le-leb, lt-leb}
use Rattle.std.specs.Prelude.{nat_le, if◌then◌else◌}
use Rattle.cfi_read_core.specs.declared.error.Error.{Error}
use Rattle.cfi_read_core.specs.declared.error.Error.TheVariants.{OffsetOutOfBounds, UnsupportedOffset}
use Rattle.cfi_read_core.specs.ReadFunctions.{Position, Extent}
use Rattle.cfi_read_core.specs.ReaderCalls.{extent_of}
use Rattle.cfi_parts.specs.declared.pointer.Pointer.{Pointer}
use Rattle.cfi_parts.specs.Pointers.{direct}
use Rattle.gimli_cfi.specs.EhFrameHdr.{HeaderSection, table_of, both_direct, offset_of_pointer}
use Rattle.gimli_cfi.specs.HeaderRows.{Walk, walk_of}

pub no_rows : (encoding count : ℕ) (rows : Extent) → count ≡ 0 → table_of encoding count rows ≡ None
no_rows encoding count rows is = ap (λ n. table_of encoding n rows) is

pub some_rows : (encoding count : ℕ) (rows : Extent) → (count ≡ 0 → ⊥) → table_of encoding count rows ≡ Some (record { encoding = encoding; count = count; rows = rows })
some_rows encoding count rows some = rw (ne_eqb count 0 some) refl

pub all_rows : (section : HeaderSection) (encoding count : ℕ) (s : Position) → s.source ≡ record section.source { last = s.source.last } →
    ◌≡◌ {A = Walk} (record { section = section; encoding = encoding; count = count; position = s }) (walk_of section (record { encoding = encoding; count = count; rows = extent_of s }))
all_rows section encoding count s same = ap (λ source. record { section = section; encoding = encoding; count = count; position = record { source = source; place = s.place } }) same

-- ---- offsets above a base

module _ (greatest : ℕ) (eh_frame p : Pointer) where
  pub refused_base : (e : Error) → Err e ≡ direct eh_frame → Err e ≡ offset_of_pointer greatest eh_frame p
  refused_base e is = ap (λ r. both_direct greatest r (direct p)) is

  both : (base : ℕ) (r : Result ℕ Error) → Ok base ≡ direct eh_frame → r ≡ direct p → both_direct greatest (Ok base) r ≡ offset_of_pointer greatest eh_frame p
  both base r at_base at = ap (λ b. both_direct greatest b r) at_base ∙ ap (λ a. both_direct greatest (direct eh_frame) a) at

  pub refused_pointer : (base : ℕ) (e : Error) → Ok base ≡ direct eh_frame → Err e ≡ direct p → Err e ≡ offset_of_pointer greatest eh_frame p
  refused_pointer base e at_base at = both base (Err e) at_base at

  pub below_base : (base a : ℕ) → Ok base ≡ direct eh_frame → Ok a ≡ direct p → (base ≤ a → ⊥) → Err (OffsetOutOfBounds a) ≡ offset_of_pointer greatest eh_frame p
  below_base base a at_base at below =
      let above : nat_le base a ≡ false = lt-leb _ _ (omega (arith, below)) in
      sym (rw above refl) ∙ both base (Ok a) at_base at

  pub above_base : (base a distance : ℕ) (r : Result ℕ Error) → Ok base ≡ direct eh_frame → Ok a ≡ direct p → base ≤ a → distance ≡ a - base
      → r ≡ (if nat_le distance greatest then Ok distance else Err UnsupportedOffset) → r ≡ offset_of_pointer greatest eh_frame p
  above_base base a distance r at_base at above is fits =
      let up : nat_le base a ≡ true = le-leb _ _ above in
      fits ∙ (ap (λ (n : ℕ). if nat_le n greatest then Ok n else Err UnsupportedOffset) is ∙ (sym (rw up refl) ∙ both base (Ok a) at_base at))
