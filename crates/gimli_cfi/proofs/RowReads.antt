-- A row's start and target, as reads from the place of the first row.
use Rattle.std.proofs.Common.{◌≡◌, ◌<◌, ◌+◌, ◌*◌, ℕ, Option, Some, None, Result, Ok, Err, refl, sym, ap, subst, ◌∙◌, arith}
use borrow.Author.Tests.{lt-leb}
use Rattle.cfi_read_core.specs.declared.error.Error.{Error}
use Rattle.cfi_read_core.specs.declared.error.Error.TheVariants.{UnsupportedOffset, UnsupportedPointerEncoding}
use Rattle.cfi_read_core.specs.ReadFunctions.{Source, Position, Outcome, Read, carry_on, of_result}
use Rattle.cfi_read_core.specs.ReaderCalls.{map_ok}
use Rattle.cfi_parts.specs.declared.pointer.Pointer.{Pointer}
use Rattle.cfi_parts.specs.Pointers.{direct}
use Rattle.gimli_cfi.specs.EhFrameHdr.{HeaderSection, Table, searched_size, value_size, start_field, target_field, field_by, rows_passed, start_of, target_of}

-- the rows' own source
abbrev rows_source : HeaderSection → Table → Source
rows_source section table = record section.source { last = table.rows.last }

-- passing more bytes than any offset counts
pub not_passed : (size k : ℕ) (source : Source) (place : ℕ) → source.greatest < k * (2 * size) → rows_passed size k source place ≡ record { value = Err UnsupportedOffset; place = place }
not_passed size k source place above =
    let beyond : source.greatest < k * (size + size) = subst (λ (n : ℕ). source.greatest < k * n) (omega arith) above in
    rw (lt-leb _ _ beyond) refl

module _ (section : HeaderSection) (table : Table) (size k : ℕ) (searchable : value_size table.encoding ≡ Some size) (s : Position) (same : s.source ≡ rows_source section table) (first : s.place ≡ table.rows.first) where
  -- a field of row k, read where the reader stands
  read_there : (field : ℕ → ℕ → Read Pointer) (o : Outcome Pointer) → field size k s.source s.place ≡ o →
      field_by field table.encoding (value_size table.encoding) k (rows_source section table) table.rows.first ≡ o
  read_there field o read =
      ap (λ (v : Option ℕ). field_by field table.encoding v k (rows_source section table) table.rows.first) searchable
      ∙ (ap (λ (t : Source). field size k t table.rows.first) (sym same) ∙ (ap (λ (n : ℕ). field size k s.source n) (sym first) ∙ read))

  start_by : (o : Outcome Pointer) → start_field section table size k s.source s.place ≡ o → start_of section table k ≡ (carry_on (λ p. of_result (direct p)) (rows_source section table) o.value o.place).value
  unfolding start_of
  start_by o read = ap (λ (found : Outcome Pointer). (carry_on (λ p. of_result (direct p)) (rows_source section table) found.value found.place).value) (read_there (start_field section table) o read)

  pub start_refused : (e : Error) (place : ℕ) → start_field section table size k s.source s.place ≡ record { value = Err e; place = place } → start_of section table k ≡ Err e
  start_refused e place read = start_by (record { value = Err e; place = place }) read

  pub start_given : (p : Pointer) (place : ℕ) → start_field section table size k s.source s.place ≡ record { value = Ok p; place = place } → start_of section table k ≡ direct p
  start_given p place read = start_by (record { value = Ok p; place = place }) read

  pub target_given : (r : Result Pointer Error) (place : ℕ) → target_field section table size k s.source s.place ≡ record { value = r; place = place } → target_of section table k ≡ r
  unfolding target_of
  target_given r place read = ap (λ (found : Outcome Pointer). found.value) (read_there (target_field section table) (record { value = r; place = place }) read)

pub with_itself : {A E : Type 0} (r : Result A E) → map_ok (λ x. x) r ≡ r
with_itself (Ok x) = refl
with_itself (Err e) = refl

-- a format that can't be searched
pub not_searched : (encoding : ℕ) → value_size encoding ≡ None → Err (UnsupportedPointerEncoding (record { 0 = encoding })) ≡ searched_size encoding
not_searched encoding none = rw none refl
