-- Going through the rows of a table, a step at a time; it takes as many steps as there are rows.
use Rattle.std.proofs.Common.{◌≡◌, ◌+◌, ℕ, zero, suc, [], ◌∷◌, length, Result, refl, sym, ap, ◌∙◌, arith}
use Rattle.cfi_read_core.specs.declared.error.Error.{Error}
use Rattle.cfi_read_core.specs.ReadFunctions.{Source, Position, Outcome}
use Rattle.cfi_parts.specs.declared.pointer.Pointer.{Pointer}
use Rattle.gimli_cfi.specs.EhFrameHdr.{HeaderSection, row}
use Rattle.gimli_cfi.specs.HeaderRows.{Walk, rows_from, rows_left}

pub as_many : (section : HeaderSection) (encoding n : ℕ) (source : Source) (place : ℕ) → length (rows_from section encoding n source place) ≡ n
unfolding rows_from
as_many section encoding zero source place = refl
as_many section encoding (suc n) source place = ap suc (as_many section encoding n source (row section encoding source place).place)

abbrev walk_at : HeaderSection → ℕ → ℕ → Position → Walk
walk_at section encoding n s = record { section = section; encoding = encoding; count = n; position = s }

-- where none remains
pub none_left : (section : HeaderSection) (encoding n : ℕ) (s : Position) → n ≡ 0 → rows_left (walk_at section encoding n s) ≡ []
unfolding rows_from
none_left section encoding n s e = ap (λ (m : ℕ). rows_from section encoding m s.source s.place) e

-- the first of those that remain, given or refused
module _ (section : HeaderSection) (encoding : ℕ) (old new : Position) (v : Result (Pointer × Pointer) Error) (read : row section encoding old.source old.place ≡ record { value = v; place = new.place }) where
  behind_suc : (m : ℕ) → new.source ≡ old.source → rows_from section encoding (suc m) old.source old.place ≡ v ∷ rows_from section encoding m new.source new.place
  unfolding rows_from
  behind_suc m same =
      ap (λ (o : Outcome (Pointer × Pointer)). o.value ∷ rows_from section encoding m old.source o.place) read
      ∙ ap (λ (s : Source). v ∷ rows_from section encoding m s new.place) (sym same)

  pub first_left : (n m : ℕ) → n ≡ m + 1 → new.source ≡ old.source → rows_left (walk_at section encoding n old) ≡ v ∷ rows_left (walk_at section encoding m new)
  first_left n m e same =
      let e' : n ≡ suc m = omega arith in
      ap (λ (k : ℕ). rows_from section encoding k old.source old.place) e' ∙ behind_suc m same
