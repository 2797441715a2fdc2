-- What the table finds, by reading the FDE that a target names.
use Rattle.std.proofs.Common.{◌≡◌, ℕ, true, false, Option, Some, None, Result, Ok, Err, refl, sym, ap, ◌∙◌, subst, inl, inr, ⊎_elim}
use Rattle.cfi_read_core.specs.declared.error.Error.{Error}
use Rattle.cfi_read_core.specs.declared.error.Error.TheVariants.{NoUnwindInfoForAddress}
use Rattle.cfi_parts.specs.declared.pointer.Pointer.{Pointer}
use Rattle.cfi_entry.specs.Sections.{Section}
use Rattle.cfi_entry.specs.Cies.{Cie}
use Rattle.cfi_entry.specs.Fdes.{PartialFde, Fde, covers}
use Rattle.cfi_entry.specs.Entries.{cie_at, fde_with, fde_by, partial_fde_at}
use Rattle.cfi_unwind.specs.GetCieCalls.{ReadsWith}
use Rattle.gimli_cfi.specs.EhFrameHdr.{HeaderSection, Table, value_size, target_of}
use Rattle.gimli_cfi.specs.TableLookup.{SearchedBy, IsFoundBySearch, IsFoundByTable, ReadsAt, fde_if_covers, fde_at_pointer, fde_by_target, fde_by_row}

-- ---- one FDE

-- by the test
pub covering_ok : (a : ℕ) (fde : Fde) → covers fde a ≡ true → fde_if_covers a (Ok fde) ≡ Ok fde
covering_ok a fde is = rw is refl

pub covering_not : (a : ℕ) (fde : Fde) → covers fde a ≡ false → fde_if_covers a (Ok fde) ≡ Err NoUnwindInfoForAddress
covering_not a fde is = rw is refl

module _ {F : Type 0} (gives : F → ℕ → Result Cie Error → F → Type 0) (section : Section) (a : ℕ) where
  pub at_refused : (r : Result ℕ Error) (e : Error) (f : F) (found : Result Fde Error) → r ≡ Err e → found ≡ Err e → ReadsAt gives section a r f found f
  at_refused (Err e') e f found is refused = let same : found ≡ Err e' = cc in (same, refl)
  at_refused (Ok offset) e f found is refused = absurd (cc)

  pub at_read : (r : Result ℕ Error) (offset : ℕ) (f last : F) (read found : Result Fde Error) → r ≡ Ok offset →
      ReadsWith gives section (partial_fde_at section offset) f read last → found ≡ fde_if_covers a read → ReadsAt gives section a r f found last
  at_read (Err e) offset f last read found is reads same = absurd (cc)
  at_read (Ok offset') offset f last read found is reads same =
      let here : offset ≡ offset' = cc in (read, subst (λ (n : ℕ). ReadsWith gives section (partial_fde_at section n) f read last) here reads, same)

-- with the CIEs to which the FDEs point
module _ {F : Type 0} (gives : F → ℕ → Result Cie Error → F → Type 0) (section : Section) (own : (f : F) (offset : ℕ) (given : Result Cie Error) (g : F) → gives f offset given g → given ≡ cie_at section offset) where
  reads_own : (partial : Result PartialFde Error) (f last : F) (read : Result Fde Error) → ReadsWith gives section partial f read last → read ≡ fde_by section partial
  reads_own (Err e) f last read reads = reads.0
  reads_own (Ok partial) f last read reads = reads.2 ∙ ap (fde_with section partial) (own f partial.cie_offset reads.0 last reads.1)

  pub at_own : (a : ℕ) (r : Result ℕ Error) (f last : F) (found : Result Fde Error) → ReadsAt gives section a r f found last → found ≡ fde_if_covers a (fde_at_pointer section r)
  at_own a (Err e) f last found reads = reads.0
  at_own a (Ok offset) f last found reads = reads.2 ∙ ap (fde_if_covers a) (reads_own (partial_fde_at section offset) f last reads.0 reads.1)

-- ---- by a search

-- what a row gives through its target
pub searched_through : {A B : Type 0} (size : Option ℕ) (start : ℕ → Result ℕ Error) (table : Table) (a : ℕ) (of_row : ℕ → Result A Error) (to_row : ℕ → Result B Error)
    (through : Result A Error → Result B Error) (target : Result A Error) → ((e : Error) → through (Err e) ≡ Err e) → ((k : ℕ) → through (of_row k) ≡ to_row k) →
    SearchedBy size start table a of_row target → SearchedBy size start table a to_row (through target)
searched_through None start table a of_row to_row through target passes same searched = ap through searched ∙ passes _
searched_through (Some size) start table a of_row to_row through target passes same searched =
    ⊎_elim
    (λ refused. inl (refused.0, refused.1, ap through refused.2 ∙ passes refused.0))
    (λ row. inr (row.0, row.1, ap through row.2 ∙ same row.0))
    searched

pub found_through : (start : ℕ → Result ℕ Error) (header : HeaderSection) (table : Table) (eh_frame : Pointer) (section : Section) (a : ℕ) (target : Result Pointer Error) (found : Result Fde Error) →
    found ≡ fde_by_target header section eh_frame a target → IsFoundBySearch start table a (target_of header table) target → IsFoundByTable start header table eh_frame section a found
found_through start header table eh_frame section a target found same searched =
    subst (λ (r : Result Fde Error). IsFoundByTable start header table eh_frame section a r) (sym same)
    (searched_through (value_size table.encoding) start table a (target_of header table) (fde_by_row header table eh_frame section a) (fde_by_target header section eh_frame a) target (λ e. refl) (λ k. refl) searched)
