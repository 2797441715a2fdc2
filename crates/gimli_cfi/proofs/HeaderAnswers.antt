-- The FDE that a header gives for an address, by how far it was read.
use Rattle.std.proofs.Common.{◌≡◌, ℕ, Option, Some, None, Result, Ok, Err, refl, sym, subst}
use Rattle.std.specs.Prelude.{ok_or}
use Rattle.cfi_read_core.specs.declared.error.Error.{Error}
use Rattle.cfi_read_core.specs.declared.error.Error.TheVariants.{UnsupportedPointerEncoding}
use Rattle.cfi_parts.specs.declared.pointer.Pointer.{Pointer}
use Rattle.cfi_entry.specs.Sections.{Section}
use Rattle.cfi_entry.specs.Fdes.{Fde}
use Rattle.cfi_unwind.specs.Scan.{chosen_fde}
use Rattle.gimli_cfi.specs.EhFrameHdr.{HeaderSection, Header, Table, header_of, start_of, value_size}
use Rattle.gimli_cfi.specs.TableLookup.{IsFoundByTable, fde_by_row}
use Rattle.gimli_cfi.specs.RowsByHeader.{FoundByHeader, FoundByTable}

module _ (section : Section) (a : ℕ) (header : HeaderSection) where
  abbrev Found : Result Fde Error → Type 0
  Found found = FoundByHeader section a header (header_of header) found

  pub refused_header : (e : Error) → Err e ≡ header_of header → Found (Err e)
  refused_header e is = subst (λ read. FoundByHeader section a header read (Err e)) is refl

  found_in : (h : Header) (t : Option Table) (found : Result Fde Error) → Ok h ≡ header_of header
      → t ≡ h.table → FoundByTable section a header h.eh_frame t found → Found found
  found_in h t found is rows finds =
      subst (λ read. FoundByHeader section a header read found) is
      (subst (λ o. FoundByTable section a header h.eh_frame o found) rows finds)

  pub by_scan : (h : Header) (found : Result Fde Error) → Ok h ≡ header_of header → None ≡ h.table
      → found ≡ chosen_fde section a → Found found
  by_scan h found is rows scans = found_in h None found is rows scans

  pub by_table : (source : HeaderSection) (h : Header) (t : Table) (start : ℕ → Result ℕ Error) (eh_frame : Pointer) (found : Result Fde Error)
      → Ok h ≡ header_of header → Some t ≡ h.table → start ≡ start_of source t → source ≡ header → eh_frame ≡ h.eh_frame
      → IsFoundByTable start source t eh_frame section a found → Found found
  by_table source h t start eh_frame found is rows starts same points finds =
      let so : IsFoundByTable (start_of header t) header t h.eh_frame section a found =
      subst (λ s. IsFoundByTable (start_of s t) s t h.eh_frame section a found) same
      (subst (λ p. IsFoundByTable (start_of source t) source t p section a found) points
      (subst (λ s. IsFoundByTable s source t eh_frame section a found) starts finds)) in
      found_in h (Some t) found is rows so
