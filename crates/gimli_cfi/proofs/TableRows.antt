-- The row of an address, by what was found: going through the section, and by a faithful table.
use Rattle.std.proofs.Common.{◌≡◌, ◌≤◌, ◌<◌, ◌-◌, ℕ, Bool, Option, Result, subst, arith}
use Rattle.cfi_read_core.specs.declared.error.Error.{Error}
use Rattle.cfi_read_core.specs.ReaderCalls.{IsSound}
use Rattle.cfi_read_core.specs.ReadFunctions.{Position}
use Rattle.cfi_parts.specs.declared.pointer.Pointer.{Pointer}
use Rattle.cfi_parts.specs.declared.pointer.Pointer.TheVariants.{Direct}
use Rattle.cfi_state.specs.Row.{Row}
use Rattle.cfi_entry.specs.Sections.{Section}
use Rattle.cfi_entry.specs.Fdes.{Fde}
use Rattle.cfi_unwind.specs.Scan.{chosen_fde}
use Rattle.gimli_cfi.specs.EhFrameHdr.{HeaderSection, Table, start_of}
use Rattle.gimli_cfi.specs.FaithfulTables.{IsFaithful}
use Rattle.gimli_cfi.specs.TableLookup.{IsFoundByTable, ReachesAll}
use Rattle.cfi_unwind.specs.AddressRow.{IsRowOfFound, IsRowByScan}
use Rattle.gimli_cfi.proofs.Agreement.{found_as_scan}

-- the offsets of a header count every byte of a section of the same offsets
pub reaches_all : (s header : Position) (greatest : ℕ) → IsSound s → s.source.greatest ≡ greatest → header.source.greatest ≡ greatest → s.source.last - s.place ≤ header.source.greatest
reaches_all s header greatest sound own others = omega (arith, sound.within, sound.fits, own, others)

module _ (rule_limit stack_limit : Option ℕ) (copies_free : Bool) (section : Section) (a : ℕ) (row : Result (Row ℕ) Error) where
  -- what is found by going through the section is the chosen FDE
  pub by_scan : (found : Result Fde Error) → found ≡ chosen_fde section a → IsRowOfFound rule_limit stack_limit copies_free section a found row →
      IsRowByScan rule_limit stack_limit copies_free section a row
  by_scan found is row_of_found = subst (λ (r : Result Fde Error). IsRowOfFound rule_limit stack_limit copies_free section a r row) is row_of_found

  pub as_by_scan : (header : HeaderSection) (table : Table) (pointer : Pointer) (eh_frame : ℕ) (source : ℕ → Result ℕ Error) (found : Result Fde Error) →
      pointer ≡ Direct eh_frame → IsFaithful header table eh_frame section → ReachesAll header section →
      ((k : ℕ) → k < table.count → source k ≡ start_of header table k) →
      IsFoundByTable source header table pointer section a found → IsRowOfFound rule_limit stack_limit copies_free section a found row →
      IsRowByScan rule_limit stack_limit copies_free section a row
  as_by_scan header table pointer eh_frame source found at faithful reaches same searched is =
      let searched' : IsFoundByTable source header table (Direct eh_frame) section a found =
      subst (λ (p : Pointer). IsFoundByTable source header table p section a found) at searched in
      let scanned : found ≡ chosen_fde section a = found_as_scan header table eh_frame section faithful a source found reaches same searched' in
      by_scan found scanned is
