-- What holds of every header table, and of the search in it by halving.
--     table_agrees_with_scan      a boundary row of a faithful table gives the FDE, or the refusal, that going through the section gives
--     no_start_is_refused      no row of a faithful table has a start that is refused
--     steps_enough      halving a table of `count` rows takes `steps count` steps at most: they reach every row
--     steps_least      and no smaller number does
use Rattle.std.proofs.Common.{◌≡◌, ◌≤◌, ◌<◌, ◌+◌, ◌^◌, ℕ, zero, suc, Bool, true, false, refl, arith}
use Rattle.std.proofs.Common.{inl, inr}
use Rattle.std.specs.Prelude.{nat_le}
use Rattle.std.proofs.lemmas.Bool.{cases_lt}
use borrow.Author.Tests.{leb-false}
use Rattle.cfi_read_core.specs.declared.error.Error.{Error}
use Rattle.cfi_parts.specs.declared.pointer.Pointer.TheVariants.{Direct}
use Rattle.cfi_entry.specs.Sections.{Section}
use Rattle.cfi_unwind.specs.Scan.{chosen_fde}
use Rattle.gimli_cfi.specs.BoundaryRows.{IsBoundaryRow, IsRefusalOfRow}
use Rattle.gimli_cfi.specs.EhFrameHdr.{HeaderSection, Table, start_of}
use Rattle.gimli_cfi.specs.HalvingSteps.{steps, least_exponent}
use Rattle.gimli_cfi.specs.FaithfulTables.{IsFaithful}
use Rattle.gimli_cfi.specs.TableLookup.{ReachesAll, fde_by_row}
use Rattle.gimli_cfi.proofs.Agreement.{agrees, refuses_no_start}
use Rattle.gimli_cfi.proofs.StepsLemmas.{steps_reach}

-- ---- a table that lists the FDEs of a section faithfully

module _ (header : HeaderSection) (table : Table) (eh_frame : ℕ) (section : Section) (faithful : IsFaithful header table eh_frame section) where
  pub table_agrees_with_scan : ReachesAll header section → (a k : ℕ) → IsBoundaryRow (start_of header table) table.count a k →
      fde_by_row header table (Direct eh_frame) section a k ≡ chosen_fde section a
  table_agrees_with_scan = agrees header table eh_frame section faithful

  pub no_start_is_refused : (e : Error) → IsRefusalOfRow (start_of header table) table.count e → ⊥
  no_start_is_refused = refuses_no_start header table eh_frame section faithful

-- ---- the steps of a search

pub steps_enough : (count : ℕ) → count ≤ 2 ^ steps count
steps_enough = steps_reach

least : (fuel b count c : ℕ) → b ≤ c → count ≤ 2 ^ c → least_exponent fuel b count ≤ c
unfolding least_exponent
least zero b count c le h = le
least (suc n) b count c le h =
    let found : (t : Bool) → nat_le count (2 ^ b) ≡ t → (elim t [ true ↦ b | false ↦ least_exponent n (b + 1) count ]) ≤ c =
    λ t. elim t as (λ t. nat_le count (2 ^ b) ≡ t → (elim t [ true ↦ b | false ↦ least_exponent n (b + 1) count ]) ≤ c) [
      | true ↦ λ _. le
      | false ↦ λ e. least n (b + 1) count c (above b c count le (leb-false count (2 ^ b) e) h) h
    ] in
    found (nat_le count (2 ^ b)) refl
  where
    above : (b c count : ℕ) → b ≤ c → 2 ^ b < count → count ≤ 2 ^ c → b + 1 ≤ c
    above b c count le below h =
        elim (cases_lt b c) [
          | inl less ↦ omega arith
          | inr more ↦ let same : b ≡ c = omega arith in let under : 2 ^ c < count = rw same at below in absurd (omega arith)
        ]

pub steps_least : (count b : ℕ) → count ≤ 2 ^ b → steps count ≤ b
steps_least count b h = least count 0 count b (omega arith) h
