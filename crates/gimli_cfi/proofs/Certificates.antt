-- What follows where a table is known to be faithful, but not by which proof.
use Rattle.std.proofs.Common.{◌≡◌, ◌<◌, ℕ, Bool, Option, Some, None, Result, Err, subst}
use Rattle.std.proofs.Math.Logic.{∥∥₁_elim}
use Rattle.std.specs.Prelude.{IsSome, ok_or}
use Rattle.std.specs.Coded.{Coded, Coded-set, codes}
use Rattle.cfi_read_core.specs.declared.error.Error.{Error}
use Rattle.cfi_read_core.specs.declared.error.Error.TheVariants.{UnsupportedPointerEncoding}
use Rattle.cfi_parts.specs.declared.pointer.Pointer.{Pointer}
use Rattle.cfi_parts.specs.declared.pointer.Pointer.TheVariants.{Direct}
use Rattle.cfi_state.specs.Row.{Row}
use Rattle.cfi_unwind.specs.AddressRow.{IsRowOfFound, IsRowByScan}
use Rattle.cfi_entry.specs.Fdes.{Fde}
use Rattle.cfi_unwind.specs.Scan.{chosen_fde}
use Rattle.gimli_cfi.specs.TableCheck.{Listing, ListsFaithfully}
use Rattle.gimli_cfi.specs.EhFrameHdr.{start_of, value_size}
use Rattle.gimli_cfi.specs.TableLookup.{IsFoundByTable, ReachesAll}
use Rattle.gimli_cfi.proofs.Agreement.{found_as_scan}
use Rattle.gimli_cfi.proofs.TableRows.{by_scan}

found_code : Coded (Result Fde Error)
found_code = Prim.hlevel codes

-- what the table finds is what going through the section finds
pub scanned : (l : Listing) → ∥ ListsFaithfully l ∥₁ → ReachesAll l.header l.section → (a : ℕ) (source : ℕ → Result ℕ Error) (found : Result Fde Error) →
    ((k : ℕ) → k < l.table.count → source k ≡ start_of l.header l.table k) → IsFoundByTable source l.header l.table l.eh_frame l.section a found → found ≡ chosen_fde l.section a
scanned l faithful reaches a source found same searched =
    ∥∥₁_elim faithful (Coded-set found_code found (chosen_fde l.section a))
    (λ is.
    let searched' : IsFoundByTable source l.header l.table (Direct is.0) l.section a found = subst (λ (p : Pointer). IsFoundByTable source l.header l.table p l.section a found) is.1 searched in
    found_as_scan l.header l.table is.0 l.section is.2 a source found reaches same searched')

pub row_by_scan : (rule_limit stack_limit : Option ℕ) (copies_free : Bool) (l : Listing) → ∥ ListsFaithfully l ∥₁ → ReachesAll l.header l.section → (a : ℕ) (source : ℕ → Result ℕ Error) (row : Result (Row ℕ) Error) →
    ((k : ℕ) → k < l.table.count → source k ≡ start_of l.header l.table k) →
    ((found : Result Fde Error) × IsFoundByTable source l.header l.table l.eh_frame l.section a found × IsRowOfFound rule_limit stack_limit copies_free l.section a found row) →
    IsRowByScan rule_limit stack_limit copies_free l.section a row
row_by_scan rule_limit stack_limit copies_free l faithful reaches a source row same found =
    by_scan rule_limit stack_limit copies_free l.section a row found.0 (scanned l faithful reaches a source found.0 same found.1) found.2

-- the format of a faithful table isn't refused
no_refusal : (size : Option ℕ) (refusal e : Error) → IsSome size → ok_or size refusal ≡ Err e → ⊥
no_refusal None refusal e some refused = absurd (cc)
no_refusal (Some n) refusal e some refused = absurd (cc)

none : IsProp ⊥
none x y = absurd x

pub never_unsearchable : {A : Type 0} (l : Listing) (e : Error) → ∥ ListsFaithfully l ∥₁ → ok_or (value_size l.table.encoding) (UnsupportedPointerEncoding (record { 0 = l.table.encoding })) ≡ Err e → A
never_unsearchable l e faithful refused = absurd (∥∥₁_elim faithful none (λ is. no_refusal (value_size l.table.encoding) _ e is.2.searchable refused))
