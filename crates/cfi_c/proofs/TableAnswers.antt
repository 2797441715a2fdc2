-- What C gets of a compiled table.
use Rattle.std.proofs.Common.{◌≡◌, ℕ, pos, List, length, Option, Some, Result, Err, refl, sym, subst, inl}
use Rattle.cfi_read_core.specs.Addresses.{IsAddressSize}
use Rattle.cfi_read_core.specs.ReaderCalls.{map_ok}
use Rattle.gimli_cfi.specs.Words.{Error, Parts}
use Rattle.cfi_compiled.specs.CompiledTables.{TableContents, parts_at}
use Rattle.cfi_c.specs.declared.section.CfiBases.{CfiBases}
use Rattle.cfi_c.specs.declared.written.CfiRow.{CfiRow}
use Rattle.cfi_c.specs.declared.written.CfiRule.{CfiRule}
use Rattle.cfi_c.specs.Refusals.{error_status}
use Rattle.cfi_read_core.specs.RefusalNames.{value_of}
use Rattle.cfi_c.specs.AddressRows.{IsAnsweredForC}
use Rattle.cfi_c.specs.TableRows.{IsTableMade, IsTableOf, IsTableRow, unplaced}

pub by_row : (table : Option TableContents) (t : TableContents) (a : ℕ) (found : Result (Parts ℕ) Error) (out : CfiRow) (rules : List CfiRule) →
    table ≡ Some t → found ≡ parts_at t a → IsAnsweredForC (map_ok unplaced found) out rules 0 (length rules) → IsTableRow table a out rules
by_row table t a found out rules there is answered =
    subst (λ (o : Option TableContents). IsTableRow o a out rules) (sym there)
    (subst (λ (f : Result (Parts ℕ) Error). IsAnsweredForC (map_ok unplaced f) out rules 0 (length rules)) is answered)

pub by_refusal : (found : Result (Parts ℕ) Error) (e : Error) (out : CfiRow) (rules : List CfiRule) (first count : ℕ) →
    found ≡ Err e → out.status ≡ error_status e → out.refused ≡ value_of e → IsAnsweredForC (map_ok unplaced found) out rules first count
by_refusal found e out rules first count is status refused =
    subst (λ (f : Result (Parts ℕ) Error). IsAnsweredForC (map_ok unplaced f) out rules first count) (sym is) (status, refused)

pub made : (bases : CfiBases) (bytes : List ℕ) (old new : Option TableContents) (t : TableContents) →
    IsAddressSize bases.address_size → new ≡ Some t → IsTableOf bases bytes t → IsTableMade bases bytes old (pos 0) new
made bases bytes old new t sized is compiled = ((λ another. absurd (another sized)), λ _. inl (t, refl, is, compiled))
