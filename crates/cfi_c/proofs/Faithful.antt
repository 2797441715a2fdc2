-- The row by a faithful table is that of going through the section.
use Rattle.std.proofs.Common.{◌≡◌, ◌≤◌, ℕ, Bool, true, List, length, Some, Result, refl, ap, subst, ◌∙◌, arith}
use Rattle.cfi_read_core.specs.declared.error.Error.{Error}
use Rattle.cfi_read_core.specs.Addresses.{IsAddressSize}
use Rattle.cfi_parts.specs.declared.pointer.Pointer.TheVariants.{Direct}
use Rattle.cfi_entry.specs.Fdes.{Fde}
use Rattle.cfi_unwind.specs.Scan.{answer_by, chosen_fde}
use Rattle.cfi_unwind.specs.AddressRow.{row_by_scan, row_of_fde}
use Rattle.gimli_cfi.specs.EhFrameHdr as headers
use Rattle.gimli_cfi.specs.RowsByHeader.{FoundByHeader, FoundByTable}
use Rattle.gimli_cfi.proofs.Agreement.{found_as_scan}
use Rattle.cfi_c.specs.declared.section.CfiBases.{CfiBases}
use Rattle.cfi_c.specs.declared.written.CfiRow.{CfiRow}
use Rattle.cfi_c.specs.declared.written.CfiRule.{CfiRule}
use Rattle.cfi_c.specs.PassedSections.{eh_frame_of, passed_header}
use Rattle.cfi_c.specs.AddressRows.{IsAnsweredForC, IsAnswerForC, IsFaithfulHeader, IsScannedForC, IsTableAnswer}

found_scanned : (bases : CfiBases) (bytes header : List ℕ) (a : ℕ) (found : Result Fde Error) → length bytes ≤ 0xffffffffffffffff
    → IsFaithfulHeader bases bytes header → FoundByHeader (eh_frame_of bases bytes) a (passed_header bases header) (headers.header_of (passed_header bases header)) found
    → found ≡ chosen_fde (eh_frame_of bases bytes) a
found_scanned bases bytes header a found fits faithful finds =
    let section = eh_frame_of bases bytes in let head = passed_header bases header in let table = faithful.1 in
    let read : FoundByTable section a head faithful.0.eh_frame faithful.0.table found = subst (λ r. FoundByHeader section a head r found) faithful.3 finds in
    let rowed : FoundByTable section a head faithful.0.eh_frame (Some table) found = subst (λ t. FoundByTable section a head faithful.0.eh_frame t found) faithful.4 read in
    let direct : FoundByTable section a head (Direct faithful.2) (Some table) found = subst (λ p. FoundByTable section a head p (Some table) found) faithful.5 rowed in
    found_as_scan head table faithful.2 section faithful.6 a (headers.start_of head table) found (omega (arith, fits)) (λ k h. refl) direct

pub scanned : (live : Bool) (bases : CfiBases) (bytes header : List ℕ) (a : ℕ) (out : CfiRow) (rules : List CfiRule) (first count : ℕ) → length bytes ≤ 0xffffffffffffffff
    → live ≡ true → IsAddressSize bases.address_size → IsFaithfulHeader bases bytes header
    → IsAnswerForC live bases bytes (Some header) a out rules first count → IsScannedForC bases bytes a out rules first count
scanned live bases bytes header a out rules first count fits is_live sized faithful is =
    let so : IsAnswerForC true bases bytes (Some header) a out rules first count = subst (λ l. IsAnswerForC l bases bytes (Some header) a out rules first count) is_live is in
    let by_table : IsTableAnswer (eh_frame_of bases bytes) (passed_header bases header) a so.0 = so.1.1 sized in
    let same : so.0 ≡ row_by_scan (Some 192) (Some 4) (eh_frame_of bases bytes) a =
    by_table.2 ∙ ap (answer_by (row_of_fde (Some 192) (Some 4) (eh_frame_of bases bytes) a)) (found_scanned bases bytes header a by_table.0 fits faithful by_table.1) in
    subst (λ r. IsAnsweredForC r out rules first count) same so.2
