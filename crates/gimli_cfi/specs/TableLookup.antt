-- What a header's table gives for an address: the FDE that its rows name, or an error.
use Rattle.std.specs.Prelude.{◌≡◌, ◌⊎◌, ◌≤◌, ◌-◌, ℕ, Option, Some, None, Result, Ok, Err}
use Rattle.std.specs.Prelude.{if◌then◌else◌}
use Rattle.cfi_read_core.specs.declared.error.Error.{Error}
use Rattle.cfi_read_core.specs.declared.error.Error.TheVariants.{NoUnwindInfoForAddress}
use Rattle.cfi_read_core.specs.declared.error.Error.TheVariants.{UnsupportedPointerEncoding}
use Rattle.cfi_parts.specs.declared.pointer.Pointer.{Pointer}
use Rattle.cfi_entry.specs.Sections.{Section}
use Rattle.cfi_entry.specs.Cies.{Cie}
use Rattle.cfi_entry.specs.Fdes.{Fde, covers}
use Rattle.cfi_entry.specs.Entries.{fde_at, partial_fde_at}
use Rattle.cfi_unwind.specs.GetCieCalls.{ReadsWith}
use Rattle.gimli_cfi.specs.BoundaryRows.{IsBoundaryRow, IsRefusalOfRow}
use Rattle.gimli_cfi.specs.EhFrameHdr.{HeaderSection, Table, value_size, start_of, target_of}
use Rattle.gimli_cfi.specs.EhFrameHdr.{offset_of_pointer}

-- the FDE that a target names
abbrev pub fde_at_pointer : Section → Result ℕ Error → Result Fde Error
fde_at_pointer section (Ok offset) = fde_at section offset
fde_at_pointer section (Err e) = Err e

abbrev pub fde_if_covers : ℕ → Result Fde Error → Result Fde Error
fde_if_covers a (Err e) = Err e
fde_if_covers a (Ok fde) = if covers fde a then Ok fde else Err NoUnwindInfoForAddress

-- the FDE for an address, by row k
abbrev pub fde_by_target :
    HeaderSection → Section → Pointer → ℕ → Result Pointer Error → Result Fde Error
fde_by_target header section eh_frame a (Err e) = Err e
fde_by_target header section eh_frame a (Ok target) =
    fde_if_covers a
    (fde_at_pointer section (offset_of_pointer header.source.greatest eh_frame target))

abbrev pub fde_by_row : HeaderSection → Table → Pointer → Section → ℕ → ℕ → Result Fde Error
fde_by_row header table eh_frame section a k =
    fde_by_target header section eh_frame a (target_of header table k)

-- What a search in the rows gives for an address, of_row being what a row gives: the error for a
-- format that can't be searched, the error of the start of any row of the table, or what a boundary
-- row gives. LSB's table is sorted; here nothing of its order is assumed, so it may have several
-- boundary rows, and any of these answers may come. Of a sorted table there is one.
abbrev pub SearchedBy :
    {A : Type 0} → Option ℕ → (ℕ → Result ℕ Error) → Table → ℕ → (ℕ → Result A Error) →
    Result A Error → Type 0
SearchedBy None start table a of_row found =
    found ≡ Err (UnsupportedPointerEncoding (record { 0 = table.encoding }))
SearchedBy (Some size) start table a of_row found =
    ((e : Error) × IsRefusalOfRow start table.count e × (found ≡ Err e))
    ⊎ ((k : ℕ) × IsBoundaryRow start table.count a k × (found ≡ of_row k))

abbrev pub IsFoundBySearch :
    {A : Type 0} → (ℕ → Result ℕ Error) → Table → ℕ → (ℕ → Result A Error) → Result A Error → Type 0
IsFoundBySearch start table a of_row found =
    SearchedBy (value_size table.encoding) start table a of_row found

-- the FDE for an address, or the error in its place, by the starts that a source gives
abbrev pub IsFoundByTable :
    (ℕ → Result ℕ Error) → HeaderSection → Table → Pointer → Section → ℕ → Result Fde Error → Type 0
IsFoundByTable start header table eh_frame section a found =
    IsFoundBySearch start table a (fde_by_row header table eh_frame section a) found

-- ---- with any `get_cie` closure

-- From the state f of the closure to the state g, the FDE at an offset, or the error in its place.
abbrev pub ReadsAt :
    {F : Type 0} → (F → ℕ → Result Cie Error → F → Type 0) → Section → ℕ → Result ℕ Error → F →
    Result Fde Error → F → Type 0
ReadsAt get_cie section a (Err e) f found g = (found ≡ Err e) × (g ≡ f)
ReadsAt get_cie section a (Ok offset) f found g =
    (read : Result Fde Error) × ReadsWith get_cie section (partial_fde_at section offset) f read g
    × (found ≡ fde_if_covers a read)

-- The same of the FDE that a target names.
abbrev pub ReadsTarget :
    {F : Type 0} → (F → ℕ → Result Cie Error → F → Type 0) → HeaderSection → Pointer → Section → ℕ →
    Result Pointer Error → F → Result Fde Error → F → Type 0
ReadsTarget get_cie header eh_frame section a (Err e) f found g = (found ≡ Err e) × (g ≡ f)
ReadsTarget get_cie header eh_frame section a (Ok target) f found g =
    ReadsAt get_cie section a (offset_of_pointer header.source.greatest eh_frame target) f found g

-- The same of the FDE that the table names for an address.
pub record FindsByTable {F : Type 0} (get_cie : F → ℕ → Result Cie Error → F → Type 0)
    (header : HeaderSection) (table : Table) (eh_frame : Pointer) (section : Section) (a : ℕ)
    (f : F) (found : Result Fde Error) (g : F) : Type 0 where
  pub target : Result Pointer Error
  pub searched : IsFoundBySearch (start_of header table) table a (target_of header table) target
  pub read : ReadsTarget get_cie header eh_frame section a target f found g

-- the header's offsets reach to the end of the section
abbrev pub ReachesAll : HeaderSection → Section → Type 0
ReachesAll header section = section.source.last - section.first ≤ header.source.greatest
