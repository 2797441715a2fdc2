-- The check of a table against its section: what it promises, and the reasons against a table.
use Rattle.std.specs.Prelude.{◌≡◌, ◌⊎◌, ◌≤◌, ◌<◌, ◌+◌, ◌*◌, ℕ, List, [], ◌∷◌, length, Option, Some}
use Rattle.std.specs.Prelude.{None, Result, Ok, Err, IsOkAnd, ok_or}
use Rattle.std.specs.List.{AllByRecursion, last_or}
use Rattle.cfi_read_core.specs.declared.error.Error.{Error}
use Rattle.cfi_read_core.specs.declared.error.Error.TheVariants.{UnsupportedPointerEncoding}
use Rattle.cfi_parts.specs.declared.pointer.Pointer.{Pointer}
use Rattle.cfi_parts.specs.declared.pointer.Pointer.TheVariants.{Direct}
use Rattle.cfi_parts.specs.Pointers.{direct}
use Rattle.cfi_entry.specs.Sections.{Section}
use Rattle.cfi_entry.specs.Fdes.{Fde, PartialFde, end_of}
use Rattle.cfi_entry.specs.Entries.{Entry, end_of_entry, entries}
use Rattle.cfi_unwind.specs.Scan.{fde_readings, partial_fdes, read_fde}
use Rattle.gimli_cfi.specs.declared.hdr.unfaithful.Unfaithful.{Unfaithful}
use Rattle.gimli_cfi.specs.declared.hdr.unfaithful.Unfaithful.TheVariants as reasons
use Rattle.gimli_cfi.specs.EhFrameHdr.{HeaderSection, Table, value_size, start_of, target_of}
use Rattle.gimli_cfi.specs.HalvingSteps.{steps}
use Rattle.gimli_cfi.specs.FaithfulTables.{IsFaithful, IsRowOf, IsFdeIn}

-- The table of a header, and the section whose FDEs it is to list.
pub record Listing : Type 0 where
  pub header : HeaderSection
  pub table : Table
  pub eh_frame : Pointer  -- the header's pointer to the section
  pub section : Section

abbrev pub ListsFaithfully : Listing → Type 0
ListsFaithfully l =
    (eh_frame : ℕ) × (l.eh_frame ≡ Direct eh_frame) × IsFaithful l.header l.table eh_frame l.section

-- ---- how many starts are read

-- a search, the row that it finds, and the next one
abbrev pub starts_for_fde : ℕ → ℕ
starts_for_fde count = steps count + 2

-- for each row one FDE, and one that has none
abbrev pub starts_for_fdes : ℕ → ℕ
starts_for_fdes count = (count + 1) * starts_for_fde count

-- each row in order, then each FDE
abbrev pub most_starts : ℕ → ℕ
most_starts count = count + starts_for_fdes count

-- ---- a table that lists the FDEs

-- the FDE has a row, and ends at or below the start of the next one
pub record HasRow (header : HeaderSection) (table : Table) (eh_frame : ℕ) (fde : Fde) : Type 0 where
  pub k : ℕ
  pub inside : k < table.count
  pub row : IsRowOf header table eh_frame k fde
  pub clear : k + 1 < table.count → IsOkAnd (start_of header table (k + 1)) (λ s. end_of fde ≤ s)

-- the same of an FDE that was read
abbrev pub IsListed : HeaderSection → Table → ℕ → Result Fde Error → Type 0
IsListed header table eh_frame (Ok fde) = HasRow header table eh_frame fde
IsListed header table eh_frame (Err e) = ⊥

-- Every entry of the section is read, each FDE has a row, and there are as many FDEs as rows.
pub record AreListed (header : HeaderSection) (table : Table) (eh_frame : ℕ) (section : Section)
    : Type 0 where
  pub entries_end : (entries section).refusal ≡ None
  pub listed : AllByRecursion (IsListed header table eh_frame) (fde_readings section)
  pub many : length (fde_readings section) ≡ table.count

-- ---- why a table isn't faithful

-- the error of a value of row k
abbrev pub IsRefusalIn : {A : Type 0} → Result A Error → ℕ → Unfaithful → Type 0
IsRefusalIn r k reason = (e : Error) × (r ≡ Err e) × (reason ≡ reasons.Row k e)

-- the format can't be searched, or the pointer to the section is indirect
abbrev pub IsHeaderRefusal : Table → Pointer → Error → Type 0
IsHeaderRefusal table pointer e =
    (ok_or (value_size table.encoding) (UnsupportedPointerEncoding (record { 0 = table.encoding }))
    ≡ Err e)
    ⊎ (direct pointer ≡ Err e)

-- the row can't be read, or its start is indirect
abbrev pub IsRowRefusal : HeaderSection → Table → ℕ → Error → Type 0
IsRowRefusal header table k e =
    (k < table.count) × ((start_of header table k ≡ Err e) ⊎ (target_of header table k ≡ Err e))

-- row k starts at t, the row before it at s, no lower
pub record IsNotAbove (start : ℕ → Result ℕ Error) (count k s t : ℕ) : Type 0 where
  pub before : ℕ
  pub follows : before + 1 ≡ k
  pub inside : k < count
  pub start_before : start before ≡ Ok s
  pub start_of_row : start k ≡ Ok t
  pub not_above : t ≤ s

abbrev pub IsReasonOfStarts : (ℕ → Result ℕ Error) → ℕ → Unfaithful → Type 0
IsReasonOfStarts start count (reasons.Header e) = ⊥
IsReasonOfStarts start count (reasons.Row k e) = (k < count) × (start k ≡ Err e)
IsReasonOfStarts start count (reasons.Order k s t) = IsNotAbove start count k s t
IsReasonOfStarts start count (reasons.Entry o e) = ⊥
IsReasonOfStarts start count (reasons.Fde o e) = ⊥
IsReasonOfStarts start count (reasons.NoRow o a) = ⊥
IsReasonOfStarts start count (reasons.Overlap o end next) = ⊥
IsReasonOfStarts start count (reasons.Count rows fdes) = ⊥

abbrev pub HasNoRow : HeaderSection → Table → ℕ → Fde → Type 0
HasNoRow header table eh_frame fde =
    (k : ℕ) → k < table.count → IsRowOf header table eh_frame k fde → ⊥

-- the FDE ends at this address, above the start of the row after its own
pub record Overlaps (header : HeaderSection) (table : Table) (fde : Fde) (end next : ℕ) : Type 0
  where
    pub k : ℕ
    pub inside : k + 1 < table.count
    pub start : start_of header table k ≡ Ok fde.initial
    pub next_start : start_of header table (k + 1) ≡ Ok next
    pub ends : end_of fde ≡ end
    pub covered : next < end

abbrev pub IsReasonOfFde : HeaderSection → Table → ℕ → Fde → Unfaithful → Type 0
IsReasonOfFde header table eh_frame fde (reasons.Header e) = ⊥
IsReasonOfFde header table eh_frame fde (reasons.Row k e) = IsRowRefusal header table k e
IsReasonOfFde header table eh_frame fde (reasons.Order k s t) = ⊥
IsReasonOfFde header table eh_frame fde (reasons.Entry o e) = ⊥
IsReasonOfFde header table eh_frame fde (reasons.Fde o e) = ⊥
IsReasonOfFde header table eh_frame fde (reasons.NoRow o a) =
    (fde.offset ≡ o) × (fde.initial ≡ a) × HasNoRow header table eh_frame fde
IsReasonOfFde header table eh_frame fde (reasons.Overlap o end next) =
    (fde.offset ≡ o) × Overlaps header table fde end next
IsReasonOfFde header table eh_frame fde (reasons.Count rows fdes) = ⊥

-- where the last entry ends; at the beginning of the section where there is none
abbrev pub end_of_last : Option Entry → ℕ
end_of_last None = 0
end_of_last (Some entry) = end_of_entry entry

-- the entry at this offset, where the last one that is read ends, can't be read
abbrev pub IsEntryRefusal : Section → ℕ → Error → Type 0
IsEntryRefusal section o e =
    (o ≡ end_of_last (last_or None (entries section).values)) × ((entries section).refusal ≡ Some e)

-- the FDE at this offset can't be read, or its CIE
abbrev pub IsRefusedAt : Section → List PartialFde → ℕ → Error → Type 0
IsRefusedAt section [] o e = ⊥
IsRefusedAt section (partial ∷ partials) o e =
    ((partial.prefix.offset ≡ o) × (read_fde section partial ≡ Err e))
    ⊎ IsRefusedAt section partials o e

-- how many rows and FDEs there are, fewer FDEs than rows
abbrev pub AreFewer : Table → Section → ℕ → ℕ → Type 0
AreFewer table section rows fdes =
    (rows ≡ table.count) × (fdes ≡ length (fde_readings section)) × (fdes < rows)

-- why the rows don't list the FDEs of the section
abbrev pub IsReasonOfFdes : HeaderSection → Table → ℕ → Section → Unfaithful → Type 0
IsReasonOfFdes header table eh_frame section (reasons.Header e) = ⊥
IsReasonOfFdes header table eh_frame section (reasons.Row k e) = IsRowRefusal header table k e
IsReasonOfFdes header table eh_frame section (reasons.Order k s t) = ⊥
IsReasonOfFdes header table eh_frame section (reasons.Entry o e) = IsEntryRefusal section o e
IsReasonOfFdes header table eh_frame section (reasons.Fde o e) =
    IsRefusedAt section (partial_fdes (entries section).values) o e
IsReasonOfFdes header table eh_frame section (reasons.NoRow o a) =
    (fde : Fde) × IsFdeIn section fde × (fde.offset ≡ o) × (fde.initial ≡ a)
    × HasNoRow header table eh_frame fde
IsReasonOfFdes header table eh_frame section (reasons.Overlap o end next) =
    (fde : Fde) × IsFdeIn section fde × (fde.offset ≡ o) × Overlaps header table fde end next
IsReasonOfFdes header table eh_frame section (reasons.Count rows fdes) =
    AreFewer table section rows fdes

-- what each reason says
abbrev pub IsReason : Listing → Unfaithful → Type 0
IsReason l (reasons.Header e) = IsHeaderRefusal l.table l.eh_frame e
IsReason l (reasons.Row k e) = IsRowRefusal l.header l.table k e
IsReason l (reasons.Order k s t) = IsNotAbove (start_of l.header l.table) l.table.count k s t
IsReason l (reasons.Entry o e) = IsEntryRefusal l.section o e
IsReason l (reasons.Fde o e) = IsRefusedAt l.section (partial_fdes (entries l.section).values) o e
IsReason l (reasons.NoRow o a) =
    (fde : Fde) × IsFdeIn l.section fde × (fde.offset ≡ o) × (fde.initial ≡ a)
    × ((eh_frame : ℕ) → l.eh_frame ≡ Direct eh_frame → HasNoRow l.header l.table eh_frame fde)
IsReason l (reasons.Overlap o end next) =
    (fde : Fde) × IsFdeIn l.section fde × (fde.offset ≡ o) × Overlaps l.header l.table fde end next
IsReason l (reasons.Count rows fdes) = AreFewer l.table l.section rows fdes
