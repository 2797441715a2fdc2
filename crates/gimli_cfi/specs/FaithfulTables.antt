-- A table that lists the FDEs of a section faithfully.
use Rattle.std.specs.Prelude.{◌≡◌, ◌≢◌, ◌<◌, ◌+◌, ℕ, None, Ok, IsSome, IsOk}
use Rattle.std.specs.List.{AllByRecursion}
use Rattle.cfi_parts.specs.declared.pointer.Pointer.TheVariants.{Direct}
use Rattle.cfi_entry.specs.Sections.{Section}
use Rattle.cfi_entry.specs.Fdes.{Fde, Covers}
use Rattle.cfi_entry.specs.Entries.{entries}
use Rattle.cfi_unwind.specs.Scan.{fde_readings, IsAmong}
use Rattle.gimli_cfi.specs.EhFrameHdr.{HeaderSection, Table, value_size, start_of, target_of}

-- row k starts at the FDE's first address, and its target is the FDE
pub record IsRowOf (header : HeaderSection) (table : Table) (eh_frame : ℕ) (k : ℕ) (fde : Fde)
    : Type 0 where
  pub start : start_of header table k ≡ Ok fde.initial
  pub target : target_of header table k ≡ Ok (Direct (eh_frame + fde.offset))

-- an FDE of the section
abbrev pub IsFdeIn : Section → Fde → Type 0
IsFdeIn section fde = IsAmong (fde_readings section) fde

pub record IsFaithful (header : HeaderSection) (table : Table) (eh_frame : ℕ) (section : Section)
    : Type 0 where
  pub searchable : IsSome (value_size table.encoding)
  -- each row is an FDE's, and its start and target are direct
  pub only_fdes : (k : ℕ) → k < table.count →
      (fde : Fde) × IsFdeIn section fde × IsRowOf header table eh_frame k fde
  pub starts_increase : (j k s t : ℕ) → j < k → k < table.count →
      start_of header table j ≡ Ok s → start_of header table k ≡ Ok t → s < t
  -- every entry of the section is read without an error
  pub entries_end : (entries section).refusal ≡ None
  pub fdes_read : AllByRecursion IsOk (fde_readings section)
  -- each FDE has a row, one only since the starts increase
  pub all_fdes : (fde : Fde) → IsFdeIn section fde →
      (k : ℕ) × (k < table.count) × IsRowOf header table eh_frame k fde
  -- no FDE contains the first address of another
  pub no_overlap : (fde other : Fde) → IsFdeIn section fde → IsFdeIn section other →
      fde ≢ other → Covers fde other.initial → ⊥
