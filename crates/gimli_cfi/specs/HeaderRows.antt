-- The rows of a header's table in order (LSB Core, "The .eh_frame_hdr section").
use Rattle.std.specs.Prelude.{ℕ, zero, suc, ◌-◌, List, [], ◌∷◌, Option, Some, None, Result, Ok, Err}
use Rattle.std.specs.Prelude.{◌≡◌, ◌+◌, ◌==◌, if◌then◌else◌}
use Rattle.cfi_read_core.specs.declared.error.Error.{Error}
use Rattle.cfi_read_core.specs.ReadFunctions.{Read, Source, Position, ◌>>=◌, give}
use Rattle.cfi_read_core.specs.ReaderCalls.{Reads}
use Rattle.cfi_parts.specs.declared.pointer.Pointer.{Pointer}
use Rattle.gimli_cfi.specs.EhFrameHdr.{HeaderSection, Table, row}

-- An iterator over rows: what they are read with, how many remain, and the reader's place.
pub record Walk : Type 0 where
  pub section : HeaderSection
  pub encoding : ℕ
  pub count : ℕ
  pub position : Position

-- over all rows of a table
abbrev pub walk_of : HeaderSection → Table → Walk
walk_of section table = record {
  section = section;
  encoding = table.encoding;
  count = table.count;
  position = record {
    source = record section.source { last = table.rows.last };
    place = table.rows.first;
  };
}

-- one row fewer remains, read or failed
abbrev pub walk_after : Walk → Position → Walk
walk_after walk position = record walk { count = walk.count - 1; position = position }

-- the next row, or none where none remains
unfoldable pub next_row : Walk → Read (Option (Pointer × Pointer))
next_row walk =
    if walk.count == 0
    then give None
    else (row walk.section walk.encoding >>= λ found. give (Some found))

-- n rows from a place on, errors among them: the row after a failed one is read from where the
-- failed read stopped
unfoldable pub rows_from :
    HeaderSection → ℕ → ℕ → Source → ℕ → List (Result (Pointer × Pointer) Error)
rows_from section encoding zero source place = []
rows_from section encoding (suc n) source place =
    let first = row section encoding source place in
    first.value ∷ rows_from section encoding n source first.place

abbrev pub rows_left : Walk → List (Result (Pointer × Pointer) Error)
rows_left walk =
    rows_from walk.section walk.encoding walk.count walk.position.source walk.position.place

-- ---- a call of `next`, which leaves the walk `after`

-- it reads the next row at the walk's place
abbrev pub ReadsNextRow : Walk → Result (Option (Pointer × Pointer)) Error → Walk → Type 0
ReadsNextRow before found after =
    Reads (λ row. row) (next_row before) before.position found after.position

-- one row fewer remains, and the place is the one that the call left
abbrev pub IsStep : Walk → Walk → Type 0
IsStep before after = after ≡ walk_after before after.position

-- its result is the first of the rows that were left
abbrev pub MeetsRow : Result (Option (Pointer × Pointer)) Error → Walk → Walk → Type 0
MeetsRow (Ok None) before after =
    (before.count ≡ 0) × ((rows_left before ≡ []) × (rows_left after ≡ []))
MeetsRow (Ok (Some found)) before after =
    (before.count ≡ after.count + 1) × (rows_left before ≡ Ok found ∷ rows_left after)
MeetsRow (Err e) before after =
    (before.count ≡ after.count + 1) × (rows_left before ≡ Err e ∷ rows_left after)
