-- The search by halving in the starts of a table's rows. `start` gives the start of each row, or an
-- error.
--     search start count address      what is found in the first `count` rows, and how many starts
--         are read on the way
--     looked_up table of_row found      what a table gives by it, of_row being what a row gives
--     table_reads table reads      how many starts are read for it, of a search's reads
--     reads_by_header header read address      the same by a header that was read, or the error of
--         one that can't be
--     most_reads read      how many these are at most
use Rattle.std.specs.Prelude.{ℕ, zero, suc, ◌+◌, ◌-◌, ◌/◌, Option, Some, None, Result, Ok, Err}
use Rattle.std.specs.Prelude.{nat_eq, nat_lt, nat_le, if◌then◌else◌}
use Rattle.cfi_read_core.specs.declared.error.Error.{Error}
use Rattle.cfi_read_core.specs.declared.error.Error.TheVariants.{UnsupportedPointerEncoding}
use Rattle.gimli_cfi.specs.EhFrameHdr.{Header, HeaderSection, Table}
use Rattle.gimli_cfi.specs.EhFrameHdr.{start_of, value_size}
use Rattle.gimli_cfi.specs.HalvingSteps.{steps}

-- the row that is found, or the error of a start; and how many starts were read
pub record Search : Type 0 where
  pub found : Result ℕ Error
  pub reads : ℕ

abbrev pub ends_at : Result ℕ Error → Search
ends_at found = record { found = found; reads = 0 }

abbrev pub one_read : Search → Search
one_read s = record { found = s.found; reads = s.reads + 1 }

-- The start that was read is that of row first + half. An error ends the search, and so does a
-- start that equals the address. A start below the address makes this row the first one of those
-- that are left, and one above it leaves the rows before this one.
abbrev pub by_start : Result ℕ Error → ℕ → ℕ → ℕ → ℕ → (ℕ → ℕ → Search) → Search
by_start (Err e) address first len half rest = ends_at (Err e)
by_start (Ok s) address first len half rest =
    if nat_eq s address then ends_at (Ok (first + half))
    else if nat_lt s address then rest (first + half) (len - half)
    else rest first half

-- The rows from `first` on, `len` of them, are left. While they are more than one, the start of
-- row first + len / 2 is read. The first argument bounds the turns: each leaves fewer rows, so as
-- many turns as there are rows are enough.
unfoldable pub search_in : ℕ → (ℕ → Result ℕ Error) → ℕ → ℕ → ℕ → Search
search_in zero start address first len = ends_at (Ok first)
search_in (suc turns) start address first len =
    if nat_le len 1 then ends_at (Ok first)
    else one_read (by_start (start (first + len / 2)) address first len (len / 2)
    (search_in turns start address))

abbrev pub search : (ℕ → Result ℕ Error) → ℕ → ℕ → Search
search start count address = search_in count start address 0 count

-- ---- of a table

abbrev pub by_found : {A : Type 0} → (ℕ → Result A Error) → Result ℕ Error → Result A Error
by_found of_row (Ok k) = of_row k
by_found of_row (Err e) = Err e

-- a format that can't be searched is an error before a start is read
abbrev pub looked_up_in :
    {A : Type 0} → Option ℕ → Table → (ℕ → Result A Error) → Result ℕ Error → Result A Error
looked_up_in None table of_row found =
    Err (UnsupportedPointerEncoding (record { 0 = table.encoding }))
looked_up_in (Some size) table of_row found = by_found of_row found

abbrev pub looked_up :
    {A : Type 0} → Table → (ℕ → Result A Error) → Result ℕ Error → Result A Error
looked_up table of_row found = looked_up_in (value_size table.encoding) table of_row found

abbrev pub reads_in : Option ℕ → ℕ → ℕ
reads_in None reads = 0
reads_in (Some size) reads = reads

abbrev pub table_reads : Table → ℕ → ℕ
table_reads table reads = reads_in (value_size table.encoding) reads

-- ---- of a header

abbrev pub reads_by_table : HeaderSection → Option Table → ℕ → ℕ
reads_by_table header None address = 0
reads_by_table header (Some table) address =
    table_reads table (search (start_of header table) table.count address).reads

abbrev pub reads_by_header : HeaderSection → Result Header Error → ℕ → ℕ
reads_by_header header (Err e) address = 0
reads_by_header header (Ok read) address = reads_by_table header read.table address

abbrev pub most_reads_in : Option Table → ℕ
most_reads_in None = 0
most_reads_in (Some table) = steps table.count

abbrev pub most_reads : Result Header Error → ℕ
most_reads (Err e) = 0
most_reads (Ok read) = most_reads_in read.table
