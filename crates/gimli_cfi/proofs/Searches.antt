-- What a search in the rows comes to.
use Rattle.std.proofs.Common.{◌≡◌, ◌+◌, arith, ℕ, Option, Some, None, Result, Ok, Err, refl, ap, ◌∙◌, inl, inr, ⊎_elim}
use Rattle.std.specs.Prelude.{IsSome, ok_or}
use Rattle.cfi_read_core.specs.declared.error.Error.{Error}
use Rattle.cfi_read_core.specs.declared.error.Error.TheVariants.{UnsupportedPointerEncoding}
use Rattle.gimli_cfi.specs.BoundaryRows.{IsBoundaryRow, IsRefusalOfRow, AreRising, IsLastUpTo}
use Rattle.gimli_cfi.specs.EhFrameHdr.{Table}
use Rattle.gimli_cfi.specs.Halving.{by_found, looked_up_in, reads_in}
use Rattle.gimli_cfi.specs.TableLookup.{SearchedBy}
use Rattle.gimli_cfi.proofs.Rising.{last_up_to}

-- by a boundary row, in a format that can be searched
pub by_row : {A : Type 0} (size : Option ℕ) (n : ℕ) (e : Error) (start : ℕ → Result ℕ Error) (table : Table) (a : ℕ) (of_row : ℕ → Result A Error) (found : Result A Error) (k : ℕ) →
    ok_or size e ≡ Ok n → IsBoundaryRow start table.count a k → found ≡ of_row k → SearchedBy size start table a of_row found
by_row None n e start table a of_row found k searchable boundary same = absurd (cc)
by_row (Some size) n e start table a of_row found k searchable boundary same = inr (k, boundary, same)

-- by the refusal of a row
pub by_refusal : {A : Type 0} (size : Option ℕ) (n : ℕ) (e refusal : Error) (start : ℕ → Result ℕ Error) (table : Table) (a : ℕ) (of_row : ℕ → Result A Error) →
    ok_or size e ≡ Ok n → IsRefusalOfRow start table.count refusal → SearchedBy size start table a of_row (Err refusal)
by_refusal None n e refusal start table a of_row searchable refused = absurd (cc)
by_refusal (Some size) n e refusal start table a of_row searchable refused = inl (refusal, refused, refl)

-- by a format that can't be searched
pub by_format : {A : Type 0} (size : Option ℕ) (start : ℕ → Result ℕ Error) (table : Table) (a : ℕ) (of_row : ℕ → Result A Error) (e : Error) →
    ◌≡◌ {A = Result ℕ Error} (Err e) (ok_or size (UnsupportedPointerEncoding (record { 0 = table.encoding }))) → SearchedBy size start table a of_row (Err e)
by_format None start table a of_row e refused = let same : e ≡ UnsupportedPointerEncoding (record { 0 = table.encoding }) = cc in ap Err same
by_format (Some size) start table a of_row e refused = absurd (cc)

-- a format that can be searched has a size
pub not_none : (size : Option ℕ) (n : ℕ) (e : Error) → ok_or size e ≡ Ok n → size ≡ None → ⊥
not_none None n e searchable none = cc
not_none (Some size) n e searchable none = cc

-- where the starts rise, by the last row at or below the address
pub rising_row : {A : Type 0} (size : Option ℕ) (start : ℕ → Result ℕ Error) (table : Table) (a : ℕ) (of_row : ℕ → Result A Error) (found : Result A Error) →
    IsSome size → AreRising start table.count → SearchedBy size start table a of_row found → (k : ℕ) × IsLastUpTo start table.count a k × (found ≡ of_row k)
rising_row None start table a of_row found searchable rising searched = absurd (cc)
rising_row (Some size) start table a of_row found searchable rising searched =
    ⊎_elim
    (λ refused.
    let given = (rising.given refused.1.0 refused.1.1).1 in
    let not_given = refused.1.2 in absurd (cc))
    (λ row. (row.0, last_up_to start table.count a row.0 rising row.1, row.2))
    searched

-- what the table gives by what the search in its starts comes to
pub looked_up_format : {A : Type 0} (size : Option ℕ) (table : Table) (of_row : ℕ → Result A Error) (found : Result ℕ Error) (e : Error) →
    ◌≡◌ {A = Result ℕ Error} (Err e) (ok_or size (UnsupportedPointerEncoding (record { 0 = table.encoding }))) → ◌≡◌ {A = Result A Error} (Err e) (looked_up_in size table of_row found)
looked_up_format None table of_row found e refused = let same : e ≡ UnsupportedPointerEncoding (record { 0 = table.encoding }) = cc in ap Err same
looked_up_format (Some size) table of_row found e refused = absurd (cc)

pub looked_up_found : {A : Type 0} (size : Option ℕ) (n : ℕ) (e : Error) (table : Table) (of_row : ℕ → Result A Error) (found searched : Result ℕ Error) (given : Result A Error) →
    ok_or size e ≡ Ok n → found ≡ searched → given ≡ by_found of_row found → given ≡ looked_up_in size table of_row searched
looked_up_found None n e table of_row found searched given searchable is same = absurd (cc)
looked_up_found (Some size) n e table of_row found searched given searchable is same = same ∙ ap (by_found of_row) is

-- how many starts were read for it
pub reads_format : (size : Option ℕ) (e refusal : Error) (before reads : ℕ) → ◌≡◌ {A = Result ℕ Error} (Err e) (ok_or size refusal) → before ≡ before + reads_in size reads
reads_format None e refusal before reads refused = omega arith
reads_format (Some size) e refusal before reads refused = absurd (cc)

pub reads_searched : (size : Option ℕ) (n : ℕ) (e : Error) (before after reads : ℕ) → ok_or size e ≡ Ok n → after ≡ before + reads → after ≡ before + reads_in size reads
reads_searched None n e before after reads searchable made = absurd (cc)
reads_searched (Some size) n e before after reads searchable made = made
