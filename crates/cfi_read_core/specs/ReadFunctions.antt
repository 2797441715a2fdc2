-- What a reader is, and reading as a function of the place where it begins.
use Rattle.std.specs.Prelude.{◌-◌, ◌+◌, ℕ, zero, suc, Bool, true, false, List, [], ◌∷◌, take, drop}
use Rattle.std.specs.Prelude.{Option, Some, None, Result, Ok, Err, nat_le, ◌==◌, slice_range}
use Rattle.std.specs.Prelude.{if◌then◌else◌}
use Rattle.cfi_read_core.specs.declared.error.Error.{Error}
use Rattle.cfi_read_core.specs.declared.error.Error.TheVariants.{UnexpectedEof, UnsupportedOffset}

-- ---- readers

-- What a reader keeps while it reads.
pub record Source : Type 0 where
  pub whole : List ℕ  -- all the bytes over which the reader was made
  pub last : ℕ  -- the place after the last byte that it may read
  pub big_endian : Bool  -- whether the most significant byte comes first
  pub greatest : ℕ  -- the greatest number that is an offset

-- A reader stands at a place of its source. Places count from the first byte of the whole.
pub record Position : Type 0 where
  pub source : Source
  pub place : ℕ

-- The bytes from one place up to another.
pub record Extent : Type 0 where
  pub first : ℕ
  pub last : ℕ

abbrev pub bytes_of : Source → Extent → List ℕ
bytes_of source extent = slice_range source.whole extent.first extent.last

-- the bytes that are left
abbrev pub rest : Source → ℕ → List ℕ
rest source place = take (source.last - place) (drop place source.whole)

-- ---- reads

-- What a read gives: a value or the first refusal, and the place after it.
pub record Outcome (A : Type 0) : Type 0 where
  pub value : Result A Error
  pub place : ℕ

abbrev pub Read : Type 0 → Type 0
Read A = Source → ℕ → Outcome A

abbrev pub carry_on : {A B : Type 0} → (A → Read B) → Source → Result A Error → ℕ → Outcome B
carry_on next source (Ok x) place = next x source place
carry_on next source (Err e) place = record { value = Err e; place = place }

-- one read after the other; a refused read is the last
infixl 10 ◌>>=◌
abbrev pub ◌>>=◌ : {A B : Type 0} → Read A → (A → Read B) → Read B
read >>= next =
    λ source place. carry_on next source (read source place).value (read source place).place

infixl 10 ◌>>◌
abbrev pub ◌>>◌ : {A B : Type 0} → Read A → Read B → Read B
first >> second = first >>= λ _. second

-- a value, and a refusal, without a byte read
abbrev pub give : {A : Type 0} → A → Read A
give x = λ source place. record { value = Ok x; place = place }

abbrev pub refuse : {A : Type 0} → Error → Read A
refuse e = λ source place. record { value = Err e; place = place }

abbrev pub of_result : {A : Type 0} → Result A Error → Read A
of_result r = λ source place. record { value = r; place = place }

-- a refusal where the test is true
abbrev pub refuse_if : Bool → Error → Read Bool
refuse_if b e = if b then refuse e else give b

-- the bytes ended at this place
abbrev pub unexpected_eof : ℕ → Error
unexpected_eof place = UnexpectedEof (record { 0 = place })

abbrev pub here : Read ℕ
here = λ source place. record { value = Ok place; place = place }

-- n bytes, passed
abbrev pub split : ℕ → Read Extent
split n = λ source place.
    if nat_le n (source.last - place)
    then record { value = Ok (record { first = place; last = place + n }); place = place + n }
    else record { value = Err (unexpected_eof place); place = place }

abbrev pub skip : ℕ → Read Unit
skip n = split n >>= λ _. give tt

abbrev pub bytes : ℕ → Read (List ℕ)
bytes n = split n >>= λ extent source. give (bytes_of source extent) source

-- all that is left
abbrev pub remainder : Read Extent
remainder =
    λ source place.
    record { value = Ok (record { first = place; last = source.last }); place = source.last }

-- reads an extent from its first place; the outer reader stays where it was
abbrev pub within : {A : Type 0} → Extent → Read A → Read A
within extent read =
    λ source place.
    record {
      value = (read (record source { last = extent.last }) extent.first).value;
      place = place;
    }

-- a number that has to be an offset
abbrev pub offset : ℕ → Read ℕ
offset n =
    λ source place.
    (if nat_le n source.greatest then give n else refuse UnsupportedOffset) source place

-- the read that a table has for a number, or the other one where it has none
abbrev pub chosen_from : {A : Type 0} → ℕ → List (ℕ × Read A) → Read A → Read A
chosen_from n [] other = other
chosen_from n (row ∷ rows) other = if row.0 == n then row.1 else chosen_from n rows other

-- ---- reading again and again

-- The values in order, and the refusal that ended them, if one did.
pub record Readings (A : Type 0) : Type 0 where
  pub values : List A
  pub refusal : Option Error

abbrev pub with_first : {A : Type 0} → A → Readings A → Readings A
with_first x others = record { values = x ∷ others.values; refusal = others.refusal }

-- nothing was read, up to the end or a refusal
abbrev pub no_values : {A : Type 0} → Option Error → Readings A
no_values refusal = record { values = []; refusal = refusal }

-- whether the end was met, what was read where it wasn't, and what is read after that
abbrev pub readings_with : {A : Type 0} → Bool → Result A Error → Readings A → Readings A
readings_with true first others = no_values None
readings_with false (Err e) others = no_values (Some e)
readings_with false (Ok x) others = with_first x others

-- What the same read gives up to the end, at most n times.
unfoldable pub readings_up_to : {A : Type 0} → ℕ → Read A → Source → ℕ → Readings A
readings_up_to zero read source place = no_values None
readings_up_to (suc n) read source place =
    let first = read source place in
    readings_with (nat_le source.last place) first.value (readings_up_to n read source first.place)

-- What it gives over an extent. Each value is to take a byte at least.
abbrev pub readings_over : {A : Type 0} → Extent → Read A → Source → Readings A
readings_over extent read source =
    readings_up_to (extent.last - extent.first) read (record source { last = extent.last })
    extent.first
