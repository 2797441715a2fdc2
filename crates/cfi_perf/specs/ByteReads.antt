-- What is read of a list of bytes: parts of it, items of one size, texts, entries.
use Rattle.std.specs.Prelude.{ℕ, ◌*◌, ◌/◌, Bool, zero, suc, List, [], ◌∷◌, length, Result, Ok}
use Rattle.std.specs.Prelude.{Err}
use Rattle.std.specs.Int.{w32, w64}
use Rattle.cfi_read_core.specs.declared.error.Error.{Error}
pub use Rattle.cfi_read_core.specs.Bytes.{before_zero, part}
use Rattle.cfi_read_core.specs.ReadFunctions.{Read, ◌>>=◌, Source, bytes, offset}
use Rattle.cfi_read_core.specs.Numbers.{unsigned}
use Rattle.cfi_read_core.specs.ReaderCalls.{read_at}
use Rattle.cfi_read_core.specs.SliceReaders.{slice_over}

-- ---- items

-- what a read gives at the beginning of the bytes
abbrev pub read_from : {A : Type 0} → Bool → List ℕ → Read A → Result A Error
read_from big bytes read = read_at (slice_over bytes big) read

-- the bytes of count items of one size
unfoldable pub item_bytes : ℕ → ℕ → Read (List ℕ)
item_bytes count size = do
  total ← offset (count * size)
  bytes total

-- a text of the header: its size, and as many bytes, with zeros at the end
unfoldable pub header_text : Read (List ℕ)
header_text = do
  size ← unsigned w32
  item_bytes size 1

-- ---- entries one after the other

abbrev pub until_error : {A : Type 0} → Result A Error → List A → List A
until_error (Ok x) others = x ∷ others
until_error (Err e) others = []

-- n entries from a place on, as far as they can be read
unfoldable pub entries : {A : Type 0} → ℕ → Read A → Source → ℕ → List A
entries zero read source place = []
entries (suc n) read source place =
    let first = read source place in until_error first.value (entries n read source first.place)

-- the numbers of eight bytes in these bytes
abbrev pub numbers_of : Bool → List ℕ → List ℕ
numbers_of big bytes = entries (length bytes / 8) (unsigned w64) (slice_over bytes big).source 0
