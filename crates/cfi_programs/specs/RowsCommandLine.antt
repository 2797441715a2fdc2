-- The words of the command line of `cfi_rows`.
use Rattle.std.specs.Prelude.{ℕ, Option, Some, None, List, ◌∷◌, codes, if◌then◌else◌}
use Rattle.std.specs.Option.{option_and_then, option_map}
use Rattle.std.specs.Str.{bytes_eq}
use Rattle.cfi_programs.specs.Numbers.{number}
use Rattle.cfi_programs.specs.Words as sections
use Rattle.cfi_programs.specs.Words.{◌>>=◌, each_word, section_word}
use Rattle.cfi_programs.specs.declared.rows.command_line.Storage.{Storage}
use Rattle.cfi_programs.specs.declared.rows.command_line.Storage.TheVariants.{OnHeap, Growing}
use Rattle.cfi_programs.specs.declared.rows.command_line.Request.{Request}

-- ---- the words after the address, each at most once

abbrev pub set_storage : Request → Storage → Option Request
set_storage request OnHeap = Some (record request { storage = Growing })
set_storage request Growing = None

abbrev pub option_word : List ℕ → Request → Option Request
option_word word request =
    if bytes_eq word (codes "store=vec") then set_storage request request.storage
    else option_map (λ words. record request { words = words }) (section_word word request.words)

abbrev pub option_words : List (List ℕ) → Request → Option Request
option_words options request = each_word option_word options request

-- ---- the four first words

abbrev pub first_four_words : List ℕ → List ℕ → List ℕ → List ℕ → Option Request
first_four_words kind order size address = do
  words ← sections.first_words kind order size
  value ← number address
  Some (record {
    words = words;
    address = value;
    storage = OnHeap;
  })

-- what the words ask for, or none where they are wrong
unfoldable pub request_of : List (List ℕ) → Option Request
request_of (kind ∷ order ∷ size ∷ address ∷ options) =
    option_and_then (option_words options) (first_four_words kind order size address)
request_of words = None
