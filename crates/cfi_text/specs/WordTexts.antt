-- The words of a command line, by their bytes.
use Rattle.std.specs.Prelude.{ℕ, Option, List, map}
use Rattle.std.specs.Borrow.{Bor}
use Rattle.std.specs.Option.{option_map}

-- the bytes of each word
abbrev pub texts : List (Bor (List ℕ)) → List (List ℕ)
texts words = map (λ word. word.now) words

-- the same of words that may not be readable
abbrev pub texts_given : Option (Bor (List (Bor (List ℕ)))) → Option (List (List ℕ))
texts_given words = option_map (λ list. texts list.now) words
