-- A text of folded stacks as it is drawn.
--     plain text      a text whose semicolons are separators
use Rattle.std.specs.Prelude.{ℕ, List}
use Rattle.cfi_text.specs.Escapes.{escaped}
use Rattle.cfi_text.specs.declared.escapes.Escaping.TheVariants.{Plain}

-- a semicolon is a separator, NUL (0), and a line feed ends a line
abbrev pub plain : List ℕ → List ℕ
plain text = escaped Plain text
