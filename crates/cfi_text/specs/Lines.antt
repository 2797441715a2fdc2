-- A line with its line feed, and the status with which it is printed.
use Rattle.std.specs.Prelude.{ℕ, List, [], ◌∷◌, ◌++◌}
pub use Rattle.cfi_text.specs.Addresses.{address_text}

pub record Line : Type 0 where
  pub text : List ℕ
  pub status : ℕ

abbrev pub line : List ℕ → ℕ → Line
line text status = record { text = text ++ 10 ∷ []; status = status }
