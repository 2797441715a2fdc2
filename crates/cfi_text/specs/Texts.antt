-- A text that is put together part by part. It remembers if memory for a part was refused, and then
-- it is neither written nor returned.
--     contents text      its bytes
--     IsWhole text      no part was left out
--     Puts part old new      the part comes after what there was
use Rattle.std.specs.Prelude.{◌≡◌, ℕ, true, false, List, ◌++◌}
use Rattle.cfi_text.specs.declared.text.Text.{Text}

abbrev pub contents : Text → List ℕ
contents text = text.bytes.items

abbrev pub IsWhole : Text → Type 0
IsWhole text = text.is_short ≡ false

-- where a part is left out, the text is never whole again
pub record Puts (part : List ℕ) (old new : Text) : Type 0 where
  pub remembers : old.is_short ≡ true → new.is_short ≡ true
  pub adds : new.is_short ≡ false → contents new ≡ contents old ++ part
