-- Augmentation strings and their data (LSB Core, "Augmentation String Format": z, L, P, R; GCC
-- writes S; B is of the DWARF for the Arm 64-bit Architecture).
use Rattle.std.specs.Prelude.{ℕ, Bool, true, false, not, Option, Some, None, List, [], ◌∷◌, ◌==◌}
use Rattle.std.specs.Prelude.{if◌then◌else◌}
use Rattle.cfi_read_core.specs.declared.error.Error.TheVariants.{UnknownAugmentation}
use Rattle.cfi_read_core.specs.ReadFunctions.{Read, ◌>>=◌, give, refuse, split, within}
use Rattle.cfi_read_core.specs.Numbers.{offset_leb128}
use Rattle.cfi_parts.specs.declared.pointer.Pointer.{Pointer}
use Rattle.cfi_parts.specs.Pointers.{PointerContext, encoding_byte, pointer}

-- What an augmentation string and its data mean. Of a repeated letter the last counts.
pub record Augmentation : Type 0 where
  pub has_augmentation_data : Bool  -- z: CIE and FDEs have augmentation data
  pub lsda_encoding : Option ℕ  -- L
  pub personality : Option (ℕ × Pointer)  -- P: the encoding and the pointer
  pub address_encoding : Option ℕ  -- R: of the FDE's addresses
  pub is_signal_trampoline : Bool  -- S
  pub uses_b_key : Bool  -- B: the return address is signed with the B key

-- ---- what an entry without augmentation lacks

abbrev pub lsda_encoding_of : Option Augmentation → Option ℕ
lsda_encoding_of None = None
lsda_encoding_of (Some known) = known.lsda_encoding

abbrev pub personality_of : Option Augmentation → Option (ℕ × Pointer)
personality_of None = None
personality_of (Some known) = known.personality

abbrev pub address_encoding_of : Option Augmentation → Option ℕ
address_encoding_of None = None
address_encoding_of (Some known) = known.address_encoding

abbrev pub is_trampoline : Option Augmentation → Bool
is_trampoline None = false
is_trampoline (Some known) = known.is_signal_trampoline

abbrev pub has_b_key : Option Augmentation → Bool
has_b_key None = false
has_b_key (Some known) = known.uses_b_key

-- ---- augmentation: z 0x7a, L 0x4c, P 0x50, R 0x52, S 0x53, B 0x42

abbrev pub no_letters : Augmentation
no_letters = record {
  has_augmentation_data = false;
  lsda_encoding = None;
  personality = None;
  address_encoding = None;
  is_signal_trampoline = false;
  uses_b_key = false;
}

-- what one letter adds, read from the augmentation data
unfoldable pub letter : PointerContext → ℕ → Augmentation → Read Augmentation
letter context l known =
    if l == 0x53 then give (record known { is_signal_trampoline = true })
    else if l == 0x42 then give (record known { uses_b_key = true })
    else if not known.has_augmentation_data then refuse UnknownAugmentation
    else if l == 0x4c then (do
      encoding ← encoding_byte
      give (record known { lsda_encoding = Some encoding }))
    else if l == 0x50 then (do
      encoding ← encoding_byte
      p ← pointer encoding context
      give (record known { personality = Some (encoding, p) }))
    else if l == 0x52 then (do
      encoding ← encoding_byte
      give (record known { address_encoding = Some encoding }))
    else refuse UnknownAugmentation

unfoldable pub letters : PointerContext → List ℕ → Augmentation → Read Augmentation
letters context [] known = give known
letters context (l ∷ ls) known = letter context l known >>= letters context ls

-- after a first z: the length of the data, in which the other letters are read; what they leave is
-- dropped
unfoldable pub letters_with_data : PointerContext → List ℕ → Read (Option Augmentation)
letters_with_data context ls = do
  length ← offset_leb128
  data_bytes ← split length
  known ← within data_bytes
      (letters context ls (record no_letters { has_augmentation_data = true }))
  give (Some known)

unfoldable pub augmentation : PointerContext → List ℕ → Read (Option Augmentation)
augmentation context [] = give None
augmentation context (l ∷ ls) =
    if l == 0x7a
    then letters_with_data context ls
    else (letters context (l ∷ ls) no_letters >>= λ known. give (Some known))
