-- The parts of a file that were read.
--     image_of parts      the file, as far as it was read
--     AreOfInput known image      the parts are of the bytes of a file, which are the known ones
--         where these are known
--     IsAllOf known image      the first part has all bytes of a file
--     is_free image start end      whether the bytes between two offsets are in the file, and none
--         of them was read
--     IsBeginning size image      only the beginning of the file was read, size bytes or all
--     IsWithMore start end old new      the bytes between two offsets are one more part
--     IsWithPart offset size old new      these bytes were read too, or all where they can't be
use Rattle.std.specs.Prelude.{◌≡◌, ℕ, ◌+◌, ◌-◌, ◌^◌, Bool, ◌&&◌, ◌||◌, List, [], ◌++◌, length, min}
use Rattle.std.specs.Prelude.{Option, nat_le, true, false}
use Rattle.std.specs.List.{list_all, push}
use Rattle.cfi_elf.specs.Images.{Image, IsImageOf, Part, parts_view, whole}
use Rattle.cfi_object.specs.declared.file_parts.FileParts.{FileParts}
use Rattle.cfi_text.specs.Readings.{AreLeft}

abbrev pub image_of : FileParts → Image
image_of parts = record {
  length = parts.length;
  first = parts.first.items;
  parts = parts_view parts.parts.items;
}

abbrev pub AreOfInput : Option (List ℕ) → Image → Type 0
AreOfInput known image = (bytes : List ℕ) × AreLeft known bytes × IsImageOf image bytes

abbrev pub IsAllOf : Option (List ℕ) → Image → Type 0
IsAllOf known image = (bytes : List ℕ) × AreLeft known bytes × (image ≡ whole bytes)

-- whether a part has no byte between two offsets
abbrev pub is_apart : ℕ → ℕ → Part → Bool
is_apart start end read = nat_le end read.offset || nat_le (read.offset + length read.bytes) start

abbrev pub are_apart : ℕ → ℕ → List Part → Bool
are_apart start end parts = list_all (is_apart start end) parts

abbrev pub is_free : Image → ℕ → ℕ → Bool
is_free image start end =
    nat_le start end
    && (nat_le end image.length
    && (nat_le (length image.first) start && are_apart start end image.parts))

-- ---- what is read of the file

pub record IsBeginning (size : ℕ) (image : Image) : Type 0 where
  pub first_has : length image.first ≡ min image.length size
  pub alone : image.parts ≡ []

-- all bytes of the file
abbrev pub IsWhole : Image → Type 0
IsWhole image = (bytes : List ℕ) × (image ≡ whole bytes)

pub record IsWithMore (start end : ℕ) (old new : Image) : Type 0 where
  pub read : List ℕ
  pub has : length read ≡ end - start
  pub is : new ≡ record old { parts = push old.parts (record { offset = start; bytes = read }) }

-- the first bytes go on up to an offset
pub record IsLongerTo (end : ℕ) (old new : Image) : Type 0 where
  pub read : List ℕ
  pub has : length read ≡ end - length old.first
  pub is : new ≡ record old { first = old.first ++ read }

-- one more part, if its bytes are in the file and none of them was read
pub record IsWithFree (start end : ℕ) (old new : Image) : Type 0 where
  pub more : is_free old start end ≡ true → IsWithMore start end old new
  pub kept : is_free old start end ≡ false → new ≡ old

-- whether the bytes up to an offset go on from the first, and begin within these or where they end
abbrev pub goes_on : Image → ℕ → ℕ → Bool
goes_on image offset end =
    nat_le offset (length image.first) && is_free image (length image.first) end

-- These make the first bytes longer, and others are one more part, if they are in the file and
-- none of them was read.
pub record IsWithRange (offset end : ℕ) (old new : Image) : Type 0 where
  pub longer : goes_on old offset end ≡ true → IsLongerTo end old new
  pub more :
      goes_on old offset end ≡ false → is_free old offset end ≡ true →
      IsWithMore offset end old new
  pub all : goes_on old offset end ≡ false → is_free old offset end ≡ false → IsWhole new

-- the end is the last offset of 64 bits at most
abbrev pub IsWithPart : ℕ → ℕ → Image → Image → Type 0
IsWithPart offset size old new = IsWithRange offset (min (offset + size) (2 ^ 64 - 1)) old new
