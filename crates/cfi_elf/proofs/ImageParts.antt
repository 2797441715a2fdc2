-- What a part of a file has is what the whole file has there.
use Rattle.std.proofs.Common.{◌≡◌, ◌∙◌, ◌+◌, ◌-◌, ◌≤◌, Bool, true, false, ℕ, List, [], ◌∷◌, length, take, drop, Option, Some, None, Ok, Err, ◌<◌, refl, sym, ap, arith}
use Rattle.std.specs.Prelude.{nat_le, slice_range, if◌then◌else◌}
use Rattle.std.proofs.lemmas.Bool.{le-leb, leb-true, lt-leb}
use Rattle.cfi_elf.specs.declared.error.ElfError.{ElfError}
use Rattle.std.proofs.lemmas.List.{drop-drop, drop-take, take-take}
use Rattle.cfi_elf.specs.Images.{ArePartsOf, Image, IsImageOf, IsPartOf, IsRead, Part, bytes_at, if_read, in_part, in_parts, image_part, whole}
use Rattle.cfi_elf.specs.Fields.{part}
use Rattle.cfi_elf.specs.Options.{or_else}
use Rattle.cfi_elf.proofs.SameResults.{Same, ok_read}

-- ---- of a list of bytes

abbrev bytes_in : Option (List ℕ) → List ℕ
bytes_in (Some bytes) = bytes
bytes_in None = []

taken_by : (b : Bool) (found bytes : List ℕ) → (if b then Some found else None) ≡ Some bytes → (b ≡ true) × (found ≡ bytes)
taken_by true found bytes is = (refl, ap bytes_in is)
taken_by false found bytes is = absurd (cc)

range_is : (bytes : List ℕ) (offset size : ℕ) → slice_range bytes offset (offset + size) ≡ take size (drop offset bytes)
range_is bytes offset size = let n : offset + size - offset ≡ size = omega arith in ap (λ (n : ℕ). take n (drop offset bytes)) n

-- a part that there is: its bounds and its bytes
part_there : (bytes found : List ℕ) (offset size : ℕ) → part bytes offset size ≡ Some found → (offset + size ≤ length bytes) × (take size (drop offset bytes) ≡ found)
part_there bytes found offset size is =
    let t = taken_by (nat_le (offset + size) (length bytes)) (slice_range bytes offset (offset + size)) found is in
    (leb-true _ _ t.0, sym (range_is bytes offset size) ∙ t.1)

there_part : (bytes found : List ℕ) (offset size : ℕ) → offset + size ≤ length bytes → take size (drop offset bytes) ≡ found → part bytes offset size ≡ Some found
there_part bytes found offset size within is =
    ap (λ (b : Bool). if b then Some (slice_range bytes offset (offset + size)) else None) (le-leb _ _ within)
    ∙ ap Some (range_is bytes offset size ∙ is)

inner : (bytes found : List ℕ) (i n size : ℕ) → take (i + n) bytes ≡ found → size ≤ n → take size (drop i found) ≡ take size (drop i bytes)
inner bytes found i n size is fits =
    ap (λ (xs : List ℕ). take size (drop i xs)) (sym is) ∙ (ap (take size) (drop-take i n bytes) ∙ take-take size n (drop i bytes) fits)

-- a part of a part
pub part_of_part : (bytes found inside : List ℕ) (start i size offset : ℕ) → start + i ≡ offset → part bytes start (length found) ≡ Some found → part found i size ≡ Some inside → part bytes offset size ≡ Some inside
part_of_part bytes found inside start i size offset at outer within =
    let o = part_there bytes found start (length found) outer in
    let w = part_there found inside i size within in
    let room = o.0 in
    let fits = w.0 in
    let all : length found ≡ i + (length found - i) = omega (arith, fits) in
    let taken : take (i + (length found - i)) (drop start bytes) ≡ found = ap (λ (n : ℕ). take n (drop start bytes)) (sym all) ∙ o.1 in
    let same : take size (drop offset bytes) ≡ take size (drop i found) =
    ap (λ (n : ℕ). take size (drop n bytes)) (sym at)
    ∙ (ap (take size) (sym (drop-drop i start bytes)) ∙ sym (inner (drop start bytes) found i (length found - i) size taken (omega (arith, fits)))) in
    there_part bytes inside offset size (omega (arith, at, room, fits)) (same ∙ w.1)

-- ---- of an image

by_first : {A P : Type 0} (a b : Option A) (x : A) → (a ≡ Some x → P) → (b ≡ Some x → P) → or_else a b ≡ Some x → P
by_first (Some y) b x first second is = first is
by_first None b x first second is = second is

found_if : (b : Bool) (o : Option (List ℕ)) (found : List ℕ) → (if b then o else None) ≡ Some found → (b ≡ true) × (o ≡ Some found)
found_if true o found is = (refl, is)
found_if false o found is = absurd (cc)

in_part_there : (bytes found : List ℕ) (offset size : ℕ) (read : Part) → IsPartOf bytes read → in_part offset size read ≡ Some found → part bytes offset size ≡ Some found
in_part_there bytes found offset size read of is =
    let f = found_if (nat_le read.offset offset) (part read.bytes (offset - read.offset) size) found is in
    let before = leb-true _ _ f.0 in
    part_of_part bytes read.bytes found read.offset (offset - read.offset) size offset (omega (arith, before)) of f.1

in_parts_there : (bytes found : List ℕ) (offset size : ℕ) (parts : List Part) → ArePartsOf bytes parts → in_parts offset size parts ≡ Some found → part bytes offset size ≡ Some found
in_parts_there bytes found offset size [] of is = absurd (cc)
in_parts_there bytes found offset size (read ∷ parts) (first, others) is =
    by_first (in_part offset size read) (in_parts offset size parts) found (in_part_there bytes found offset size read first) (in_parts_there bytes found offset size parts others) is

in_image_there : (image : Image) (bytes found : List ℕ) (offset size : ℕ) → IsImageOf image bytes → or_else (part image.first offset size) (in_parts offset size image.parts) ≡ Some found → part bytes offset size ≡ Some found
in_image_there image bytes found offset size of is =
    by_first (part image.first offset size) (in_parts offset size image.parts) found
    (part_of_part bytes image.first found 0 offset size offset (omega arith) of.first_is)
    (in_parts_there bytes found offset size image.parts of.parts_are) is

same_found : (b : Bool) (offset size : ℕ) (found all : Option (List ℕ)) → ((bytes : List ℕ) → found ≡ Some bytes → all ≡ Some bytes) →
    IsRead (if b then if_read offset size found else Ok None) → (if b then if_read offset size found else Ok None) ≡ (if b then if_read offset size (or_else all None) else Ok None)
same_found true offset size (Some bytes) all there read = sym (ap (λ (o : Option (List ℕ)). if_read offset size (or_else o None)) (there bytes refl))
same_found true offset size None all there read = absurd (read offset size refl)
same_found false offset size found all there read = refl

-- all of a whole file is read
found_read : (b : Bool) (offset size : ℕ) (found : List ℕ) → IsRead (if b then if_read offset size (or_else (if b then Some found else None) None) else Ok None)
found_read true offset size found = ok_read (Some found)
found_read false offset size found = ok_read None

pub whole_read : (bytes : List ℕ) (offset size : ℕ) → IsRead (image_part (whole bytes) offset size)
whole_read bytes offset size = found_read (nat_le (offset + size) (length bytes)) offset size (slice_range bytes offset (offset + size))

module _ {image : Image} {bytes : List ℕ} (of : IsImageOf image bytes) where
  pub same_part : (offset size : ℕ) → Same (image_part image offset size) (image_part (whole bytes) offset size)
  same_part offset size = record {
    same = λ read.
        same_found (nat_le (offset + size) image.length) offset size (or_else (part image.first offset size) (in_parts offset size image.parts)) (part bytes offset size)
        (λ found is. in_image_there image bytes found offset size of is) read
        ∙ ap (λ (n : ℕ). if nat_le (offset + size) n then if_read offset size (or_else (part bytes offset size) None) else Ok None) of.length_is;
    read = whole_read bytes offset size;
  }

-- ---- past the end of the file

pub past_the_end : (image : Image) (offset size : ℕ) (error : ElfError) → image.length < size → bytes_at image offset size error ≡ Err error
unfolding bytes_at
past_the_end image offset size error longer = let past : image.length < offset + size = omega (arith, longer) in rw (lt-leb (offset + size) image.length past) refl
