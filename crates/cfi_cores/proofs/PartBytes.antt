-- Bytes of a file that its parts have.
use Rattle.std.proofs.Common.{◌≡◌, ◌∙◌, ◌≤◌, ◌<◌, ◌+◌, ◌-◌, ℕ, Bool, true, false, List, [], ◌∷◌, length, take, drop, get_or, min, Option, Some, None, IfSome, refl, sym, ap, subst, arith, add-one, length-drop, suc}
use Rattle.std.specs.Prelude.{nat_le, slice_range, if◌then◌else◌, option_map}
use Rattle.std.specs.Borrow.{Bor}
use Rattle.std.proofs.Math.Seq.{drop-cons}
use Rattle.std.proofs.lemmas.Bool.{leb-true}
use Rattle.std.proofs.lemmas.Bool.Decides.{nat_tests}
use Rattle.std.proofs.lemmas.List.{drop-drop, drop-take, drop_all, length-take, take-take, take_all}
use Rattle.cfi_elf.specs.declared.image.FilePart.{FilePart}
use Rattle.cfi_elf.specs.declared.program_header.ProgramHeader.{ProgramHeader}
use Rattle.cfi_elf.specs.Fields.{part}
use Rattle.cfi_elf.specs.Images.{ArePartsOf, IsPartOf, Part, in_part, in_parts, part_view, parts_view}
use Rattle.cfi_elf.specs.Options.{or_else}
use Rattle.cfi_elf.proofs.ImageParts.{part_of_part}
use Rattle.cfi_cores.specs.StackWindows.{AreFrom}
use Rattle.cfi_cores.specs.CoreSegments.{segment_bytes}

-- ---- a part

taken_by : (b : Bool) (xs ys : List ℕ) → (if b then Some xs else None) ≡ Some ys → (b ≡ true) × (xs ≡ ys)
taken_by true xs ys is = (refl, cc)
taken_by false xs ys is = absurd (cc)

-- a part that there is: its bounds and its bytes
pub part_there : (bytes found : List ℕ) (offset size : ℕ) → part bytes offset size ≡ Some found → (offset + size ≤ length bytes) × (take size (drop offset bytes) ≡ found)
part_there bytes found offset size is =
    let (fits, same) = taken_by (nat_le (offset + size) (length bytes)) (slice_range bytes offset (offset + size)) found is in
    let amount : offset + size - offset ≡ size = omega arith in
    (leb-true _ _ fits, ap (λ (n : ℕ). take n (drop offset bytes)) (sym amount) ∙ same)

found_if : (b : Bool) (o : Option (List ℕ)) (found : List ℕ) → (if b then o else None) ≡ Some found → (b ≡ true) × (o ≡ Some found)
found_if true o found is = (refl, is)
found_if false o found is = absurd (cc)

in_part_there : (bytes found : List ℕ) (offset size : ℕ) (read : Part) → IsPartOf bytes read → in_part offset size read ≡ Some found → part bytes offset size ≡ Some found
in_part_there bytes found offset size read of is =
    let (fits, inside) = found_if (nat_le read.offset offset) (part read.bytes (offset - read.offset) size) found is in
    let before = leb-true _ _ fits in
    part_of_part bytes read.bytes found read.offset (offset - read.offset) size offset (omega (arith, before)) of inside

by_first : (a b : Option (List ℕ)) (found : List ℕ) {P : Type 0} → (a ≡ Some found → P) → (b ≡ Some found → P) → or_else a b ≡ Some found → P
by_first (Some y) b found first second is = first is
by_first None b found first second is = second is

pub in_parts_there : (bytes found : List ℕ) (offset size : ℕ) (parts : List Part) → ArePartsOf bytes parts → in_parts offset size parts ≡ Some found → part bytes offset size ≡ Some found
in_parts_there bytes found offset size [] of is = absurd (cc)
in_parts_there bytes found offset size (read ∷ parts) (first, others) is =
    by_first (in_part offset size read) (in_parts offset size parts) found (in_part_there bytes found offset size read first) (in_parts_there bytes found offset size parts others) is

pub in_first : (bytes first found : List ℕ) (offset size : ℕ) → part bytes 0 (length first) ≡ Some first → part first offset size ≡ Some found → part bytes offset size ≡ Some found
in_first bytes first found offset size of is = part_of_part bytes first found 0 offset size offset (omega arith) of is

-- ---- the bytes of a segment

pub size_of : (bytes : List ℕ) (h : ProgramHeader) → length (segment_bytes bytes h) ≡ min h.p_filesz (length bytes - h.p_offset)
size_of bytes h = length-take h.p_filesz (drop h.p_offset bytes) ∙ ap (min h.p_filesz) (length-drop h.p_offset bytes)

pub no_bytes : (bytes : List ℕ) → length bytes ≡ 0 → bytes ≡ []
no_bytes [] none = refl
no_bytes (b ∷ bytes) none = absurd (omega arith)

-- as many as the file has
pub all_of : (bytes found : List ℕ) (h : ProgramHeader) (size : ℕ) → size ≡ min h.p_filesz (length bytes - h.p_offset) → part bytes h.p_offset size ≡ Some found → found ≡ segment_bytes bytes h
all_of bytes found h size is there =
    let (fits, same) = part_there bytes found h.p_offset size there in
    let left = length-drop h.p_offset bytes in
    sym same ∙ by (drop h.p_offset bytes) left
  where
    by : (xs : List ℕ) → length xs ≡ length bytes - h.p_offset → take size xs ≡ take h.p_filesz xs
    by xs left = shorter xs h.p_filesz size (omega (arith, is, left))
      where
        shorter : (xs : List ℕ) (n size : ℕ) → size ≡ min n (length xs) → take size xs ≡ take n xs
        shorter xs n size is = ap (λ (k : ℕ). take k xs) is ∙ min_taken xs n
          where
            min_taken : (xs : List ℕ) (n : ℕ) → take (min n (length xs)) xs ≡ take n xs
            min_taken xs n = by_le (nat_le n (length xs)) refl
              where
                by_le : (b : Bool) → nat_le n (length xs) ≡ b → take (min n (length xs)) xs ≡ take n xs
                by_le true e = let fits = leb-true _ _ e in let is : min n (length xs) ≡ n = omega (arith, fits) in ap (λ (k : ℕ). take k xs) is
                by_le false e =
                    let past : length xs ≤ n = grind (arith, nat_tests, e) in
                    let is : min n (length xs) ≡ length xs = omega (arith, past) in
                    ap (λ (k : ℕ). take k xs) is ∙ (take_all (length xs) xs (omega arith) ∙ sym (take_all n xs past))

-- ---- bytes from a place on

-- those of a part behind a distance
pub rest_of_part : (bytes read : List ℕ) (start i offset : ℕ) → start + i ≡ offset → part bytes start (length read) ≡ Some read → AreFrom bytes offset (drop i read)
rest_of_part bytes read start i offset at of =
    let (fits, same) = part_there bytes read start (length read) of in
    by (nat_le i (length read)) refl same
  where
    by : (b : Bool) → nat_le i (length read) ≡ b → take (length read) (drop start bytes) ≡ read → take (length (drop i read)) (drop offset bytes) ≡ drop i read
    by true e same =
        let inside = leb-true _ _ e in
        let left = length-drop i read in
        let long : i + (length read - i) ≡ length read = omega (arith, inside) in
        ap (λ (n : ℕ). take n (drop offset bytes)) left
        ∙ (ap (λ (n : ℕ). take (length read - i) (drop n bytes)) (sym at)
        ∙ (ap (take (length read - i)) (sym (drop-drop i start bytes))
        ∙ (sym (drop-take i (length read - i) (drop start bytes))
        ∙ (ap (λ (n : ℕ). drop i (take n (drop start bytes))) long ∙ ap (drop i) same))))
    by false e same =
        let past : length read ≤ i = grind (arith, nat_tests, e) in
        let none : drop i read ≡ [] = drop_all i read past in
        ap (λ (xs : List ℕ). take (length xs) (drop offset bytes)) none ∙ sym none

-- at most so many of them
pub fewer_at : (bytes found : List ℕ) (offset n : ℕ) → AreFrom bytes offset found → AreFrom bytes offset (take n found)
fewer_at bytes found offset n is =
    let long = length-take n found in
    let fewer : min n (length found) ≤ length found = omega arith in
    ap (λ (k : ℕ). take k (drop offset bytes)) long
    ∙ (sym (take-take (min n (length found)) (length found) (drop offset bytes) fewer)
    ∙ (ap (take (min n (length found))) is ∙ min_of))
  where
    min_of : take (min n (length found)) found ≡ take n found
    min_of = by (nat_le n (length found)) refl
      where
        by : (b : Bool) → nat_le n (length found) ≡ b → take (min n (length found)) found ≡ take n found
        by true e = let fits = leb-true _ _ e in let is : min n (length found) ≡ n = omega (arith, fits) in ap (λ (k : ℕ). take k found) is
        by false e =
            let past : length found ≤ n = grind (arith, nat_tests, e) in
            let is : min n (length found) ≡ length found = omega (arith, past) in
            ap (λ (k : ℕ). take k found) is ∙ (take_all (length found) found (omega arith) ∙ sym (take_all n found past))

-- and at most those of a segment
pub of_segment : (bytes found : List ℕ) (h : ProgramHeader) (behind : ℕ) → behind + length found ≤ h.p_filesz → AreFrom bytes (h.p_offset + behind) found → found ≡ take (length found) (drop behind (segment_bytes bytes h))
of_segment bytes found h behind fits is =
    let n = length found in
    let long : behind + (h.p_filesz - behind) ≡ h.p_filesz = omega (arith, fits) in
    sym is
    ∙ (ap (take n) (sym (drop-drop behind h.p_offset bytes))
    ∙ (sym (take-take n (h.p_filesz - behind) (drop behind (drop h.p_offset bytes)) (omega (arith, fits)))
    ∙ ap (take n) (sym (drop-take behind (h.p_filesz - behind) (drop h.p_offset bytes)) ∙ ap (λ (k : ℕ). drop behind (take k (drop h.p_offset bytes))) long)))

-- ---- what the code found

pub if_parts : (bytes : List ℕ) (offset size : ℕ) (parts : List Part) → ArePartsOf bytes parts → (o : Option (Bor (List ℕ))) → option_map (λ found. found.now) o ≡ in_parts offset size parts → IfSome o (λ found. part bytes offset size ≡ Some found.now)
if_parts bytes offset size parts are (Some found) is = in_parts_there bytes found.now offset size parts are (sym is)
if_parts bytes offset size parts are None is = tt

pub if_all : (bytes : List ℕ) (h : ProgramHeader) (size : ℕ) → size ≡ min h.p_filesz (length bytes - h.p_offset) → (o : Option (Bor (List ℕ))) → IfSome o (λ found. part bytes h.p_offset size ≡ Some found.now) → IfSome o (λ found. found.now ≡ segment_bytes bytes h)
if_all bytes h size is (Some found) there = all_of bytes found.now h size is there
if_all bytes h size is None there = tt

-- a part among those that are left
pub part_here : (bytes : List ℕ) (parts : List FilePart) (i : ℕ) (d : FilePart) → i < length parts → ArePartsOf bytes (parts_view (drop i parts)) → IsPartOf bytes (part_view (get_or parts i d)) × ArePartsOf bytes (parts_view (drop (i + 1) parts))
part_here bytes parts i d inside are =
    let both : ArePartsOf bytes (parts_view (get_or parts i d ∷ drop (suc i) parts)) = subst (λ (xs : List FilePart). ArePartsOf bytes (parts_view xs)) (drop-cons parts i d inside) are in
    (both.0, rw add-one both.1)

pub some_there : {X : Type 0} (o : Option X) (x : X) (P : X → Type 0) → o ≡ Some x → IfSome o P → P x
some_there (Some y) x P is here = let same : y ≡ x = cc in subst P same here
some_there None x P is here = absurd (cc)

pub if_some : {X : Type 0} (o : Option X) (P Q : X → Type 0) → ((x : X) → P x → Q x) → IfSome o P → IfSome o Q
if_some (Some x) P Q next here = next x here
if_some None P Q next here = tt
