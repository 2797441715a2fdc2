-- Parts that are read of a file, one after the other: some bytes have all of them.
use Rattle.std.proofs.Common.{◌≡◌, ◌∙◌, ◌≤◌, ◌+◌, ◌-◌, ◌⊎◌, inl, inr, ℕ, Bool, true, false, List, [], ◌∷◌, ◌++◌, Option, Some, None, Result, Ok, Err, IfOk, IfSome, length, take, drop, refl, sym, ap, arith, length-append, subst, nat_le, if◌then◌else◌, ◌&&◌, ◌||◌, replicate}
use borrow.Author.Tests.{leb-true}
use Rattle.std.proofs.lemmas.Bool.Decides.{nat_tests}
use Rattle.std.proofs.lemmas.List.{length-replicate, take-append-drop}
use Rattle.std.proofs.Math.Seq.{take-append-add, take-append_seam}
use Rattle.cfi_elf.specs.declared.image.FilePart.{FilePart}
use Rattle.cfi_elf.specs.Images.{ArePartsOf, Image, IsPartOf, Part, part_view, parts_view}
use Rattle.cfi_elf.specs.Fields.{part}
use Rattle.cfi_object.specs.FileInputs.{IsLength, IsPartRead}
use Rattle.cfi_text.specs.Readings.{AreLeft}
use Rattle.cfi_object.specs.FileParts.{AreOfInput, IsLongerTo, IsWhole, IsWithFree, IsWithMore, IsWithRange, are_apart, goes_on, is_apart, is_free}
use Rattle.cfi_object.proofs.Splices.{spliced, spliced_after, spliced_before, spliced_length, spliced_part}

-- ---- parts of bytes

-- that these are the bytes from the offset on
pub record IsAt (bytes : List ℕ) (offset : ℕ) (read : List ℕ) : Type 0 where
  pub within : offset + length read ≤ length bytes
  pub same : take (length read) (drop offset bytes) ≡ read

chosen : (b : Bool) (xs ys : List ℕ) → (if b then Some xs else None) ≡ Some ys → (b ≡ true) × (xs ≡ ys)
chosen true xs ys e = (refl, cc)
chosen false xs ys e = cc

part_is : (bytes : List ℕ) (o : ℕ) (xs : List ℕ) → IsAt bytes o xs → part bytes o (length xs) ≡ Some xs
part_is bytes o xs at =
    let size : o + length xs - o ≡ length xs = omega arith in
    let fits : nat_le (o + length xs) (length bytes) ≡ true = grind (arith, nat_tests, at.within) in
    rw (fits, size, at.same) refl

is_part : (bytes : List ℕ) (o n : ℕ) (xs : List ℕ) → part bytes o n ≡ Some xs → length xs ≡ n → IsAt bytes o xs
is_part bytes o n xs e size =
    let (fits, same) = chosen (nat_le (o + n) (length bytes)) _ xs e in
    let amount : o + n - o ≡ length xs = omega arith in
    let within : o + n ≤ length bytes = grind (arith, nat_tests, fits) in
    record { within = omega arith; same = rw amount at same }

-- ---- a part that is put in place of bytes of which none was read

module _ (bytes : List ℕ) (o : ℕ) (xs : List ℕ) (fits : o + length xs ≤ length bytes) where
  abbrev with_part : List ℕ
  with_part = spliced bytes o xs

  pub part_put : IsAt with_part o xs
  part_put = record { within = rw (spliced_length bytes o xs fits) fits; same = spliced_part bytes o xs fits }

  pub part_kept : (i : ℕ) (ys : List ℕ) → (o + length xs ≤ i) ⊎ (i + length ys ≤ o) → IsAt bytes i ys → IsAt with_part i ys
  part_kept i ys (inl behind) at = record {
    within = rw (spliced_length bytes o xs fits) at.within;
    same = rw (spliced_after bytes o xs i fits behind) at.same;
  }
  part_kept i ys (inr before) at = record {
    within = rw (spliced_length bytes o xs fits) at.within;
    same = rw (spliced_before bytes o xs i (length ys) fits before) at.same;
  }

-- ---- all parts

both : (a b : Bool) → (a && b) ≡ true → (a ≡ true) × (b ≡ true)
both true b e = (refl, e)
both false b e = cc

one_of : (a b : Bool) → (a || b) ≡ true → (a ≡ true) ⊎ (b ≡ true)
one_of true b e = inl refl
one_of false b e = inr e

apart : (start end : ℕ) (read : Part) → is_apart start end read ≡ true → (end ≤ read.offset) ⊎ (read.offset + length read.bytes ≤ start)
apart start end read e =
    elim (one_of (nat_le end read.offset) (nat_le (read.offset + length read.bytes) start) e) [
      | inl before ↦ inl (leb-true end read.offset before)
      | inr behind ↦ inr (leb-true (read.offset + length read.bytes) start behind)
    ]

part_stays : (bytes : List ℕ) (o : ℕ) (xs : List ℕ) → o + length xs ≤ length bytes → (read : Part) → is_apart o (o + length xs) read ≡ true → IsPartOf bytes read → IsPartOf (spliced bytes o xs) read
part_stays bytes o xs fits read e is =
    let at = is_part bytes read.offset (length read.bytes) read.bytes is refl in
    part_is (spliced bytes o xs) read.offset read.bytes (part_kept bytes o xs fits read.offset read.bytes (apart o (o + length xs) read e) at)

parts_stay : (bytes : List ℕ) (o : ℕ) (xs : List ℕ) → o + length xs ≤ length bytes → (parts : List Part) → are_apart o (o + length xs) parts ≡ true → ArePartsOf bytes parts → ArePartsOf (spliced bytes o xs) parts
parts_stay bytes o xs fits [] e are = tt
parts_stay bytes o xs fits (read ∷ parts) e (is, are) =
    let (first, others) = both (is_apart o (o + length xs) read) (are_apart o (o + length xs) parts) e in
    (part_stays bytes o xs fits read first is, parts_stay bytes o xs fits parts others are)

part_more : (bytes : List ℕ) (parts : List Part) (read : Part) → ArePartsOf bytes parts → IsPartOf bytes read → ArePartsOf bytes (parts ++ read ∷ [])
part_more bytes [] read are is = (is, tt)
part_more bytes (first ∷ parts) read (one, are) is = (one, part_more bytes parts read are is)

-- the facts of a test
pub record IsFree (image : Image) (start end : ℕ) : Type 0 where
  pub rising : start ≤ end
  pub within : end ≤ image.length
  pub behind : length image.first ≤ start
  pub apart : are_apart start end image.parts ≡ true

pub free : (image : Image) (start end : ℕ) → is_free image start end ≡ true → IsFree image start end
free image start end e =
    let (rising, more) = both (nat_le start end) _ e in
    let (within, others) = both (nat_le end image.length) _ more in
    let (behind, apart) = both (nat_le (length image.first) start) _ others in
    record {
      rising = leb-true start end rising;
      within = leb-true end image.length within;
      behind = leb-true (length image.first) start behind;
      apart = apart;
    }

-- ---- what was read before is of the bytes with one more part

abbrev pub put : Option (List ℕ) → List ℕ → ℕ → List ℕ → List ℕ
put None bytes o xs = spliced bytes o xs
put (Some all) bytes o xs = bytes

-- the part is where it was read
put_part : (known : Option (List ℕ)) (bytes : List ℕ) (o : ℕ) (xs : List ℕ) → o + length xs ≤ length bytes → AreLeft known bytes → IfSome known (λ all. part all o (length xs) ≡ Some xs) → IsAt (put known bytes o xs) o xs
put_part None bytes o xs fits left read = part_put bytes o xs fits
put_part (Some all) bytes o xs fits left read = is_part bytes o (length xs) xs (subst (λ (l : List ℕ). part l o (length xs) ≡ Some xs) (sym left) read) refl

put_left : (known : Option (List ℕ)) (bytes : List ℕ) (o : ℕ) (xs : List ℕ) → AreLeft known bytes → AreLeft known (put known bytes o xs)
put_left None bytes o xs left = tt
put_left (Some all) bytes o xs left = left

put_length : (known : Option (List ℕ)) (bytes : List ℕ) (o : ℕ) (xs : List ℕ) → o + length xs ≤ length bytes → length (put known bytes o xs) ≡ length bytes
put_length None bytes o xs fits = spliced_length bytes o xs fits
put_length (Some all) bytes o xs fits = refl

put_first : (known : Option (List ℕ)) (bytes : List ℕ) (o : ℕ) (xs first : List ℕ) → o + length xs ≤ length bytes → length first ≤ o → IsAt bytes 0 first → IsAt (put known bytes o xs) 0 first
put_first None bytes o xs first fits below at = part_kept bytes o xs fits 0 first (inr (omega arith)) at
put_first (Some all) bytes o xs first fits below at = at

put_parts : (known : Option (List ℕ)) (bytes : List ℕ) (o : ℕ) (xs : List ℕ) → o + length xs ≤ length bytes → (parts : List Part) → are_apart o (o + length xs) parts ≡ true → ArePartsOf bytes parts → ArePartsOf (put known bytes o xs) parts
put_parts None bytes o xs fits parts e are = parts_stay bytes o xs fits parts e are
put_parts (Some all) bytes o xs fits parts e are = are

-- the first bytes go on
longer_first : (bytes first xs : List ℕ) → IsAt bytes 0 first → IsAt bytes (length first) xs → IsAt bytes 0 (first ++ xs)
longer_first bytes first xs at next =
    let split : first ++ drop (length first) bytes ≡ bytes = ap (λ (l : List ℕ). l ++ drop (length first) bytes) (sym at.same) ∙ take-append-drop (length first) bytes in
    let size : length (first ++ xs) ≡ length first + length xs = length-append first xs in
    record {
      within = omega (arith, size, next.within);
      same =
          ap (λ (k : ℕ). take k bytes) size
          ∙ (ap (λ (l : List ℕ). take (length first + length xs) l) (sym split)
          ∙ (take-append-add first (drop (length first) bytes) (length xs) ∙ ap (λ (l : List ℕ). first ++ l) next.same));
    }

-- ---- what was read, with one more part

pub with_more : (known : Option (List ℕ)) (image : Image) (o end : ℕ) (xs : List ℕ) → is_free image o end ≡ true → IsPartRead known o (end - o) xs → AreOfInput known image →
    AreOfInput known (record image { parts = image.parts ++ record { offset = o; bytes = xs } ∷ [] })
with_more known image o end xs e (size, read) (bytes, left, of) =
    let is = free image o end e in
    let reached : o + length xs ≡ end = omega arith in
    let fits : o + length xs ≤ length bytes = omega (arith, of.length_is) in
    let at = put_part known bytes o xs fits left (rw size read) in
    let apart : are_apart o (o + length xs) image.parts ≡ true = rw reached is.apart in
    let first = is_part bytes 0 (length image.first) image.first of.first_is refl in (
      put known bytes o xs,
      put_left known bytes o xs left,
      record {
        length_is = of.length_is ∙ sym (put_length known bytes o xs fits);
        first_is = part_is (put known bytes o xs) 0 image.first (put_first known bytes o xs image.first fits is.behind first);
        parts_are = part_more (put known bytes o xs) image.parts (record { offset = o; bytes = xs }) (put_parts known bytes o xs fits image.parts apart of.parts_are) (part_is (put known bytes o xs) o xs at);
      },
    )

pub with_longer : (known : Option (List ℕ)) (image : Image) (end : ℕ) (xs : List ℕ) → is_free image (length image.first) end ≡ true → IsPartRead known (length image.first) (end - length image.first) xs → AreOfInput known image →
    AreOfInput known (record image { first = image.first ++ xs })
with_longer known image end xs e (size, read) (bytes, left, of) =
    let o = length image.first in
    let is = free image o end e in
    let reached : o + length xs ≡ end = omega arith in
    let fits : o + length xs ≤ length bytes = omega (arith, of.length_is) in
    let at = put_part known bytes o xs fits left (rw size read) in
    let apart : are_apart o (o + length xs) image.parts ≡ true = rw reached is.apart in
    let first = is_part bytes 0 o image.first of.first_is refl in (
      put known bytes o xs,
      put_left known bytes o xs left,
      record {
        length_is = of.length_is ∙ sym (put_length known bytes o xs fits);
        first_is = part_is (put known bytes o xs) 0 (image.first ++ xs) (longer_first (put known bytes o xs) image.first xs (put_first known bytes o xs image.first fits is.behind first) at);
        parts_are = put_parts known bytes o xs fits image.parts apart of.parts_are;
      },
    )

-- ---- the first part

pub with_first : (known : Option (List ℕ)) (n size : ℕ) (first : List ℕ) → size ≤ n → IsLength known n → IsPartRead known 0 size first → AreOfInput known (record { length = n; first = first; parts = [] })
with_first None n size first within length_is (read, unknown) =
    let zeros = replicate (n - length first) 0 in
    let sum : n ≡ length (first ++ zeros) = omega (arith, length-append first zeros, length-replicate {A = ℕ} (n - length first) 0) in (
      first ++ zeros,
      tt,
      record {
        length_is = sum;
        first_is = part_is (first ++ zeros) 0 first (record { within = omega arith; same = take-append_seam first zeros });
        parts_are = tt;
      },
    )
with_first (Some all) n size first within length_is (read, known) =
    (all, refl, record { length_is = length_is; first_is = rw (← read) at known; parts_are = tt })

-- ---- the same by the values of the code

pub first_read : (known : Option (List ℕ)) (n size : ℕ) (first : List ℕ) (parts : List FilePart) → parts ≡ [] → size ≤ n → IsLength known n → IsPartRead known 0 size first →
    AreOfInput known (record { length = n; first = first; parts = parts_view parts })
first_read known n size first parts none within length_is read =
    subst (λ (parts : List FilePart). AreOfInput known (record { length = n; first = first; parts = parts_view parts })) (sym none) (with_first known n size first within length_is read)

pub longer_read : (known : Option (List ℕ)) (image : Image) (end : ℕ) (xs more : List ℕ) → more ≡ image.first ++ xs → is_free image (length image.first) end ≡ true → IsPartRead known (length image.first) (end - length image.first) xs →
    AreOfInput known image → AreOfInput known (record image { first = more })
longer_read known image end xs more e free read of =
    subst (λ (first : List ℕ). AreOfInput known (record image { first = first })) (sym e) (with_longer known image end xs free read of)

more_parts : (parts : List FilePart) (o : ℕ) (read : FilePart) → read.offset ≡ o → parts_view (parts ++ read ∷ []) ≡ parts_view parts ++ record { offset = o; bytes = read.bytes.items } ∷ []
more_parts [] o read e = λ i. record { offset = e i; bytes = read.bytes.items } ∷ []
more_parts (part ∷ parts) o read e = ap (λ (l : List Part). part_view part ∷ l) (more_parts parts o read e)

pub more_read : (known : Option (List ℕ)) (n : ℕ) (first : List ℕ) (parts more : List FilePart) (read : FilePart) (end : ℕ) → more ≡ parts ++ read ∷ [] →
    is_free (record { length = n; first = first; parts = parts_view parts }) read.offset end ≡ true → IsPartRead known read.offset (end - read.offset) read.bytes.items →
    AreOfInput known (record { length = n; first = first; parts = parts_view parts }) → AreOfInput known (record { length = n; first = first; parts = parts_view more })
more_read known n first parts more read end e free part of =
    subst (λ (parts : List Part). AreOfInput known (record { length = n; first = first; parts = parts })) (sym (ap parts_view e ∙ more_parts parts read.offset read refl))
    (with_more known (record { length = n; first = first; parts = parts_view parts }) read.offset end read.bytes.items free part of)

-- ---- which bytes were read

pub longer_to : (known : Option (List ℕ)) (image : Image) (end : ℕ) (xs more : List ℕ) → more ≡ image.first ++ xs → IsPartRead known (length image.first) (end - length image.first) xs → IsLongerTo end image (record image { first = more })
longer_to known image end xs more e (size, read) = record { read = xs; has = size; is = ap (λ (first : List ℕ). record image { first = first }) e }

abbrev image_by : ℕ → List ℕ → List Part → Image
image_by n first parts = record { length = n; first = first; parts = parts }

pub more_to : (known : Option (List ℕ)) (n : ℕ) (first : List ℕ) (parts more : List FilePart) (read : FilePart) (end : ℕ) → more ≡ parts ++ read ∷ [] → IsPartRead known read.offset (end - read.offset) read.bytes.items →
    IsWithMore read.offset end (image_by n first (parts_view parts)) (image_by n first (parts_view more))
more_to known n first parts more read end e (size, part) = record {
  read = read.bytes.items;
  has = size;
  is = ap (image_by n first) (ap parts_view e ∙ more_parts parts read.offset read refl);
}

pub ok_then : {A E : Type 0} {P Q : A → Type 0} (r : Result A E) → ((x : A) → P x → Q x) → IfOk r P → IfOk r Q
ok_then (Ok x) next given = next x given
ok_then (Err e) next given = tt

pub free_more : (start end : ℕ) (old new : Image) → is_free old start end ≡ true → IsWithMore start end old new → IsWithFree start end old new
free_more start end old new free is = record { more = λ e. is; kept = λ e. cc }

pub free_kept : (start end : ℕ) (old new : Image) → is_free old start end ≡ false → new ≡ old → IsWithFree start end old new
free_kept start end old new none same = record { more = λ e. cc; kept = λ e. same }

pub range_longer : (offset end : ℕ) (old new : Image) → goes_on old offset end ≡ true → IsLongerTo end old new → IsWithRange offset end old new
range_longer offset end old new on is = record { longer = λ e. is; more = λ e f. cc; all = λ e f. cc }

pub range_more : (offset end : ℕ) (old new : Image) → goes_on old offset end ≡ false → is_free old offset end ≡ true → IsWithMore offset end old new → IsWithRange offset end old new
range_more offset end old new off free is = record { longer = λ e. cc; more = λ e f. is; all = λ e f. cc }

pub range_all : (offset end : ℕ) (old new : Image) → goes_on old offset end ≡ false → is_free old offset end ≡ false → IsWhole new → IsWithRange offset end old new
range_all offset end old new off none is = record { longer = λ e. cc; more = λ e f. cc; all = λ e f. is }

-- ---- all bytes

pub all_taken : (xs : List ℕ) → take (length xs) xs ≡ xs
all_taken [] = refl
all_taken (x ∷ xs) = ap (λ (l : List ℕ). x ∷ l) (all_taken xs)

pub whole_read : (known : Option (List ℕ)) (n : ℕ) (bytes : List ℕ) → IsLength known n → IsPartRead known 0 n bytes → AreLeft known bytes
whole_read None n bytes of read = tt
whole_read (Some all) n bytes of (size, read) =
    let at = is_part all 0 n bytes read size in
    let same : length bytes ≡ length all = size ∙ of in
    sym at.same ∙ (ap (λ (k : ℕ). take k all) same ∙ all_taken all)

pub whole_result : {V E : Type 0} (items : V → List ℕ) (known : Option (List ℕ)) (n : ℕ) (r : Result V E) → IsLength known n → IfOk r (λ part. IsPartRead known 0 n (items part)) → IfOk r (λ bytes. AreLeft known (items bytes))
whole_result items known n (Ok part) of read = whole_read known n (items part) of read
whole_result items known n (Err e) of read = tt
