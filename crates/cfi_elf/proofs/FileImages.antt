-- The file that is read of parts is the one that is read of all bytes, unless it needs bytes that were not read.
use Rattle.std.proofs.Common.{◌≡◌, ◌∙◌, ◌+◌, Bool, true, false, ℕ, List, [], length, Option, Some, None, Result, Ok, Err, option_map, refl, sym, ap, subst}
use Rattle.std.specs.Prelude.{min, not, nat_le, nat_lt, nat_eq, ◌==◌, bit_and, codes, slice_range, if◌then◌else◌}
use Rattle.std.specs.List.{starts_with}
use Rattle.cfi_read_core.specs.ByteOrder.{is_big}
use Rattle.cfi_elf.specs.declared.error.ElfError.{ElfError}
use Rattle.cfi_elf.specs.declared.error.ElfError.TheVariants.{NotElf, HeaderCut, UnknownClass, UnknownDataEncoding, UnknownVersion, Relocatable, Core, SectionOutOfBounds, Compressed}
use Rattle.cfi_elf.specs.declared.file_header.Identification.{Identification}
use Rattle.cfi_elf.specs.declared.file_header.FileHeader.{FileHeader}
use Rattle.cfi_elf.specs.declared.section_header.SectionHeader.{SectionHeader}
use Rattle.cfi_elf.specs.Headers.{file_header, file_header_bytes}
use Rattle.cfi_elf.specs.Images.{Image, IsImageOf, IsRead, bytes_at, if_read, whole}
use Rattle.cfi_elf.specs.Options.{meaning, or_else}
use Rattle.cfi_elf.specs.Results.{and_then, if_found, or_missing}
use Rattle.cfi_elf.specs.ElfFiles.{File, any_file, byte_orders, classes, elf_file, elf_file_of, file_by, header_bytes, ident, identification, magic, with_addresses}
use Rattle.cfi_elf.specs.Sections.{Section, header_named, section_address, section_named, section_by_header}
use Rattle.cfi_elf.specs.SectionContents.{address_of, contents}
use Rattle.cfi_elf.proofs.SameResults.{Same, ok_read, same_err, same_if, same_ok, same_or_missing, same_then, then_read}
use Rattle.cfi_elf.proofs.Images.{in_whole, same_bytes_at}

-- ---- results one after the other

then_regrouped : {A B C : Type 0} (r : Result A ElfError) (f : A → Result B ElfError) (g : B → Result C ElfError) → and_then (and_then r f) g ≡ and_then r (λ x. and_then (f x) g)
then_regrouped (Ok x) f g = refl
then_regrouped (Err e) f g = refl

then_each : {A B : Type 0} (r : Result A ElfError) (f g : A → Result B ElfError) → ((x : A) → f x ≡ g x) → and_then r f ≡ and_then r g
then_each (Ok x) f g each = each x
then_each (Err e) f g each = refl

then_ok : {A : Type 0} (r : Result A ElfError) → and_then r (λ x. Ok x) ≡ r
then_ok (Ok x) = refl
then_ok (Err e) = refl

-- ---- what comes of a file, by its header

addressed : {A : Type 0} (a b c : Bool) (e : ElfError) (f f' : File) (g g' : File → Result A ElfError) → g f ≡ g' f' →
    and_then (if a then Err e else if b then Err Relocatable else if c then Err Core else Ok f) g ≡ and_then (if a then Err e else if b then Err Relocatable else if c then Err Core else Ok f') g'
addressed true b c e f f' g g' same = refl
addressed false true c e f f' g g' same = refl
addressed false false true e f f' g g' same = refl
addressed false false false e f f' g g' same = same

cut_then : {A : Type 0} (b : Bool) (r r' : Result File ElfError) (g g' : File → Result A ElfError) → and_then r g ≡ and_then r' g' →
    and_then (if b then Err HeaderCut else r) g ≡ and_then (if b then Err HeaderCut else r') g'
cut_then true r r' g g' same = refl
cut_then false r r' g g' same = same

any_then : {A : Type 0} (image image' : Image) (bytes : List ℕ) (g g' : File → Result A ElfError) →
    ((ident : Identification) (header : FileHeader) → g (record { image = image; identification = ident; header = header }) ≡ g' (record { image = image'; identification = ident; header = header })) →
    and_then (any_file image bytes) g ≡ and_then (any_file image' bytes) g'
unfolding any_file
any_then image image' bytes g g' same =
    let header = λ (ident : Identification). file_header ident.class (is_big ident.«data») bytes in
    let file : Image → Identification → Result File ElfError = λ image ident. Ok (record { image = image; identification = ident; header = header ident }) in
    let short = λ (ident : Identification). nat_lt (length bytes) (file_header_bytes ident.class) in
    let made = λ (image : Image) (ident : Identification). (if short ident then Err HeaderCut else file image ident) in
    then_regrouped (identification bytes) (made image) g
    ∙ (then_each (identification bytes) (λ ident. and_then (made image ident) g) (λ ident. and_then (made image' ident) g')
    (λ ident. cut_then (short ident) (file image ident) (file image' ident) g g' (same ident (header ident)))
    ∙ sym (then_regrouped (identification bytes) (made image') g'))

file_then : {A : Type 0} (image image' : Image) (bytes : List ℕ) (g g' : File → Result A ElfError) →
    ((ident : Identification) (header : FileHeader) → g (record { image = image; identification = ident; header = header }) ≡ g' (record { image = image'; identification = ident; header = header })) →
    and_then (file_by image bytes) g ≡ and_then (file_by image' bytes) g'
unfolding file_by
file_then image image' bytes g g' same =
    then_regrouped (any_file image bytes) with_addresses g
    ∙ (any_then image image' bytes (λ f. and_then (with_addresses f) g) (λ f. and_then (with_addresses f) g')
    (λ ident header.
    let kind = header.kind in
    addressed (not (kind.e_version == 1)) (kind.e_type == 1) (kind.e_type == 4) (UnknownVersion kind.e_version) _ _ g g' (same ident header))
    ∙ sym (then_regrouped (any_file image' bytes) with_addresses g'))

-- ---- the header needs no more bytes

same_identification : (bytes : List ℕ) → Same (identification bytes) (identification bytes)
unfolding identification
same_identification bytes =
    let class = ident bytes (codes "EI_CLASS") in
    let order = ident bytes (codes "EI_DATA") in
    let version = ident bytes (codes "EI_VERSION") in
    same_if (not (starts_with nat_eq bytes magic)) (same_err NotElf refl)
    (same_if (nat_lt (length bytes) 16) (same_err HeaderCut refl)
    (same_then (same_or_missing (UnknownClass class) refl (meaning classes class)) (λ class.
    same_then (same_or_missing (UnknownDataEncoding order) refl (meaning byte_orders order)) (λ order.
    same_if (version == 1) (same_ok (record { class = class; «data» = order })) (same_err (UnknownVersion version) refl)))))

same_addressed : (file : File) → Same (with_addresses file) (with_addresses file)
same_addressed file =
    same_if (not (file.header.kind.e_version == 1)) (same_err (UnknownVersion file.header.kind.e_version) refl)
    (same_if (file.header.kind.e_type == 1) (same_err Relocatable refl) (same_if (file.header.kind.e_type == 4) (same_err Core refl) (same_ok file)))

same_any : (image : Image) (bytes : List ℕ) → Same (any_file image bytes) (any_file image bytes)
unfolding any_file
same_any image bytes =
    same_then (same_identification bytes) (λ ident.
    same_if (nat_lt (length bytes) (file_header_bytes ident.class)) (same_err HeaderCut refl)
    (same_ok (record { image = image; identification = ident; header = file_header ident.class (is_big ident.«data») bytes })))

same_by_header : (image : Image) (bytes : List ℕ) → Same (file_by image bytes) (file_by image bytes)
unfolding file_by
same_by_header image bytes = same_then (same_any image bytes) same_addressed

-- ---- the file

-- a file keeps the image that it is read of
pub image_kept : (image : Image) (file : File) → elf_file_of image ≡ Ok file → file.image ≡ image
unfolding elf_file_of
image_kept image file is = ap (image_or image) (sym (ap (λ (r : Result File ElfError). and_then r (λ f. Ok f.image)) is) ∙ (kept ∙ ap (λ (r : Result File ElfError). and_then r (λ f. Ok image)) is))
  where
    image_or : Image → Result Image ElfError → Image
    image_or other (Ok image) = image
    image_or other (Err e) = other

    kept : and_then (and_then (header_bytes image) (file_by image)) (λ f. Ok f.image) ≡ and_then (and_then (header_bytes image) (file_by image)) (λ f. Ok image)
    kept =
        then_regrouped (header_bytes image) (file_by image) (λ f. Ok f.image)
        ∙ (then_each (header_bytes image) _ _ (λ bytes. file_then image image bytes (λ f. Ok f.image) (λ f. Ok image) (λ ident header. refl))
        ∙ sym (then_regrouped (header_bytes image) (file_by image) (λ f. Ok image)))

module _ {image : Image} {bytes : List ℕ} (of : IsImageOf image bytes) where
  same_header_bytes : Same (header_bytes image) (header_bytes (whole bytes))
  unfolding header_bytes
  same_header_bytes =
      subst (λ (n : ℕ). Same (bytes_at image 0 (min image.length 64) HeaderCut) (bytes_at (whole bytes) 0 (min n 64) HeaderCut)) of.length_is
      (same_bytes_at of 0 (min image.length 64) HeaderCut refl)

  by_bytes : Same (and_then (header_bytes image) (file_by (whole bytes))) (elf_file bytes)
  unfolding elf_file_of
  by_bytes = same_then same_header_bytes (same_by_header (whole bytes))

  in_whole_then : and_then (elf_file_of image) (λ file. Ok (in_whole bytes file)) ≡ and_then (header_bytes image) (file_by (whole bytes))
  unfolding elf_file_of
  in_whole_then =
      then_regrouped (header_bytes image) (file_by image) (λ file. Ok (in_whole bytes file))
      ∙ then_each (header_bytes image) _ (file_by (whole bytes))
      (λ found. file_then image (whole bytes) found (λ file. Ok (in_whole bytes file)) (λ file. Ok file) (λ ident header. refl) ∙ then_ok (file_by (whole bytes) found))

  -- the file that was read, with all bytes, or its error
  pub same_file : IsRead (elf_file_of image) → and_then (elf_file_of image) (λ file. Ok (in_whole bytes file)) ≡ elf_file bytes
  same_file read =
      in_whole_then
      ∙ by_bytes.same (subst (λ (r : Result File ElfError). IsRead r) in_whole_then (then_read (elf_file_of image) (λ file. Ok (in_whole bytes file)) read (λ file. ok_read (in_whole bytes file))))

  pub whole_file_read : IsRead (elf_file bytes)
  whole_file_read = by_bytes.read

  pub file_found : (file : File) → elf_file_of image ≡ Ok file → (elf_file bytes ≡ Ok (in_whole bytes file)) × IsImageOf file.image bytes
  file_found file is =
      let read : IsRead (elf_file_of image) = subst (λ (r : Result File ElfError). IsRead r) (sym is) (ok_read file) in (
        sym (same_file read) ∙ ap (λ (r : Result File ElfError). and_then r (λ file. Ok (in_whole bytes file))) is,
        subst (λ (i : Image). IsImageOf i bytes) (sym (image_kept image file is)) of,
      )

  pub file_refused : (e : ElfError) → elf_file_of image ≡ Err e → IsRead (elf_file_of image) → elf_file bytes ≡ Err e
  file_refused e is read = sym (same_file read) ∙ ap (λ (r : Result File ElfError). and_then r (λ file. Ok (in_whole bytes file))) is

-- ---- the address of a section of a whole file is that of the section

abbrev address_found : Option Section → Result (Option ℕ) ElfError
address_found found = Ok (option_map (λ section. section.address) found)

of_contents : (a b c : Bool) (address offset size : ℕ) (bytes : List ℕ) →
    and_then (if a then Ok address else if b then Err Compressed else if c then Ok address else Err SectionOutOfBounds) (λ address. Ok (Some address))
    ≡ and_then (and_then (and_then
    (if a then Ok [] else if b then Err Compressed else and_then (if c then if_read offset size (or_else (if c then Some bytes else None) None) else Ok None) (or_missing SectionOutOfBounds))
    (λ bytes. Ok (record { address = address; bytes = bytes }))) (λ section. Ok (Some section))) address_found
of_contents true b c address offset size bytes = refl
of_contents false true c address offset size bytes = refl
of_contents false false true address offset size bytes = refl
of_contents false false false address offset size bytes = refl

module _ (bytes : List ℕ) (file : File) where
  abbrev all : File
  all = in_whole bytes file

  address_of_header : (found : Option SectionHeader) → if_found (address_of all) found ≡ and_then (if_found (section_by_header all) found) address_found
  unfolding address_of contents bytes_at
  address_of_header None = refl
  address_of_header (Some header) =
      let offset = header.sh_offset in
      let size = header.sh_size in
      of_contents (header.sh_type == 8) (not (bit_and header.sh_flags 0x800 == 0)) (nat_le (offset + size) (length bytes)) header.sh_addr offset size (slice_range bytes offset (offset + size))

  pub address_of_section : (name : List ℕ) → section_address all name ≡ and_then (section_named all name) (λ found. Ok (option_map (λ section. section.address) found))
  unfolding section_address section_named
  address_of_section name =
      then_each (header_named all name) (if_found (address_of all)) _ address_of_header
      ∙ sym (then_regrouped (header_named all name) (if_found (section_by_header all)) address_found)
