-- What is found of a file of code by its parts is what is found by all of its bytes.
use Rattle.std.proofs.Common.{◌≡◌, ◌∙◌, ℕ, Bool, true, false, true≢false, List, length, Option, Some, None, Result, Ok, Err, IfOk, refl, sym, ap, subst}
use borrow.Author.Tests.{eqb-true}
use Rattle.std.specs.Prelude.{not, ◌&&◌, ◌||◌, if◌then◌else◌}
use Rattle.std.specs.Option.{option_and_then}
use Rattle.std.specs.Result.{result_ok}
use Rattle.cfi_elf.specs.declared.error.ElfError.{ElfError}
use Rattle.cfi_elf.specs.declared.error.ElfError.TheVariants.{NotRead}
use Rattle.cfi_elf.specs.DebugLinks.{debug_link}
use Rattle.cfi_elf.specs.ElfFiles.{File, elf_file, elf_file_of}
use Rattle.cfi_elf.specs.Images.{Image, IsImageOf, IsRead, whole}
use Rattle.cfi_elf.specs.BuildIds.{build_id}
use Rattle.cfi_elf.specs.SymbolTables.{symbol_table}
use Rattle.cfi_elf.proofs.FileImages.{file_found, file_refused}
use Rattle.cfi_elf.proofs.Images.{in_whole}
use Rattle.cfi_object.specs.CallFrames.{debug_frame_of, eh_frame_of}
use Rattle.cfi_object.proofs.ReadParts.{whole_read}
use Rattle.cfi_object.proofs.SameBuilds.{same_build, same_link}
use Rattle.cfi_object.specs.NeededParts.{AreEnough, HasAll}
use Rattle.cfi_mapped.specs.declared.code_parts.CodeParts.{CodeParts}
use Rattle.cfi_mapped.specs.CodeParts.{ArePartsOfBytes, beginning_in, is_whole, parts_of}
use Rattle.cfi_mapped.specs.Enough.{are_enough, has_needed, has_needed_of, is_lack, is_read, needed_of_code}
use Rattle.cfi_mapped.specs.FileBuilds.{id_in, link_in, there}

-- ---- results that need no more bytes

read_by : {A : Type 0} (r : Result A ElfError) → is_read r ≡ true → IsRead r
read_by {A = A} r is offset size same = true≢false (sym is ∙ ap (λ (r : Result A ElfError). is_read r) same)

is_by : {A : Type 0} (r : Result A ElfError) → IsRead r → is_read r ≡ true
is_by (Ok x) read = refl
is_by (Err e) read = by e read
  where
    by : {A : Type 0} (e : ElfError) → IsRead {A = A} (Err e) → not (is_lack e) ≡ true
    by (NotRead offset size) read = absurd (read offset size refl)
    by e read = refl

both : (a b : Bool) → (a && b) ≡ true → (a ≡ true) × (b ≡ true)
both true b is = (refl, is)
both false b is = absurd (cc)

joined : (a b : Bool) → a ≡ true → b ≡ true → (a && b) ≡ true
joined a b first second = ap (λ (a : Bool). a && b) first ∙ second

needed_by : (file : File) → has_needed file ≡ true → HasAll needed_of_code file
needed_by file is =
    let (build, others) = both (is_read (build_id file)) _ is in
    let (link, frames) = both (is_read (debug_link file)) _ others in
    let (eh_frame, more) = both (is_read (eh_frame_of file)) _ frames in
    let (debug_frame, symbols) = both (is_read (debug_frame_of file)) _ more in
    record {
      frames = record { eh_frame = read_by (eh_frame_of file) eh_frame; debug_frame = read_by (debug_frame_of file) debug_frame };
      build = record { id = λ needed. read_by (build_id file) build; link = λ needed. read_by (debug_link file) link };
      symbols = λ needed. read_by (symbol_table file) symbols;
      plt = λ needed. absurd (true≢false (sym needed));
    }

has_by : (file : File) → HasAll needed_of_code file → has_needed file ≡ true
has_by file has =
    joined (is_read (build_id file)) _ (is_by (build_id file) (has.build.id refl))
    (joined (is_read (debug_link file)) _ (is_by (debug_link file) (has.build.link refl))
    (joined (is_read (eh_frame_of file)) _ (is_by (eh_frame_of file) has.frames.eh_frame)
    (joined (is_read (debug_frame_of file)) _ (is_by (debug_frame_of file) has.frames.debug_frame)
    (is_by (symbol_table file) (has.symbols refl)))))

pub enough_by : (image : Image) → AreEnough needed_of_code image → are_enough image ≡ true
enough_by image (read, has) = by (elf_file_of image) read has
  where
    by : (r : Result File ElfError) → IsRead r → IfOk r (HasAll needed_of_code) → has_needed_of r ≡ true
    by (Ok file) read has = has_by file has
    by (Err e) read has = is_by {A = File} (Err e) read

-- ---- a file by its parts, and by all bytes

abbrev pub AreSame : List ℕ → Option File → Option File → Type 0
AreSame bytes None other = other ≡ None
AreSame bytes (Some file) other = (other ≡ Some (in_whole bytes file)) × IsImageOf file.image bytes × HasAll needed_of_code file

found : (image : Image) (bytes : List ℕ) → IsImageOf image bytes → are_enough image ≡ true → AreSame bytes (result_ok (elf_file_of image)) (result_ok (elf_file bytes))
found image bytes of enough = by (elf_file_of image) refl enough
  where
    by : (r : Result File ElfError) → elf_file_of image ≡ r → has_needed_of r ≡ true → AreSame bytes (result_ok r) (result_ok (elf_file bytes))
    by (Ok file) is needed = let (same, kept) = file_found of file is in (ap (λ (r : Result File ElfError). result_ok r) same, kept, needed_by file needed)
    by (Err e) is needed = ap (λ (r : Result File ElfError). result_ok r) (file_refused of e is (subst (λ (r : Result File ElfError). IsRead r) (sym is) (read_by {A = File} (Err e) needed)))

-- of the code
pub code_found : (code : CodeParts) (bytes : List ℕ) → IsImageOf (parts_of code) bytes → AreSame bytes (result_ok (elf_file_of (parts_of code))) (result_ok (elf_file bytes))
code_found code bytes of = found (parts_of code) bytes of code.enough

module _ (bytes : List ℕ) where
  same_id : (a b : Option File) → AreSame bytes a b → option_and_then (λ (file : File). there (build_id file)) a ≡ option_and_then (λ (file : File). there (build_id file)) b
  same_id None b same = ap (option_and_then (λ (file : File). there (build_id file))) (sym same)
  same_id (Some file) b (same, of, needed) =
      ap there ((same_build file of).same (needed.build.id refl)) ∙ ap (option_and_then (λ (file : File). there (build_id file))) (sym same)

  same_linked : (a b : Option File) → AreSame bytes a b → option_and_then (λ (file : File). there (debug_link file)) a ≡ option_and_then (λ (file : File). there (debug_link file)) b
  same_linked None b same = ap (option_and_then (λ (file : File). there (debug_link file))) (sym same)
  same_linked (Some file) b (same, of, needed) =
      ap there ((same_link file of).same (needed.build.link refl)) ∙ ap (option_and_then (λ (file : File). there (debug_link file))) (sym same)

pub id_found : (code : CodeParts) (bytes : List ℕ) → IsImageOf (parts_of code) bytes → id_in (parts_of code) ≡ id_in (whole bytes)
id_found code bytes of = same_id bytes _ _ (code_found code bytes of)

pub link_found : (code : CodeParts) (bytes : List ℕ) → IsImageOf (parts_of code) bytes → link_in (parts_of code) ≡ link_in (whole bytes)
link_found code bytes of = same_linked bytes _ _ (code_found code bytes of)

-- ---- texts

-- what is read as code
pub code_kept : (text : Bool) (code : Option CodeParts) (bytes : Option (List ℕ)) → ArePartsOfBytes code bytes → ArePartsOfBytes (if text then None else code) (if text then None else bytes)
code_kept true code bytes is = refl
code_kept false code bytes is = is

-- all bytes of what was read whole
pub whole_first : (code : Option CodeParts) (bytes : Option (List ℕ)) → ArePartsOfBytes code bytes → is_whole code ≡ true → beginning_in code ≡ bytes
whole_first None bytes is every = sym is
whole_first (Some code) None is every = absurd is
whole_first (Some code) (Some bytes) is every =
    let image = parts_of code in
    let size : length image.first ≡ length bytes = sym (eqb-true image.length (length image.first) every) ∙ is.length_is in
    ap Some (whole_read (Some bytes) (length image.first) image.first size (refl, is.first_is))

pub rest_of : (b whole : Bool) → b ≡ true → (not b || whole) ≡ true → whole ≡ true
rest_of true whole is told = told
rest_of false whole is told = absurd (true≢false (sym is))

pub either : (a b : Bool) → b ≡ true → (a || b) ≡ true
either true b is = refl
either false b is = is
