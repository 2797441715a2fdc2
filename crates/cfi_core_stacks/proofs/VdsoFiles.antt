-- The vdso behind the files that were opened.
use Rattle.std.proofs.Common.{◌≡◌, ◌∙◌, ◌==◌, ◌||◌, ◌++◌, ◌∷◌, ℕ, Bool, true, false, not, List, [], length, Option, Some, None, refl, sym, ap, subst, arith, option_map, string_bytes}
use Rattle.std.proofs.lemmas.Bool.Decides.{nat_tests}
use Rattle.cfi_elf.specs.Images.{Image, IsImageOf, whole}
use Rattle.cfi_mapped.specs.declared.code_parts.CodeParts.{CodeParts}
use Rattle.cfi_mapped.specs.declared.opened_file.OpenedFile.{OpenedFile}
use Rattle.cfi_mapped.specs.CodeParts.{ArePartsOfBytes, is_whole, parts_of}
use Rattle.cfi_mapped.specs.FileReads.{AreOpened}
use Rattle.cfi_mapped.specs.OpenedFiles.{AreOpenedAs, IsOpenedAs, Opened}
use Rattle.cfi_mapped.specs.Wanted.{FilePlace, Wanted}
use Rattle.cfi_object.proofs.WholeParts.{whole_is}
use Rattle.cfi_mapped.proofs.FileLemmas.{opened_pushed}
use Rattle.cfi_cores.specs.Builds.{build_of, mapped_image}
use Rattle.cfi_cores.specs.CoreFiles.{Core}
use Rattle.cfi_cores.specs.Vdso.{vdso_name}
use Rattle.cfi_core_stacks.specs.CoreCode.{AreOpenedFor, IsVdsoAs, and_file, core_code_files, vdso_file, with_vdso_file}

-- ---- its bytes

eqb_self : (n : ℕ) → (n == n) ≡ true
eqb_self n = grind (arith, nat_tests)

pub is_all : (code : CodeParts) (bytes : List ℕ) → parts_of code ≡ whole bytes → is_whole (Some code) ≡ true
is_all code bytes is = ap (λ (image : Image). image.length == length image.first) is ∙ eqb_self (length bytes)

pub is_of : (code : CodeParts) (bytes image : List ℕ) → parts_of code ≡ whole bytes → bytes ≡ image → IsImageOf (parts_of code) image
is_of code bytes image is same = subst (λ (b : List ℕ). IsImageOf (parts_of code) b) same (subst (λ (i : Image). IsImageOf i bytes) (sym is) (whole_is bytes))

pub told_by : (told all : Bool) → all ≡ true → (not told || all) ≡ true
told_by true all is = is
told_by false all is = refl

-- ---- as a file

module _ (core : Core) (one : OpenedFile) (image : List ℕ) where
  abbrev known_of : List ℕ → Opened
  known_of bytes = record {
    name = vdso_name;
    build_id = build_of core.segments core.mapped vdso_name;
    bytes = Some bytes;
    debug = None;
    process = None;
    map_name = None;
  }

  pub vdso_held : mapped_image core.segments core.mapped vdso_name ≡ Some image → one.name.now ≡ vdso_name → option_map (λ id. id.now) one.build_id ≡ build_of core.segments core.mapped vdso_name → ArePartsOfBytes one.code (Some image)
      → one.debug ≡ None → one.process ≡ None → one.map_name ≡ None → IsVdsoAs (Some one) (vdso_file core)
  vdso_held found name built code debug process map_name = (
    known_of image,
    ap (option_map known_of) found,
    record {
      name_is = sym name;
      build_id_is = sym built;
      bytes_are = code;
      debug_is = subst (λ (d : Option CodeParts). ArePartsOfBytes d None) (sym debug) refl;
      process_is = sym process;
      map_name_is = sym (ap (option_map string_bytes) map_name);
    },
  )

-- ---- behind the others

pub vdso_pushed : (opened : List OpenedFile) (found : Option OpenedFile) (one : OpenedFile) (file : Option Opened) → found ≡ Some one → IsVdsoAs found file
    → (all : List Opened) → AreOpenedAs opened all → AreOpenedAs (opened ++ one ∷ []) (and_file all file)
vdso_pushed opened None one file is hold all are = absurd (cc)
vdso_pushed opened (Some x) one file is (known, same, hold) all are =
    let this : x ≡ one = cc in
    subst (λ (file : Option Opened). AreOpenedAs (opened ++ one ∷ []) (and_file all file)) (sym same)
    (opened_pushed opened all one known are (subst (λ (x : OpenedFile). IsOpenedAs x known) this hold))

pub no_vdso : (opened : List OpenedFile) (found : Option OpenedFile) (file : Option Opened) → found ≡ None → IsVdsoAs found file
    → (all : List Opened) → AreOpenedAs opened all → AreOpenedAs opened (and_file all file)
no_vdso opened (Some x) file is hold all are = absurd (cc)
no_vdso opened None file is none all are = subst (λ (file : Option Opened). AreOpenedAs opened (and_file all file)) (sym none) are

-- those of the core
pub opened_for : {Handle : Type 0} (may_open : FilePlace → Option Handle → Type 0) (remaining : Handle → Option (List ℕ)) (core : Core) (wanted : List Wanted) (all : List Opened) (opened : List OpenedFile) → wanted ≡ core_code_files core.segments core.mapped
    → AreOpened may_open remaining wanted all → AreOpenedAs opened (with_vdso_file core all) → (all : List Opened) × AreOpenedFor may_open remaining core all × AreOpenedAs opened all
opened_for may_open remaining core wanted all opened same are hold =
    (with_vdso_file core all, (all, subst (λ (wanted : List Wanted). AreOpened may_open remaining wanted all) same are, refl), hold)
