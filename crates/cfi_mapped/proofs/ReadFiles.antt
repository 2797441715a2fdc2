-- Files of code that are read: the parts are those of files that may be opened.
use Rattle.std.proofs.Common.{◌≡◌, ◌∙◌, inl, inr, ℕ, ◌+◌, ◌<◌, ◌≤◌, Bool, true, false, List, [], ◌∷◌, Option, Some, None, IfOk, IfSome, Result, Ok, Err, length, drop, get_or, refl, sym, ap, subst, option_map, add-one}
use Rattle.std.proofs.Math.Seq.{drop-cons}
use Rattle.std.proofs.lemmas.List.{drop_all}
use Rattle.std.specs.declared.alloc.AllocError.{AllocError}
use Rattle.cfi_text.specs.declared.reading.InputError.{InputError}
use Rattle.cfi_text.specs.declared.reading.InputError.TheVariants.{NotHexadecimal, OutOfMemory, Unreadable}
use Rattle.std.specs.Prelude.{if◌then◌else◌, not, ◌||◌, ◌==◌}
use Rattle.std.proofs.lemmas.Bool.{eq-eqb}
use Rattle.std.specs.Option.{is_some}
use Rattle.cfi_elf.specs.DebugLinks.{Link}
use Rattle.cfi_elf.specs.Images.{Image, IsImageOf, whole}
use Rattle.cfi_object.specs.FileParts.{AreOfInput, IsAllOf}
use Rattle.cfi_mapped.specs.declared.code_parts.CodeParts.{CodeParts}
use Rattle.cfi_mapped.specs.declared.wanted.LinkFolder.{LinkFolder}
use Rattle.cfi_mapped.specs.declared.wanted.LinkFolder.TheVariants.{Below, Beside, Central}
use Rattle.cfi_mapped.specs.CodeParts.{ArePartsOf, ArePartsOfBytes, is_told, is_whole, parts_of}
use Rattle.cfi_mapped.specs.FileReads.{IsBuild, IsBuildOf, IsByLink, IsContents, IsDebug, IsDebugOf, IsFileFound, IsLinkedAmong, IsLinkedIn, IsLinkedReading, IsOr, IsOrCopy, IsPlaceRead, IsReadIfOpened, IsAllLeft, IsTold, if_built, if_readable, names_a_file}
use Rattle.cfi_mapped.specs.KernelSymbols.{is_kernel_name}
use Rattle.cfi_mapped.specs.Wanted.{FilePlace, Wanted, at_path, code_map, copy_of, debug_of, is_text, kernel_symbols, linked}
use Rattle.cfi_object.specs.NeededParts.{AreAsked}
use Rattle.cfi_mapped.specs.Enough.{needed_of_code}
use Rattle.cfi_mapped.specs.FileBuilds.{has_build, id_in, id_of, is_known_build, is_linked, link_in, link_of}
use Rattle.cfi_object.proofs.WholeParts.{all_of_input, whole_is}
use Rattle.cfi_mapped.proofs.CodeImages.{id_found, link_found}

-- ---- a file that is read

-- what was read, or none where it couldn't be
pub readable : {A : Type 0} (P : Option A → Type 0) (r : Result A InputError) → IfOk r (λ x. P (Some x)) → P None → IfOk (if_readable r) P
readable P (Ok x) some none = some
readable P (Err OutOfMemory) some none = tt
readable P (Err Unreadable) some none = none
readable P (Err NotHexadecimal) some none = none

pub if_read : {A : Type 0} (P : Option A → Type 0) (r : Result A InputError) (found : Result (Option A) AllocError) → found ≡ if_readable r → IfOk r (λ x. P (Some x)) → P None → IfOk found P
if_read {A = A} P r found is some none = subst (λ (f : Result (Option A) AllocError). IfOk f P) (sym is) (readable P r some none)

pub was_read : {A : Type 0} (P : A → Type 0) (r : Result A InputError) (o : Option A) → Ok o ≡ if_readable r → (x : A) → o ≡ Some x → IfOk r P → P x
was_read {A = A} P r o found x is read =
    subst (λ (o : Option A). IfSome o P) is (subst (λ (f : Result (Option A) AllocError). IfOk f (λ o. IfSome o P)) (sym found) (readable (λ o. IfSome o P) r read tt))

pub none_of : (known : Option (List ℕ)) → ArePartsOf (IsAllLeft known) None
none_of known = (None, tt, refl)

reading_of : (known : Option (List ℕ)) (code : CodeParts) → AreOfInput known (parts_of code) → ArePartsOf (IsAllLeft known) (Some code)
reading_of known code (bytes, left, of) = (Some bytes, left, of)

pub all_of : {E : Type 0} (known : Option (List ℕ)) (r : Result CodeParts E) → IfOk r (λ code. AreOfInput known (parts_of code)) → IfOk r (λ code. ArePartsOf (IsAllLeft known) (Some code))
all_of known (Ok code) is = reading_of known code is
all_of known (Err e) is = tt

-- all bytes of one
pub whole_of : (known : Option (List ℕ)) (code : CodeParts) (bytes : List ℕ) → parts_of code ≡ whole bytes → IsAllLeft known (Some bytes) → ArePartsOf (IsAllLeft known) (Some code)
whole_of known code bytes is read = (Some bytes, read, subst (λ (image : Image). IsImageOf image bytes) (sym is) (whole_is bytes))

pub whole_all : (code : CodeParts) (bytes : List ℕ) → parts_of code ≡ whole bytes → is_whole (Some code) ≡ true
whole_all code bytes is = ap (λ (image : Image). image.length == length image.first) is ∙ eq-eqb (length bytes) (length bytes) refl

pub all_read : {E : Type 0} (known : Option (List ℕ)) (r : Result CodeParts E) → IfOk r (λ code. IsAllOf known (parts_of code)) → IfOk r (λ code. AreOfInput known (parts_of code))
all_read known (Ok code) is = all_of_input known (parts_of code) is
all_read known (Err e) is = tt

pub all_whole : {E : Type 0} (known : Option (List ℕ)) (whole : Bool) (r : Result CodeParts E) → IfOk r (λ code. IsAllOf known (parts_of code)) → IfOk r (λ code. whole ≡ true → is_whole (Some code) ≡ true)
all_whole known whole (Ok code) (bytes, left, is) = λ asked. whole_all code bytes is
all_whole known whole (Err e) is = tt

-- all of it was asked for, so nothing is said of parts
pub whole_asked : {E : Type 0} (whole : Bool) (r : Result CodeParts E) → whole ≡ true → IfOk r (λ code. whole ≡ false → AreAsked needed_of_code (parts_of code))
whole_asked true (Ok code) is = λ no. absurd (cc (no))
whole_asked true (Err e) is = tt
whole_asked false r is = absurd (cc)

-- none where it wasn't opened
pub none_read : {Handle : Type 0} (remaining : Handle → Option (List ℕ)) (opened : Option Handle) → opened ≡ None → ArePartsOf (IsReadIfOpened remaining opened) None
none_read {Handle = Handle} remaining opened is = subst (λ (opened : Option Handle). ArePartsOf (IsReadIfOpened remaining opened) None) (sym is) (None, refl, refl)

-- ---- a text that the kernel or a process tells

is_some_kept : {A B : Type 0} (f : A → B) (o : Option A) → is_some (option_map f o) ≡ is_some o
is_some_kept f None = refl
is_some_kept f (Some x) = refl

told_by : (b whole : Bool) → (b ≡ true → whole ≡ true) → (not b || whole) ≡ true
told_by true whole each = each refl
told_by false whole each = refl

pub told_read : {A B C : Type 0} (f : A → C) (g : B → C) (name : List ℕ) (map_name : Option A) (process : Option B) (code : Option CodeParts) → option_map f map_name ≡ option_map g process
    → (is_text name process ≡ true → is_whole code ≡ true) → is_told name map_name code ≡ true
told_read {C = C} f g name map_name process code same each =
    let some = sym (is_some_kept f map_name) ∙ (ap (λ (o : Option C). is_some o) same ∙ is_some_kept g process) in
    told_by (is_text name map_name) (is_whole code) (λ told. each (ap (λ (s : Bool). is_kernel_name name || s) (sym some) ∙ told))

-- what is read as code
pub not_text : (P : Option (List ℕ) → Type 0) (text : Bool) (bytes : Option (List ℕ)) → text ≡ false → P bytes → P (if text then None else bytes)
not_text P text bytes is right = subst (λ (text : Bool). P (if text then None else bytes)) (sym is) right

pub of_text : (P : Option (List ℕ) → Type 0) (text : Bool) (bytes : Option (List ℕ)) → text ≡ true → P None → P (if text then None else bytes)
of_text P text bytes is right = subst (λ (text : Bool). P (if text then None else bytes)) (sym is) right

-- ---- the build

pub none_built : (build : List ℕ) (bytes : Option (List ℕ)) → bytes ≡ None → if_built build bytes ≡ None
none_built build bytes is = ap (if_built build) is

module _ (build : List ℕ) (code : CodeParts) where
  known_by : (bytes : List ℕ) → IsImageOf (parts_of code) bytes → is_known_build build (id_in (parts_of code)) ≡ has_build build bytes
  known_by bytes of = ap (is_known_build build) (id_found code bytes of)

  pub built : (bytes : Option (List ℕ)) → ArePartsOfBytes (Some code) bytes → is_known_build build (id_in (parts_of code)) ≡ true → ArePartsOfBytes (Some code) (if_built build bytes)
  built None of is = absurd of
  built (Some bytes) of is =
      let same : if_built build (Some bytes) ≡ Some bytes = ap (λ (b : Bool). if b then Some bytes else None) (sym (known_by bytes of) ∙ is) in
      subst (λ (o : Option (List ℕ)). ArePartsOfBytes (Some code) o) (sym same) of

  pub not_built : (bytes : Option (List ℕ)) → ArePartsOfBytes (Some code) bytes → is_known_build build (id_in (parts_of code)) ≡ false → if_built build bytes ≡ None
  not_built None of is = absurd of
  not_built (Some bytes) of is = ap (λ (b : Bool). if b then Some bytes else None) (sym (known_by bytes of) ∙ is)

module _ {Handle : Type 0} (remaining : Handle → Option (List ℕ)) where
  pub build_of : (build : List ℕ) (opened : Option Handle) (code kept : Option CodeParts) → ArePartsOf (IsReadIfOpened remaining opened) code → ((bytes : Option (List ℕ)) → ArePartsOfBytes code bytes → ArePartsOfBytes kept (if_built build bytes))
      → ArePartsOf (IsBuildOf remaining build opened) kept
  build_of build opened code kept (bytes, read, of) each = (if_built build bytes, (bytes, read, refl), each bytes of)

  -- one that was opened
  pub read_some : {E : Type 0} (opened : Option Handle) (file : Handle) (r : Result (Option CodeParts) E) → opened ≡ Some file → IfOk r (ArePartsOf (IsAllLeft (remaining file))) → IfOk r (ArePartsOf (IsReadIfOpened remaining opened))
  read_some opened file r is read = subst (λ (o : Option Handle). IfOk r (ArePartsOf (IsReadIfOpened remaining o))) (sym is) read

-- the code that is there, or none
pub some_code : (P : Option (List ℕ) → Type 0) (found : Option CodeParts) (code : CodeParts) → found ≡ Some code → ArePartsOf P found → ArePartsOf P (Some code)
some_code P found code is are = subst (λ (o : Option CodeParts). ArePartsOf P o) is are

pub no_code : (P : Option (List ℕ) → Type 0) (found : Option CodeParts) → found ≡ None → ArePartsOf P found → ArePartsOf P None
no_code P found is are = subst (λ (o : Option CodeParts). ArePartsOf P o) is are

pub whole_ok : {E : Type 0} (whole : Bool) (r : Result (Option CodeParts) E) → IfOk r (λ code. is_whole code ≡ true) → IfOk r (λ code. whole ≡ true → is_whole code ≡ true)
whole_ok whole (Ok code) is = λ asked. is
whole_ok whole (Err e) is = tt

module _ {Handle : Type 0} (may_open : FilePlace → Option Handle → Type 0) (remaining : Handle → Option (List ℕ)) where
  pub read_at : {E : Type 0} (place : FilePlace) (opened : Option Handle) → may_open place opened → (r : Result (Option CodeParts) E) → IfOk r (ArePartsOf (IsReadIfOpened remaining opened)) → IfOk r (ArePartsOf (IsPlaceRead may_open remaining place))
  read_at place opened may (Ok code) (bytes, read, of) = (bytes, (opened, may, read), of)
  read_at place opened may (Err e) read = tt

  pub build_at : (build : List ℕ) (place : FilePlace) (opened : Option Handle) → may_open place opened → (code : Option CodeParts) → ArePartsOf (IsBuildOf remaining build opened) code → ArePartsOf (IsBuild may_open remaining build place) code
  build_at build place opened may code (bytes, right, of) = (bytes, (opened, may, right), of)

  pub build_found : {E : Type 0} (build : List ℕ) (place : FilePlace) (opened : Option Handle) → may_open place opened → (r : Result (Option CodeParts) E) → IfOk r (ArePartsOf (IsBuildOf remaining build opened))
      → IfOk r (ArePartsOf (IsBuild may_open remaining build place))
  build_found build place opened may (Ok code) right = build_at build place opened may code right
  build_found build place opened may (Err e) right = tt

  -- at the path
  there_first : (name build : List ℕ) (code : CodeParts) → ArePartsOf (IsBuild may_open remaining build (at_path name)) (Some code) → ArePartsOf (IsFileFound may_open remaining name (Some build)) (Some code)
  there_first name build code (None, right, of) = absurd of
  there_first name build code (Some bytes, right, of) = (Some bytes, (Some bytes, right, refl), of)

  pub found_there : (name build : List ℕ) (opened : Option Handle) → may_open (at_path name) opened → (found : Option CodeParts) → ArePartsOf (IsBuildOf remaining build opened) found → (code : CodeParts) → found ≡ Some code
      → ArePartsOf (IsFileFound may_open remaining name (Some build)) (Some code)
  found_there name build opened may found are code is =
      there_first name build code (some_code (IsBuild may_open remaining build (at_path name)) found code is (build_at build (at_path name) opened may found are))

  -- or else the copy
  copy_else : {E : Type 0} (name build : List ℕ) → ArePartsOf (IsBuild may_open remaining build (at_path name)) None → (r : Result (Option CodeParts) E) → IfOk r (ArePartsOf (IsBuild may_open remaining build (copy_of build)))
      → IfOk r (ArePartsOf (IsFileFound may_open remaining name (Some build)))
  copy_else name build (found, right, none) (Ok code) (bytes, copy, of) =
      (bytes, (found, right, subst (λ (found : Option (List ℕ)). IsOrCopy may_open remaining build found bytes) (sym none) copy), of)
  copy_else name build are (Err e) copy = tt

  pub found_copy : {E : Type 0} (name build : List ℕ) (opened : Option Handle) → may_open (at_path name) opened → (found : Option CodeParts) → ArePartsOf (IsBuildOf remaining build opened) found → found ≡ None
      → (r : Result (Option CodeParts) E) → IfOk r (ArePartsOf (IsBuild may_open remaining build (copy_of build))) → IfOk r (ArePartsOf (IsFileFound may_open remaining name (Some build)))
  found_copy name build opened may found are is r copy =
      copy_else name build (no_code (IsBuild may_open remaining build (at_path name)) found is (build_at build (at_path name) opened may found are)) r copy

  -- what is told
  pub told_kernel : {E : Type 0} (is_kernel : Bool) (process : Option ℕ) → is_kernel ≡ true → (opened : Option Handle) → may_open kernel_symbols opened → (r : Result (Option CodeParts) E) → IfOk r (ArePartsOf (IsReadIfOpened remaining opened))
      → IfOk r (ArePartsOf (IsTold may_open remaining is_kernel process))
  told_kernel is_kernel process is opened may r read =
      subst (λ (b : Bool). IfOk r (ArePartsOf (IsTold may_open remaining b process))) (sym is) (read_at kernel_symbols opened may r read)

  pub told_process : {E : Type 0} (is_kernel : Bool) (process : Option ℕ) (pid : ℕ) → is_kernel ≡ false → process ≡ Some pid → (opened : Option Handle) → may_open (code_map pid) opened → (r : Result (Option CodeParts) E)
      → IfOk r (ArePartsOf (IsReadIfOpened remaining opened)) → IfOk r (ArePartsOf (IsTold may_open remaining is_kernel process))
  told_process is_kernel process pid is of opened may r read =
      subst (λ (b : Bool). IfOk r (ArePartsOf (IsTold may_open remaining b process))) (sym is)
      (subst (λ (p : Option ℕ). IfOk r (ArePartsOf (IsTold may_open remaining false p))) (sym of) (read_at (code_map pid) opened may r read))

  pub told_none : (is_kernel : Bool) (process : Option ℕ) → is_kernel ≡ false → process ≡ None → ArePartsOf (IsTold may_open remaining is_kernel process) None
  told_none is_kernel process is of =
      subst (λ (b : Bool). ArePartsOf (IsTold may_open remaining b process) None) (sym is) (subst (λ (p : Option ℕ). ArePartsOf (IsTold may_open remaining false p) None) (sym of) (None, refl, refl))

  pub contents_told : {E : Type 0} (file : Wanted) (is_kernel : Bool) → is_kernel ≡ is_kernel_name file.name → names_a_file file.name ≡ false → (r : Result (Option CodeParts) E)
      → IfOk r (ArePartsOf (IsTold may_open remaining is_kernel file.process)) → IfOk r (ArePartsOf (IsContents may_open remaining file))
  contents_told file is_kernel same is (Ok code) (bytes, told, of) =
      (bytes, inl (is, subst (λ (b : Bool). IsTold may_open remaining b file.process bytes) same told), of)
  contents_told file is_kernel same is (Err e) told = tt

  pub contents_found : {E : Type 0} (file : Wanted) (build : Option (List ℕ)) → file.build_id ≡ build → names_a_file file.name ≡ true → (r : Result (Option CodeParts) E)
      → IfOk r (ArePartsOf (IsFileFound may_open remaining file.name build)) → IfOk r (ArePartsOf (IsContents may_open remaining file))
  contents_found file build same is (Ok code) (bytes, found, of) =
      (bytes, inr (is, subst (λ (build : Option (List ℕ)). IsFileFound may_open remaining file.name build bytes) (sym same) found), of)
  contents_found file build same is (Err e) found = tt

  -- ---- debug files

  pub debug_some : {E : Type 0} (id : Option (List ℕ)) (build : List ℕ) → id ≡ Some build → (opened : Option Handle) → may_open (debug_of build) opened → (r : Result (Option CodeParts) E) → IfOk r (ArePartsOf (IsBuildOf remaining build opened))
      → IfOk r (ArePartsOf (IsDebug may_open remaining id))
  debug_some id build is opened may r right =
      subst (λ (id : Option (List ℕ)). IfOk r (ArePartsOf (IsDebug may_open remaining id))) (sym is) (build_found build (debug_of build) opened may r right)

  pub debug_gone : (id : Option (List ℕ)) → id ≡ None → ArePartsOf (IsDebug may_open remaining id) None
  debug_gone id is = subst (λ (id : Option (List ℕ)). ArePartsOf (IsDebug may_open remaining id) None) (sym is) (None, refl, refl)

  module _ (name : List ℕ) (link : Link) (build : Option (List ℕ)) where
    abbrev in_folder : LinkFolder → Option (List ℕ) → Type 0
    in_folder folder debug = IsLinkedIn may_open remaining name link build folder debug

    pub linked_some : {E : Type 0} (folder : LinkFolder) (opened : Option Handle) → may_open (linked folder name link.name) opened → (file : Handle) → opened ≡ Some file → (left : Option (List ℕ)) → remaining file ≡ left
        → (r : Result (Option CodeParts) E) → IfOk r (ArePartsOf (IsLinkedReading left link build)) → IfOk r (ArePartsOf (IsLinkedIn may_open remaining name link build folder))
    linked_some folder opened may file is left same (Ok code) (debug, (read, reading, linked_is), of) =
        (debug, (read, (opened, may, subst (λ (o : Option Handle). IsReadIfOpened remaining o read) (sym is) (subst (λ (left : Option (List ℕ)). IsAllLeft left read) (sym same) reading)), linked_is), of)
    linked_some folder opened may file is left same (Err e) read = tt

    pub linked_none : (folder : LinkFolder) (opened : Option Handle) → may_open (linked folder name link.name) opened → opened ≡ None → ArePartsOf (IsLinkedIn may_open remaining name link build folder) None
    linked_none folder opened may is = (None, (None, (opened, may, subst (λ (o : Option Handle). IsReadIfOpened remaining o None) (sym is) refl), refl), refl)

    abbrev among : List LinkFolder → Option (List ℕ) → Type 0
    among folders debug = IsLinkedAmong may_open remaining name link build folders debug

    -- with what is found in the folders that are left, there is what is found in all
    pub record LinksOn (all left : List LinkFolder) : Type 0 where
      pub links_on : (debug : Option (List ℕ)) → IsLinkedAmong may_open remaining name link build left debug → IsLinkedAmong may_open remaining name link build all debug

    pub links_all : (all : List LinkFolder) → LinksOn all all
    links_all all = record { links_on = λ debug is. is }

    pub linked_passed : (all folders : List LinkFolder) (i : ℕ) → i < length folders → (found : Option CodeParts) → found ≡ None → ArePartsOf (IsLinkedIn may_open remaining name link build (get_or folders i Beside)) found
        → LinksOn all (drop i folders) → LinksOn all (drop (i + 1) folders)
    linked_passed all folders i inside found is are so = record {
      links_on = λ debug others.
          let (bytes, right, none) = no_code (in_folder (get_or folders i Beside)) found is are in
          let left : drop i folders ≡ get_or folders i Beside ∷ drop (i + 1) folders = rw (drop-cons folders i Beside, add-one) refl in
          so.links_on debug
          (subst (λ (l : List LinkFolder). among l debug) (sym left) (bytes, right, subst (λ (o : Option (List ℕ)). IsOr o (among (drop (i + 1) folders)) debug) (sym none) others));
    }

    first_linked : (folder : LinkFolder) (folders : List LinkFolder) (code : CodeParts) → ArePartsOf (in_folder folder) (Some code) → ArePartsOf (among (folder ∷ folders)) (Some code)
    first_linked folder folders code (None, right, of) = absurd of
    first_linked folder folders code (Some bytes, right, of) = (Some bytes, (Some bytes, right, refl), of)

    pub linked_found : (all folders : List LinkFolder) (i : ℕ) → i < length folders → (found : Option CodeParts) (code : CodeParts) → found ≡ Some code → ArePartsOf (IsLinkedIn may_open remaining name link build (get_or folders i Beside)) found
        → LinksOn all (drop i folders) → ArePartsOf (IsLinkedAmong may_open remaining name link build all) (Some code)
    linked_found all folders i inside found code is are so =
        let left : drop i folders ≡ get_or folders i Beside ∷ drop (i + 1) folders = rw (drop-cons folders i Beside, add-one) refl in
        let (bytes, right, of) = first_linked (get_or folders i Beside) (drop (i + 1) folders) code (some_code (in_folder (get_or folders i Beside)) found code is are) in
        (bytes, so.links_on bytes (subst (λ (l : List LinkFolder). among l bytes) (sym left) right), of)

    pub linked_nowhere : (all folders : List LinkFolder) (i : ℕ) → length folders ≤ i → LinksOn all (drop i folders) → ArePartsOf (IsLinkedAmong may_open remaining name link build all) None
    linked_nowhere all folders i behind so =
        let none : drop i folders ≡ [] = rw drop_all refl in
        (None, so.links_on None (subst (λ (l : List LinkFolder). among l None) (sym none) refl), refl)

    pub by_folders : {E : Type 0} (some : Option Link) → some ≡ Some link → (r : Result (Option CodeParts) E) → IfOk r (ArePartsOf (IsLinkedAmong may_open remaining name link build (Beside ∷ Below ∷ Central ∷ [])))
        → IfOk r (ArePartsOf (IsByLink may_open remaining name build some))
    by_folders some has r are = subst (λ (l : Option Link). IfOk r (ArePartsOf (IsByLink may_open remaining name build l))) (sym has) are

  pub no_link : (name : List ℕ) (build : Option (List ℕ)) (some : Option Link) → some ≡ None → ArePartsOf (IsByLink may_open remaining name build some) None
  no_link name build some is = subst (λ (l : Option Link). ArePartsOf (IsByLink may_open remaining name build l) None) (sym is) (None, refl, refl)

  -- of a file that has these parts
  module _ (name : List ℕ) (all : Option CodeParts) (code : CodeParts) (is_code : all ≡ Some code) where
    bytes_of : (bytes : Option (List ℕ)) → ArePartsOfBytes all bytes → ArePartsOfBytes (Some code) bytes
    bytes_of bytes of = subst (λ (o : Option CodeParts). ArePartsOfBytes o bytes) is_code of

    first_by : (debug : CodeParts) (bytes : Option (List ℕ)) → ArePartsOfBytes (Some code) bytes → ArePartsOf (IsDebug may_open remaining (id_in (parts_of code))) (Some debug) → ArePartsOf (IsDebugOf may_open remaining name bytes) (Some debug)
    first_by debug None of are = absurd of
    first_by debug (Some bytes) of (None, right, parts_are) = absurd parts_are
    first_by debug (Some bytes) of (Some all, right, parts_are) =
        (Some all, (Some all, subst (λ (id : Option (List ℕ)). IsDebug may_open remaining id (Some all)) (id_found code bytes of) right, refl), parts_are)

    pub debug_first : (id : Option (List ℕ)) → id ≡ id_in (parts_of code) → (found : Option CodeParts) (debug : CodeParts) → found ≡ Some debug → ArePartsOf (IsDebug may_open remaining id) found → (bytes : Option (List ℕ)) → ArePartsOfBytes all bytes
        → ArePartsOf (IsDebugOf may_open remaining name bytes) (Some debug)
    debug_first id same found debug is are bytes of =
        first_by debug bytes (bytes_of bytes of)
        (subst (λ (id : Option (List ℕ)). ArePartsOf (IsDebug may_open remaining id) (Some debug)) same (some_code (IsDebug may_open remaining id) found debug is are))

    link_by : {E : Type 0} (bytes : Option (List ℕ)) → ArePartsOfBytes (Some code) bytes → ArePartsOf (IsDebug may_open remaining (id_in (parts_of code))) None → (r : Result (Option CodeParts) E)
        → IfOk r (ArePartsOf (IsByLink may_open remaining name (id_in (parts_of code)) (link_in (parts_of code)))) → IfOk r (ArePartsOf (IsDebugOf may_open remaining name bytes))
    link_by None of are r by_link = absurd of
    link_by (Some bytes) of are (Err e) by_link = tt
    link_by (Some bytes) of (found, right, none) (Ok debug) (all, link, parts_are) =
        let id = id_found code bytes of in
        let by_id = subst (λ (id : Option (List ℕ)). IsDebug may_open remaining id found) id right in
        let by_link = subst (λ (i : Option (List ℕ)). IsByLink may_open remaining name i (link_of bytes) all) id (subst (λ (l : Option Link). IsByLink may_open remaining name (id_in (parts_of code)) l all) (link_found code bytes of) link) in
        (all, (found, by_id, subst (λ (found : Option (List ℕ)). IsOr found (IsByLink may_open remaining name (id_of bytes) (link_of bytes)) all) (sym none) by_link), parts_are)

    pub debug_link : {E : Type 0} (id : Option (List ℕ)) → id ≡ id_in (parts_of code) → (link : Option Link) → link ≡ link_in (parts_of code) → (found : Option CodeParts) → found ≡ None → ArePartsOf (IsDebug may_open remaining id) found
        → (r : Result (Option CodeParts) E) → IfOk r (ArePartsOf (IsByLink may_open remaining name id link)) → (bytes : Option (List ℕ)) → ArePartsOfBytes all bytes → IfOk r (ArePartsOf (IsDebugOf may_open remaining name bytes))
    debug_link id same link same_link found is are r by_link bytes of =
        link_by bytes (bytes_of bytes of)
        (subst (λ (id : Option (List ℕ)). ArePartsOf (IsDebug may_open remaining id) None) same (no_code (IsDebug may_open remaining id) found is are)) r
        (subst (λ (i : Option (List ℕ)). IfOk r (ArePartsOf (IsByLink may_open remaining name i (link_in (parts_of code))))) same
        (subst (λ (l : Option Link). IfOk r (ArePartsOf (IsByLink may_open remaining name id l))) same_link by_link))

  pub debug_none : (name : List ℕ) (all : Option CodeParts) → all ≡ None → (bytes : Option (List ℕ)) → ArePartsOfBytes all bytes → ArePartsOf (IsDebugOf may_open remaining name bytes) None
  debug_none name all is bytes of =
      let none : bytes ≡ None = subst (λ (o : Option CodeParts). ArePartsOfBytes o bytes) is of in
      (None, subst (λ (bytes : Option (List ℕ)). IsDebugOf may_open remaining name bytes None) (sym none) refl, refl)

-- ---- by a link

pub linked_whole : (known : Option (List ℕ)) (link : Link) (build : Option (List ℕ)) (code : CodeParts) (bytes : List ℕ) → parts_of code ≡ whole bytes → is_linked link build bytes ≡ true → IsAllLeft known (Some bytes)
    → ArePartsOf (IsLinkedReading known link build) (Some code)
linked_whole known link build code bytes is leads read =
    (Some bytes, (Some bytes, read, ap (λ (b : Bool). if b then Some bytes else None) (sym leads)), subst (λ (image : Image). IsImageOf image bytes) (sym is) (whole_is bytes))

pub linked_not : (known : Option (List ℕ)) (link : Link) (build : Option (List ℕ)) (bytes : List ℕ) → is_linked link build bytes ≡ false → IsAllLeft known (Some bytes) → ArePartsOf (IsLinkedReading known link build) None
linked_not known link build bytes is read = (None, (Some bytes, read, ap (λ (b : Bool). if b then Some bytes else None) (sym is)), refl)

pub unread : (known : Option (List ℕ)) (link : Link) (build : Option (List ℕ)) → ArePartsOf (IsLinkedReading known link build) None
unread known link build = (None, (None, tt, refl), refl)
