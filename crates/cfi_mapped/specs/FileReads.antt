-- What is opened and read of the files of a profile.
--     if_readable read      what was read, or none where it can't be
--     names_a_file name      whether a mapping with the name is of a file
--     IsContents may_open remaining file bytes      what was read of a file that is wanted
--     IsDebugOf may_open remaining name bytes debug      what was read of the debug file of a file
--         of this name and these bytes
--     IsDebugFor .. file bytes debug      the same for a file that is wanted; none of a text
--     AreOpened .. files opened      these files
use Rattle.std.specs.Prelude.{◌≡◌, ◌⊎◌, ℕ, Bool, true, false, not, ◌&&◌, List, [], ◌∷◌, Option}
use Rattle.std.specs.Prelude.{Some, None, IfSome, Result, Ok, Err, alloc_error, codes}
use Rattle.std.specs.Prelude.{if◌then◌else◌}
use Rattle.std.specs.declared.alloc.AllocError.{AllocError}
use Rattle.cfi_text.specs.declared.reading.InputError.{InputError}
use Rattle.cfi_text.specs.declared.reading.InputError.TheVariants.{OutOfMemory}
use Rattle.cfi_mapped.specs.CodeMaps.{begins_with}
use Rattle.cfi_mapped.specs.KernelSymbols.{is_kernel_name}
use Rattle.cfi_mapped.specs.Wanted.{FilePlace, Wanted, as_code, at_path, copy_of, debug_of}
use Rattle.cfi_mapped.specs.Wanted.{code_map, kernel_symbols}
use Rattle.cfi_mapped.specs.FileBuilds.{has_build, id_of, is_linked}
use Rattle.cfi_mapped.specs.FileBuilds.{link_of}
use Rattle.cfi_mapped.specs.Wanted.{linked}
use Rattle.cfi_mapped.specs.declared.wanted.LinkFolder.{LinkFolder}
use Rattle.cfi_mapped.specs.declared.wanted.LinkFolder.TheVariants.{Below, Beside, Central}
use Rattle.cfi_elf.specs.DebugLinks.{Link}
use Rattle.cfi_mapped.specs.OpenedFiles.{Opened, opened_as}

-- a path, but for those that stand for memory that is no regular file's
abbrev pub names_a_file : List ℕ → Bool
names_a_file name =
    begins_with (codes "/") name && not (begins_with (codes "//") name)
    && not (begins_with (codes "/dev/") name) && not (begins_with (codes "/memfd:") name)
    && not (begins_with (codes "/SYSV") name) && not (begins_with (codes "/anon_hugepage") name)

-- of what can't be read there is none; that memory is refused says nothing of it
abbrev pub if_readable : {A : Type 0} → Result A InputError → Result (Option A) AllocError
if_readable (Ok read) = Ok (Some read)
if_readable (Err OutOfMemory) = Err alloc_error
if_readable (Err _) = Ok None

-- all bytes that were left, where they are known, or none where they can't be read
abbrev pub IsAllLeft : Option (List ℕ) → Option (List ℕ) → Type 0
IsAllLeft left None = Unit {0}
IsAllLeft left (Some bytes) = IfSome left (λ all. bytes ≡ all)

-- the bytes, if the file is of the build
abbrev pub if_built : List ℕ → Option (List ℕ) → Option (List ℕ)
if_built build None = None
if_built build (Some bytes) = if has_build build bytes then Some bytes else None

-- the bytes, if the link of a file of this build leads to them
abbrev pub if_linked : Link → Option (List ℕ) → Option (List ℕ) → Option (List ℕ)
if_linked link build None = None
if_linked link build (Some bytes) = if is_linked link build bytes then Some bytes else None

-- what was found, or else something else
abbrev pub IsOr : Option (List ℕ) → (Option (List ℕ) → Type 0) → Option (List ℕ) → Type 0
IsOr (Some found) Other bytes = bytes ≡ Some found
IsOr None Other bytes = Other bytes

-- what was read, if the link of a file of this build leads to it
abbrev pub IsLinkedReading :
    Option (List ℕ) → Link → Option (List ℕ) → Option (List ℕ) → Type 0
IsLinkedReading left link build debug =
    (read : Option (List ℕ)) × IsAllLeft left read × (debug ≡ if_linked link build read)

module _ {Handle : Type 0} (remaining : Handle → Option (List ℕ)) where
  abbrev pub IsReadIfOpened : Option Handle → Option (List ℕ) → Type 0
  IsReadIfOpened None bytes = bytes ≡ None
  IsReadIfOpened (Some file) bytes = IsAllLeft (remaining file) bytes

  abbrev pub IsBuildOf : List ℕ → Option Handle → Option (List ℕ) → Type 0
  IsBuildOf build opened bytes =
      (read : Option (List ℕ)) × IsReadIfOpened opened read × (bytes ≡ if_built build read)

module _ {Handle : Type 0} (may_open : FilePlace → Option Handle → Type 0)
    (remaining : Handle → Option (List ℕ)) where
  abbrev pub IsPlaceRead : FilePlace → Option (List ℕ) → Type 0
  IsPlaceRead place bytes =
      (opened : Option Handle) × may_open place opened × IsReadIfOpened remaining opened bytes

  abbrev pub IsBuild : List ℕ → FilePlace → Option (List ℕ) → Type 0
  IsBuild build place bytes =
      (opened : Option Handle) × may_open place opened × IsBuildOf remaining build opened bytes

  -- what was found, or else the copy of the build
  abbrev pub IsOrCopy : List ℕ → Option (List ℕ) → Option (List ℕ) → Type 0
  IsOrCopy build (Some found) bytes = bytes ≡ Some found
  IsOrCopy build None bytes = IsBuild build (copy_of build) bytes

  -- of a build only what is of it: the file at the path, or else the copy
  abbrev pub IsFileFound : List ℕ → Option (List ℕ) → Option (List ℕ) → Type 0
  IsFileFound name None bytes = IsPlaceRead (at_path name) bytes
  IsFileFound name (Some build) bytes =
      (found : Option (List ℕ)) × IsBuild build (at_path name) found × IsOrCopy build found bytes

  -- of memory that is no file's, what its process tells of its code
  abbrev pub IsToldBy : Option ℕ → Option (List ℕ) → Type 0
  IsToldBy None bytes = bytes ≡ None
  IsToldBy (Some pid) bytes = IsPlaceRead (code_map pid) bytes

  -- of the kernel (true), what it tells of its symbols
  abbrev pub IsTold : Bool → Option ℕ → Option (List ℕ) → Type 0
  IsTold true process bytes = IsPlaceRead kernel_symbols bytes
  IsTold false process bytes = IsToldBy process bytes

  -- files are opened where the name is one of a file
  abbrev pub IsContents : Wanted → Option (List ℕ) → Type 0
  IsContents file bytes =
      ((names_a_file file.name ≡ false) × IsTold (is_kernel_name file.name) file.process bytes)
      ⊎ ((names_a_file file.name ≡ true) × IsFileFound file.name file.build_id bytes)

  -- of a build only a debug file of it
  abbrev pub IsDebug : Option (List ℕ) → Option (List ℕ) → Type 0
  IsDebug None debug = debug ≡ None
  IsDebug (Some build) debug = IsBuild build (debug_of build) debug

  -- in one folder only the file to which the link leads
  abbrev pub IsLinkedIn :
      List ℕ → Link → Option (List ℕ) → LinkFolder → Option (List ℕ) → Type 0
  IsLinkedIn name link build folder debug =
      (read : Option (List ℕ)) × IsPlaceRead (linked folder name link.name) read
      × (debug ≡ if_linked link build read)

  -- in the first of the folders that has it
  abbrev pub IsLinkedAmong :
      List ℕ → Link → Option (List ℕ) → List LinkFolder → Option (List ℕ) → Type 0
  IsLinkedAmong name link build [] debug = debug ≡ None
  IsLinkedAmong name link build (folder ∷ folders) debug =
      (found : Option (List ℕ)) × IsLinkedIn name link build folder found
      × IsOr found (IsLinkedAmong name link build folders) debug

  -- beside the file, below its folder, or else in that of debug files
  abbrev pub IsByLink : List ℕ → Option (List ℕ) → Option Link → Option (List ℕ) → Type 0
  IsByLink name build None debug = debug ≡ None
  IsByLink name build (Some link) debug =
      IsLinkedAmong name link build (Beside ∷ Below ∷ Central ∷ []) debug

  -- that of the build which the file itself says, or else the one to which its link leads
  abbrev pub IsDebugOf : List ℕ → Option (List ℕ) → Option (List ℕ) → Type 0
  IsDebugOf name None debug = debug ≡ None
  IsDebugOf name (Some bytes) debug =
      (found : Option (List ℕ)) × IsDebug (id_of bytes) found
      × IsOr found (IsByLink name (id_of bytes) (link_of bytes)) debug

  -- a text has no debug file
  abbrev pub IsDebugFor : Wanted → Option (List ℕ) → Option (List ℕ) → Type 0
  IsDebugFor file bytes debug =
      IsDebugOf file.name (as_code file.name file.process bytes) debug

  abbrev pub AreOpened : List Wanted → List Opened → Type 0
  AreOpened [] opened = opened ≡ []
  AreOpened (file ∷ files) opened =
      (bytes debug : Option (List ℕ)) × (others : List Opened) × IsContents file bytes
      × IsDebugFor file bytes debug × AreOpened files others
      × (opened ≡ opened_as file bytes debug ∷ others)
