-- The files that modules are of.
use Rattle.std.proofs.Common.{arith, ◌≡◌, ◌∙◌, ◌<◌, ◌+◌, ℕ, List, [], ◌∷◌, ◌++◌, Option, Some, None, IfSome, length, get_or, drop, map, option_map, refl, sym, ap, subst, add-one, append_assoc}
use Rattle.std.proofs.Math.Seq.{drop-cons}
use Rattle.std.specs.List.{cons_option, slice_get}
use Rattle.std.proofs.lemmas.List.Elements.{All-push}
use Rattle.std.proofs.lemmas.List.{map-append}
use Rattle.cfi_read_core.specs.SliceReaders.{EndianSlice}
use Rattle.cfi_read_core.specs.declared.endianity.RunTimeEndian.{RunTimeEndian}
use Rattle.cfi_step.specs.declared.module.LoadedModule.{LoadedModule}
use Rattle.cfi_processes.specs.declared.file_code.FileCode.{FileCode}
use Rattle.cfi_processes.specs.declared.profile_files.ProfileFile.{ProfileFile}
use Rattle.cfi_mapped.specs.declared.mappings.MappedCode.{MappedCode}
use Rattle.cfi_processes.specs.FileModules.{AreModulesOfFiles, IsModuleOf, IsModuleOfFiles}
use Rattle.cfi_processes.specs.KnownFiles.{KnownFile}
use Rattle.cfi_processes.specs.ProcessModules.{mapped_module, modules_in}
use Rattle.cfi_processes.specs.Modules.{FileModule, loaded_module_view}
use Rattle.cfi_processes.specs.Objects.{HasFramesOf}

abbrev Loaded : Type 0
Loaded = LoadedModule (EndianSlice RunTimeEndian)

pub of_file : (number : ℕ) (file : ProfileFile) (code : FileCode) (o : Option Loaded) → file.code ≡ Some code → IfSome o (HasFramesOf number code.object) → IfSome o (IsModuleOf number file)
of_file number file code None is frames = tt
of_file number file code (Some loaded) is frames = (code, is, frames)

one_of_files : (files : List ProfileFile) (number : ℕ) (file : ProfileFile) (loaded : Loaded) → slice_get files number ≡ Some file → IsModuleOf number file loaded → IsModuleOfFiles files loaded
one_of_files files number file loaded at (code, is, (same, frame, header, bases)) =
    (file, ap (slice_get files) same ∙ at, (code, is, (refl, frame, header, bases)))

pub of_files : (files : List ProfileFile) (number : ℕ) (file : ProfileFile) (o : Option Loaded) → slice_get files number ≡ Some file → IfSome o (IsModuleOf number file) → IfSome o (IsModuleOfFiles files)
of_files files number file None at is = tt
of_files files number file (Some loaded) at is = one_of_files files number file loaded at is

-- there is none
pub none_of_files : (files : List ProfileFile) (list : List Loaded) → list ≡ [] → AreModulesOfFiles files list
none_of_files files list is = subst (AreModulesOfFiles files) (sym is) (λ k d less. absurd (omega (arith, less)))

-- nothing has changed
pub still_of_files : (files now : List ProfileFile) (before after : List Loaded) → now ≡ files → after ≡ before → AreModulesOfFiles files before → AreModulesOfFiles now after
still_of_files files now before after same_files same are =
    subst (λ (known : List ProfileFile). AreModulesOfFiles known after) (sym same_files) (subst (AreModulesOfFiles files) (sym same) are)

-- a module was appended
pub one_more_module : (files : List ProfileFile) (before after : List Loaded) (loaded : Loaded) (o : Option Loaded) → after ≡ before ++ loaded ∷ [] → o ≡ Some loaded
    → IfSome o (IsModuleOfFiles files) → AreModulesOfFiles files before → AreModulesOfFiles files after
one_more_module files before after loaded o is found one all =
    subst (AreModulesOfFiles files) (sym is) (All-push (IsModuleOfFiles files) before loaded all (subst (λ (o : Option Loaded). IfSome o (IsModuleOfFiles files)) found one))

-- ---- one more mapping

module _ (files : List KnownFile) (list : List MappedCode) (i : ℕ) (d : MappedCode) (inside : i < length list) where
  abbrev pub rest : List FileModule
  rest = modules_in files (drop (i + 1) list)

  from_here : modules_in files (drop i list) ≡ cons_option (mapped_module files (get_or list i d)) rest
  from_here = rw (drop-cons list i d, add-one) refl

  -- that has a module
  pub module_appended : (before after : List Loaded) (whole : List FileModule) (loaded : Loaded) (o : Option Loaded) → after ≡ before ++ loaded ∷ [] → o ≡ Some loaded
      → option_map loaded_module_view o ≡ mapped_module files (get_or list i d) → map loaded_module_view before ++ modules_in files (drop i list) ≡ whole → map loaded_module_view after ++ rest ≡ whole
  module_appended before after whole loaded o is has found are =
      let here : modules_in files (drop i list) ≡ loaded_module_view loaded ∷ rest =
      from_here ∙ ap (λ (o : Option FileModule). cons_option o rest) (sym found ∙ ap (option_map loaded_module_view) has) in
      ap (λ (ms : List Loaded). map loaded_module_view ms ++ rest) is
      ∙ (ap (λ (ms : List FileModule). ms ++ rest) (map-append loaded_module_view before (loaded ∷ []))
      ∙ (append_assoc (map loaded_module_view before) (loaded_module_view loaded ∷ []) rest
      ∙ (ap (λ (ms : List FileModule). map loaded_module_view before ++ ms) (sym here) ∙ are)))

  -- that has none
  pub no_module : (before after : List Loaded) (whole : List FileModule) (o : Option Loaded) → after ≡ before → o ≡ None
      → option_map loaded_module_view o ≡ mapped_module files (get_or list i d) → map loaded_module_view before ++ modules_in files (drop i list) ≡ whole → map loaded_module_view after ++ rest ≡ whole
  no_module before after whole o is has found are =
      let here : modules_in files (drop i list) ≡ rest = from_here ∙ ap (λ (o : Option FileModule). cons_option o rest) (sym found ∙ ap (option_map loaded_module_view) has) in
      ap (λ (ms : List Loaded). map loaded_module_view ms ++ rest) is ∙ (ap (λ (ms : List FileModule). map loaded_module_view before ++ ms) (sym here) ∙ are)
