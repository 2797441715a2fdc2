-- Modules of the code, as the files of a profile that they are of.
--     IsModuleOf number file loaded      the module has this number and the call frames of the file
--     IsModuleOfFiles files loaded      it is of the file that its number counts to
--     AreModulesOfFiles files modules      each of them is
use Rattle.std.specs.Prelude.{◌≡◌, ℕ, List, Some, slice_get}
use Rattle.std.specs.List.{All}
use Rattle.cfi_read_core.specs.SliceReaders.{EndianSlice}
use Rattle.cfi_read_core.specs.declared.endianity.RunTimeEndian.{RunTimeEndian}
use Rattle.cfi_step.specs.declared.module.LoadedModule.{LoadedModule}
use Rattle.cfi_processes.specs.declared.file_code.FileCode.{FileCode}
use Rattle.cfi_processes.specs.declared.profile_files.ProfileFile.{ProfileFile}
use Rattle.cfi_processes.specs.Objects.{HasFramesOf}

abbrev pub IsModuleOf : ℕ → ProfileFile → LoadedModule (EndianSlice RunTimeEndian) → Type 0
IsModuleOf number file loaded =
    (code : FileCode) × (file.code ≡ Some code) × HasFramesOf number code.object loaded

abbrev pub IsModuleOfFiles : List ProfileFile → LoadedModule (EndianSlice RunTimeEndian) → Type 0
IsModuleOfFiles files loaded =
    (file : ProfileFile) × (slice_get files loaded.file ≡ Some file)
    × IsModuleOf loaded.file file loaded

abbrev pub AreModulesOfFiles :
    List ProfileFile → List (LoadedModule (EndianSlice RunTimeEndian)) → Type 0
AreModulesOfFiles files modules = All (IsModuleOfFiles files) modules
