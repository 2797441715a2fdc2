-- The files of a profile, as far as they can be read.
--     KnownCode, code_view      a file's call frames and their compiled tables, if it has these,
--         and those of the code
--     KnownFile, known_view      a file by its name, its functions, its code and, of the kernel,
--         its symbols, and that of the code
use Rattle.std.specs.Prelude.{ℕ, List, Option, option_map}
use Rattle.cfi_processes.specs.declared.file_code.FileCode.{FileCode}
use Rattle.cfi_processes.specs.declared.profile_files.ProfileFile.{ProfileFile}
use Rattle.cfi_mapped.specs.CodeMaps.{CodeMapText}
use Rattle.cfi_mapped.specs.CodeMapViews.{code_map_view}
use Rattle.cfi_processes.specs.FileFunctions.{Functions, functions_view}
use Rattle.cfi_mapped.specs.KernelNames.{KernelText, kernel_view}
use Rattle.cfi_processes.specs.Objects.{Object, Tables, object_view}

pub record KnownCode : Type 0 where
  pub object : Object
  pub tables : Tables

abbrev pub code_view : FileCode → KnownCode
code_view code = record {
  object = object_view code.object;
  tables = record { table = code.table; debug = code.debug_table };
}

-- A file by its name, and by its build if that is known: it has no functions where it can't be
-- opened or read, or is no ELF file, and no code also where it has no call frames.
pub record KnownFile : Type 0 where
  pub name : List ℕ
  pub build_id : Option (List ℕ)
  pub functions : Option Functions
  pub code : Option KnownCode
  pub kernel : Option KernelText
  pub process : Option ℕ
  pub code_map : Option CodeMapText

abbrev pub known_view : ProfileFile → KnownFile
known_view file = record {
  name = file.name.bytes.now;
  build_id = option_map (λ id. id.now) file.build_id;
  functions = option_map functions_view file.functions;
  code = option_map code_view file.code;
  kernel = option_map kernel_view file.kernel;
  process = file.process;
  code_map = option_map code_map_view file.code_map;
}
