-- The files that are wanted of a profile.
--     Wanted, wanted_view      a file by its name, and by its build if that is known; or memory
--         that is no file's by its name and its process; that of the code
--     is_text name process      whether it is told in a text, and isn't read as a file of code
--     as_code name process read      what was read of it as of a file of code
--     FilePlace      where a file is opened
use Rattle.std.specs.Prelude.{ℕ, Bool, true, false, ◌&&◌, ◌||◌, List, Option, Some, None}
use Rattle.std.specs.Prelude.{option_map, ◌==◌, if◌then◌else◌}
use Rattle.std.specs.Option.{is_some}
use Rattle.std.specs.Str.{bytes_eq}
use Rattle.cfi_mapped.specs.declared.wanted.LinkFolder.{LinkFolder}
use Rattle.cfi_mapped.specs.declared.wanted.WantedFile.{WantedFile}
use Rattle.cfi_mapped.specs.KernelSymbols.{is_kernel_name}

pub record Wanted : Type 0 where
  pub name : List ℕ
  pub build_id : Option (List ℕ)
  pub process : Option ℕ

abbrev pub wanted_view : WantedFile → Wanted
wanted_view file = record {
  name = file.name.now;
  build_id = option_map (λ id. id.now) file.build_id;
  process = file.process;
}

abbrev pub same_id : Option (List ℕ) → Option (List ℕ) → Bool
same_id None None = true
same_id None (Some b) = false
same_id (Some a) None = false
same_id (Some a) (Some b) = bytes_eq a b

abbrev pub same_process : Option ℕ → Option ℕ → Bool
same_process None None = true
same_process None (Some b) = false
same_process (Some a) None = false
same_process (Some a) (Some b) = a == b

abbrev pub is_same : Wanted → Wanted → Bool
is_same a b =
    bytes_eq a.name b.name && same_id a.build_id b.build_id && same_process a.process b.process

-- the kernel tells its symbols, and a process the functions of memory that is no file's: a wanted
-- file of these is a text of names, and isn't read as a file of code
abbrev pub is_text : {A : Type 0} → List ℕ → Option A → Bool
is_text name process = is_kernel_name name || is_some process

abbrev pub as_code : {A B : Type 0} → List ℕ → Option A → Option B → Option B
as_code name process read = if is_text name process then None else read

-- at a path, where the recorder keeps a copy of each build, where debug files are, in a folder to
-- which the link of the file of a name may lead, where the kernel tells its symbols, or where a
-- process tells the functions of code that it made
pub data FilePlace : Type 0 where
  at_path : List ℕ → FilePlace
  copy_of : List ℕ → FilePlace
  debug_of : List ℕ → FilePlace
  linked : LinkFolder → (name link : List ℕ) → FilePlace
  kernel_symbols : FilePlace
  code_map : ℕ → FilePlace
