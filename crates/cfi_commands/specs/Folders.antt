-- The folders in which the files are that a profile or a core file names: `--symfs`, `--debug-dir`.
--     path_below root name      where a file of this name is, below a root if there is one
--     copy_path folders home build      where `perf record` keeps a copy of the file of a build
--     debug_path folders build      where the debug file of the file of a build is
--     folder_of path      the path of the folder of a file
--     linked_path folders place folder link      where the debug file may be to which the link of a
--         file in this folder leads
use Rattle.std.specs.Prelude.{ℕ, ◌==◌, Bool, List, [], ◌∷◌, ◌++◌, Option, Some, None, codes, drop}
use Rattle.std.specs.Prelude.{option_map, take, unwrap_or, if◌then◌else◌}
use Rattle.std.specs.List.{list_any}
use Rattle.std.specs.Str.{bytes_eq}
use Rattle.cfi_mapped.specs.declared.wanted.LinkFolder.{LinkFolder}
use Rattle.cfi_mapped.specs.declared.wanted.LinkFolder.TheVariants.{Below, Beside, Central}
use Rattle.clap.specs.Words.{Text}
use Rattle.hex.specs.Hex.{encode_lower}
use Rattle.cfi_commands.specs.declared.folders.Folders.{Folders as FoldersOfCode}

pub record Folders : Type 0 where
  pub symfs : Option Text
  pub debug_dir : Option Text

abbrev pub folders_view : FoldersOfCode → Folders
folders_view folders = record {
  symfs = option_map (λ path. path.now) folders.symfs;
  debug_dir = option_map (λ path. path.now) folders.debug_dir;
}

-- ---- a file at a path

abbrev pub is_absolute : Text → Bool
is_absolute name = bytes_eq (take 1 name) (codes "/")

-- an absolute path is one below the root
abbrev pub path_below : Option Text → Text → Text
path_below None name = name
path_below (Some root) name = if is_absolute name then root ++ name else name

-- ---- a file by its build identification

-- the first byte names a folder, and the others a file in it
abbrev pub build_path : Text → List ℕ → Text → Text
build_path folder build end =
    folder ++ codes "/.build-id/" ++ encode_lower (take 1 build) ++ codes "/"
    ++ encode_lower (drop 1 build) ++ end

-- perf-buildid-cache(1); below a root, where perf looks for it with `--symfs`
abbrev pub copy_path : Folders → Text → List ℕ → Text
copy_path folders home build =
    build_path (unwrap_or folders.symfs home ++ codes "/.debug") build (codes "/elf")

abbrev pub debug_folder : Folders → Text
debug_folder folders =
    unwrap_or folders.debug_dir (path_below folders.symfs (codes "/usr/lib/debug"))

-- gdb's manual, "Debugging Information in Separate Files"
abbrev pub debug_path : Folders → List ℕ → Text
debug_path folders build = build_path (debug_folder folders) build (codes ".debug")

-- ---- a debug file by the link to it

-- before the last slash
abbrev pub folder_of : List ℕ → List ℕ
folder_of [] = []
folder_of (c ∷ path) = if list_any (λ c. c == 47) path then c ∷ folder_of path else []

-- as the same manual says
abbrev pub linked_path : Folders → LinkFolder → Text → Text → Text
linked_path folders Beside folder link = path_below folders.symfs (folder ++ codes "/" ++ link)
linked_path folders Below folder link =
    path_below folders.symfs (folder ++ codes "/.debug/" ++ link)
linked_path folders Central folder link = debug_folder folders ++ folder ++ codes "/" ++ link
