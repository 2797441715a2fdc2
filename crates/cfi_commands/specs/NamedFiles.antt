-- The files that are opened: a profile that the words name, and those that a profile or a core file
-- names.
--     MayOpenAt disk folders place opened      a file that a profile or a core file names, or none
--     MayOpenIn disk kind path opened      a profile at a path at which this is
--     MayOpenProfile disk tree name opened      a profile that the words name, or none
use Rattle.std.specs.Prelude.{◌⊎◌, true, Option, IsNone, codes}
use Rattle.clap.specs.Words.{Text}
use Rattle.cfi_mapped.specs.CodeMaps.{map_name}
use Rattle.cfi_mapped.specs.Wanted.{FilePlace, at_path, code_map, copy_of, debug_of}
use Rattle.cfi_mapped.specs.Wanted.{kernel_symbols, linked}
use Rattle.cfi_commands.specs.Disks.{Disk, of_any_kind, path_of, regular}
use Rattle.cfi_commands.specs.Folders.{Folders, copy_path, debug_path, folder_of, linked_path}
use Rattle.cfi_commands.specs.Folders.{path_below}
use Rattle.cfi_commands.specs.Trees.{Tree, path_in}
use Rattle.cfi_commands.specs.declared.system.Kind.{Kind}
use Rattle.cfi_commands.specs.declared.system.Kind.TheVariants.{File, Folder, Other}

-- the files that a profile or a core file names, in these folders; none is opened by a name that
-- isn't UTF-8, or if the file isn't a regular one. Copies of builds are below the home folder,
-- whatever that is. The kernel's symbols, and the functions of code that a process made, are those
-- of the system that runs
abbrev pub MayOpenAt : (disk : Disk) → Folders → FilePlace → Option disk.Handle → Type 0
MayOpenAt disk folders (at_path name) opened =
    IsNone opened ⊎ disk.MayOpen regular (path_below folders.symfs name) opened
MayOpenAt disk folders (copy_of build) opened =
    IsNone opened ⊎ ((home : Text) × disk.MayOpen regular (copy_path folders home build) opened)
MayOpenAt disk folders (debug_of build) opened =
    IsNone opened ⊎ disk.MayOpen regular (debug_path folders build) opened
MayOpenAt disk folders (linked place name link) opened =
    IsNone opened ⊎ disk.MayOpen regular (linked_path folders place (folder_of name) link) opened
MayOpenAt disk folders kernel_symbols opened =
    disk.MayOpen regular (codes "/proc/kallsyms") opened
MayOpenAt disk folders (code_map pid) opened =
    IsNone opened ⊎ disk.MayOpen regular (map_name pid) opened

-- of a folder the file `data` in it, or none where there is no memory for its path
abbrev pub MayOpenIn : (disk : Disk) → Kind → Text → Option disk.Handle → Type 0
MayOpenIn disk Folder path opened =
    IsNone opened ⊎ disk.MayOpen of_any_kind (path_in path (codes "data")) opened
MayOpenIn disk File path opened = disk.MayOpen of_any_kind path opened
MayOpenIn disk Other path opened = disk.MayOpen of_any_kind path opened

-- a profile that the words name, which may be a folder
abbrev pub MayOpenProfile : (disk : Disk) → Tree → Text → Option disk.Handle → Type 0
MayOpenProfile disk tree name opened =
    (kind : Kind) × tree.MayBe true (path_of name) kind × MayOpenIn disk kind (path_of name) opened
