-- Lists, numbers with decimals, times and paths, computed from the definitions alone.
use Rattle.std.proofs.Common.{◌≡◌, codes, refl, List, [], ◌∷◌, Some, None}
use Rattle.hex.specs.Hex.{encode_with}
use Rattle.cfi_commands.specs.Billionths.{billionths_of}
use Rattle.cfi_commands.specs.Disks.{path_of}
use Rattle.cfi_commands.specs.Folders.{Folders, copy_path, debug_path, path_below}
use Rattle.cfi_commands.specs.Targets.{names_listed}
use Rattle.cfi_commands.specs.Times.{times_of}
use Rattle.cfi_commands.specs.Trees.{path_in}

-- ---- lists of names, and paths in folders

-- a name is ended by a zero byte, the last need not be
two_names : names_listed (97 ∷ 0 ∷ 98 ∷ 99 ∷ 0 ∷ []) ≡ codes "a" ∷ codes "bc" ∷ []
two_names = refl

not_ended : names_listed (97 ∷ 0 ∷ 98 ∷ []) ≡ codes "a" ∷ codes "b" ∷ []
not_ended = refl

an_empty_name : names_listed (97 ∷ 0 ∷ 0 ∷ []) ≡ codes "a" ∷ [] ∷ []
an_empty_name = refl

an_empty_list : names_listed [] ≡ []
an_empty_list = refl

below_a_folder : path_in (codes "/usr/lib") (codes "a") ≡ codes "/usr/lib/a"
below_a_folder = refl

below_the_root : path_in (codes "/") (codes "a") ≡ codes "/a"
below_the_root = refl

-- ---- numbers with at most nine decimals, and times in seconds

some_decimals : billionths_of (codes "1324.912972") ≡ Some 1324912972000
some_decimals = refl

a_billionth : billionths_of (codes "0.000000001") ≡ Some 1
a_billionth = refl

whole_number : billionths_of (codes "12") ≡ Some 12000000000
whole_number = refl

ten_decimals : billionths_of (codes "1.0000000001") ≡ None
ten_decimals = refl

two_dots : billionths_of (codes "1.2.3") ≡ None
two_dots = refl

no_whole_number : billionths_of (codes ".5") ≡ None
no_whole_number = refl

-- each of which may be left out, behind or before the comma
two_times : times_of (codes "12.5,13") ≡ Some (record { from = Some 12500000000; until = Some 13000000000 })
two_times = refl

until_a_time : times_of (codes ",13") ≡ Some (record { from = None; until = Some 13000000000 })
until_a_time = refl

one_time : times_of (codes "12.5") ≡ None
one_time = refl

no_second_time : times_of (codes "12.5,end") ≡ None
no_second_time = refl

-- ---- paths below a root, and by the identification of a build

abbrev no_folders : Folders
no_folders = record { symfs = None; debug_dir = None }

below_a_root : path_below (Some (codes "/mnt")) (codes "/bin/ls") ≡ codes "/mnt/bin/ls"
below_a_root = refl

no_absolute_path : path_below (Some (codes "/mnt")) (codes "[vdso]") ≡ codes "[vdso]"
no_absolute_path = refl

a_copy : copy_path no_folders (codes "/h") (1 ∷ 171 ∷ 35 ∷ []) ≡ codes "/h/.debug/.build-id/01/ab23/elf"
unfolding encode_with
a_copy = refl

a_copy_below_a_root : copy_path (record no_folders { symfs = Some (codes "/mnt") }) (codes "/h") (1 ∷ 171 ∷ []) ≡ codes "/mnt/.debug/.build-id/01/ab/elf"
unfolding encode_with
a_copy_below_a_root = refl

a_debug_file : debug_path no_folders (1 ∷ 171 ∷ []) ≡ codes "/usr/lib/debug/.build-id/01/ab.debug"
unfolding encode_with
a_debug_file = refl

a_debug_file_below_a_root : debug_path (record no_folders { symfs = Some (codes "/mnt") }) (1 ∷ 171 ∷ []) ≡ codes "/mnt/usr/lib/debug/.build-id/01/ab.debug"
unfolding encode_with
a_debug_file_below_a_root = refl

a_debug_file_in_a_folder : debug_path (record { symfs = Some (codes "/mnt"); debug_dir = Some (codes "debug") }) (1 ∷ 171 ∷ []) ≡ codes "debug/.build-id/01/ab.debug"
unfolding encode_with
a_debug_file_in_a_folder = refl

-- ---- a hyphen alone is standard input

standard_input : path_of (codes "-") ≡ codes "/dev/stdin"
standard_input = refl

a_file_of_that_name : path_of (codes "./-") ≡ codes "./-"
a_file_of_that_name = refl
