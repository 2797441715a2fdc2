-- Which files a check is of: those that are named, and with `--recursive` those in folders.
--     AreNamedFiles tree recursive names targets      the files for the words FILE..
--     AreListedFiles tree recursive list targets      the files for the bytes of a list, in which
--         each name is ended by a zero byte
--     AreIn tree depth folder targets      the files in a folder, and in those in it
--     AreTargets disk tree recursive names targets      the files for the words of a check
use Rattle.std.specs.Prelude.{◌≡◌, ◌⊎◌, ◌==◌, ◌&&◌, ◌||◌, ℕ, zero, suc, Bool, true, false, List}
use Rattle.std.specs.Prelude.{[], ◌∷◌, ◌++◌, Option, Some, None, codes, map, not, string_bytes}
use Rattle.std.specs.Cmp.Lexicographic.{slice_cmp}
use Rattle.std.specs.List.{slice_split}
use Rattle.std.specs.List.Sorted.{IsPermutation, IsSorted}
use Rattle.std.specs.Ordering.{nat_cmp}
use Rattle.std.specs.Str.{IsUtf8, bytes_eq}
use Rattle.clap.specs.Words.{Text}
use Rattle.cfi_text.specs.Readings.{AreLeft}
use Rattle.cfi_commands.specs.declared.system.Kind.{Kind}
use Rattle.cfi_commands.specs.declared.system.Kind.TheVariants.{File, Folder, Other}
use Rattle.cfi_commands.specs.declared.targets.TreeEntry.{TreeEntry as TreeEntryOfCode}
use Rattle.cfi_commands.specs.declared.targets.TreeEntry.TheVariants as entries
use Rattle.cfi_commands.specs.declared.targets.Target.{Target as TargetOfCode}
use Rattle.cfi_commands.specs.declared.targets.Target.TheVariants as targets
use Rattle.cfi_commands.specs.declared.words.FileArguments.{FileArguments}
use Rattle.cfi_commands.specs.declared.words.FileArguments.TheVariants as arguments
use Rattle.cfi_commands.specs.Disks.{Disk, MayOpenNamed}
use Rattle.cfi_commands.specs.Trees.{Tree, path_in}

-- ---- names

-- the files that a check is of: those that are named, or those of a list
pub data Names : Type 0 where
  of_files : List Text → Names
  of_list : Text → Names

abbrev pub names_view : FileArguments → Names
names_view (arguments.Files names) = of_files (map (λ name. name.now) names.now)
names_view (arguments.List name) = of_list name.now

-- what is behind the last zero byte is a name unless it is empty
abbrev pub rest_of : Text → List Text
rest_of [] = []
rest_of (c ∷ name) = (c ∷ name) ∷ []

abbrev pub with_rest : List Text → List Text
with_rest [] = []
with_rest (rest ∷ []) = rest_of rest
with_rest (name ∷ next ∷ more) = name ∷ with_rest (next ∷ more)

-- the names of a list, each ended by a zero byte
abbrev pub names_listed : List ℕ → List Text
names_listed list = with_rest (slice_split (λ c. c == 0) list)

-- in the order of their bytes
pub record AreNamesInOrder (names ordered : List Text) : Type 0 where
  pub same : IsPermutation names ordered
  pub rising : IsSorted (slice_cmp nat_cmp) ordered

-- a folder's own name in it, and its parent's
abbrev pub is_above : Text → Bool
is_above name = bytes_eq name (codes ".") || bytes_eq name (codes "..")

-- ---- the files

-- a file that was named; one that was found in a folder; or one that has no name to open it by, or
-- a folder that can't be read
pub data Target : Type 0 where
  named : Text → Target
  found : Text → Target
  unread : Target

abbrev pub target_view : TargetOfCode → Target
target_view (targets.Named name) = named (string_bytes name)
target_view (targets.Found path) = found (string_bytes path)
target_view targets.Unread = unread

-- what a name comes to: a file, a folder to look into, or nothing
pub data TreeEntry : Type 0 where
  one : Target → TreeEntry
  folder : Text → TreeEntry
  passed_over : TreeEntry

abbrev pub tree_entry_view : TreeEntryOfCode → TreeEntry
tree_entry_view (entries.One target) = one (target_view target)
tree_entry_view (entries.Folder path) = folder (string_bytes path)
tree_entry_view entries.PassedOver = passed_over

-- by what is at its path, which for a link is the link
abbrev pub found_entry : Kind → Text → TreeEntry
found_entry File path = one (found path)
found_entry Folder path = folder path
found_entry Other path = passed_over

-- a path is UTF-8, or can't be opened
abbrev pub IsAtPath : Tree → Text → TreeEntry → Type 0
IsAtPath tree path entry =
    (IsUtf8 path × ((kind : Kind) × tree.MayBe false path kind × (entry ≡ found_entry kind path)))
    ⊎ ((¬ IsUtf8 path) × (entry ≡ one unread))

-- of a name in a folder, which may be one of the two above it
abbrev pub IsBelow : Bool → Tree → Text → TreeEntry → Type 0
IsBelow true tree path entry = entry ≡ passed_over
IsBelow false tree path entry = IsAtPath tree path entry

abbrev pub IsEntry : Tree → Text → Text → TreeEntry → Type 0
IsEntry tree inside name entry = IsBelow (is_above name) tree (path_in inside name) entry

-- the files of an entry, by those in a folder
abbrev pub AreOfEntry : (Text → List Target → Type 0) → TreeEntry → List Target → Type 0
AreOfEntry AreInside (one target) targets = targets ≡ target ∷ []
AreOfEntry AreInside (folder path) targets = AreInside path targets
AreOfEntry AreInside passed_over targets = targets ≡ []

-- the files of names, one after the other, by what each comes to
abbrev pub AreOfNames :
    (Text → TreeEntry → Type 0) → (Text → List Target → Type 0) → List Text → List Target → Type 0
AreOfNames Is AreInside [] targets = targets ≡ []
AreOfNames Is AreInside (name ∷ names) targets =
    (entry : TreeEntry) × (first : List Target) × (more : List Target) × Is name entry
    × AreOfEntry AreInside entry first × AreOfNames Is AreInside names more
    × (targets ≡ first ++ more)

-- in the order of their names
abbrev pub AreOfList :
    Tree → (Text → List Target → Type 0) → Text → Option (List ℕ) → List Target → Type 0
AreOfList tree AreInside inside None targets = targets ≡ unread ∷ []
AreOfList tree AreInside inside (Some list) targets =
    (names : List Text) × AreNamesInOrder (names_listed list) names
    × AreOfNames (IsEntry tree inside) AreInside names targets

-- in a folder, where so many folders may lie one in another; the next one isn't listed, and is no
-- file that can be opened
unfoldable pub AreIn : Tree → ℕ → Text → List Target → Type 0
AreIn tree zero inside targets = targets ≡ found inside ∷ []
AreIn tree (suc depth) inside targets =
    (listing : Option (List ℕ)) × tree.MayList inside listing
    × AreOfList tree (AreIn tree depth) inside listing targets

-- as many as a path of 4,096 bytes has, the longest of Linux (`PATH_MAX`, limits.h)
abbrev pub depth_of_paths : ℕ
depth_of_paths = 2048

-- ---- the files that are named

-- a folder that is named, or that a link leads to which is named
abbrev pub named_entry : Kind → Text → TreeEntry
named_entry File name = one (named name)
named_entry Folder name = folder name
named_entry Other name = one (named name)

abbrev pub IsLookedAt : Bool → Tree → Text → TreeEntry → Type 0
IsLookedAt false tree name entry = entry ≡ one (named name)
IsLookedAt true tree name entry =
    (kind : Kind) × tree.MayBe true name kind × (entry ≡ named_entry kind name)

-- a hyphen is standard input, and no folder
abbrev pub IsNamedEntry : Tree → Bool → Text → TreeEntry → Type 0
IsNamedEntry tree recursive name entry =
    IsLookedAt (recursive && not (bytes_eq name (codes "-"))) tree name entry

abbrev pub AreNamedFiles : Tree → Bool → List Text → List Target → Type 0
AreNamedFiles tree recursive names targets =
    AreOfNames (IsNamedEntry tree recursive) (AreIn tree depth_of_paths) names targets

-- of a list: an empty name, and one that isn't UTF-8, can't be opened
abbrev pub IsListEntry : Tree → Bool → Text → TreeEntry → Type 0
IsListEntry tree recursive [] entry = entry ≡ one unread
IsListEntry tree recursive (c ∷ name) entry =
    (IsUtf8 (c ∷ name) × IsNamedEntry tree recursive (c ∷ name) entry)
    ⊎ ((¬ IsUtf8 (c ∷ name)) × (entry ≡ one unread))

abbrev pub AreListedFiles : Tree → Bool → List ℕ → List Target → Type 0
AreListedFiles tree recursive list targets =
    AreOfNames (IsListEntry tree recursive) (AreIn tree depth_of_paths) (names_listed list) targets

-- ---- the files of words

-- the bytes of a list
abbrev pub IsListRead : Disk → Text → List ℕ → Type 0
IsListRead disk name bytes =
    (file : disk.Handle) × MayOpenNamed disk name (Some file) × AreLeft (disk.bytes_of file) bytes

abbrev pub AreTargets : Disk → Tree → Bool → Names → List Target → Type 0
AreTargets disk tree recursive (of_files names) targets = AreNamedFiles tree recursive names targets
AreTargets disk tree recursive (of_list name) targets =
    (bytes : List ℕ) × IsListRead disk name bytes × AreListedFiles tree recursive bytes targets

-- ---- as the code has them

-- these files were added to those before
abbrev pub Adds : (List Target → Type 0) → List TargetOfCode → List TargetOfCode → Type 0
Adds Are old new =
    (more : List Target) × Are more × (map target_view new ≡ map target_view old ++ more)
