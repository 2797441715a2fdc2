-- The folders of a system, and the paths in them.
use Rattle.std.specs.Prelude.{ℕ, Bool, List, ◌++◌, Option, codes, nat_eq, if◌then◌else◌}
use Rattle.std.specs.List.{ends_with}
use Rattle.clap.specs.Words.{Text}
use Rattle.cfi_commands.specs.declared.system.Kind.{Kind}

-- What may be at a path, where the last link is followed or where it isn't; and the names that a
-- folder may be listed with, each ended by a zero byte, or none where it can't be read.
pub record Tree : Type 1 where
  pub MayBe : Bool → Text → Kind → Type 0
  pub MayList : Text → Option (List ℕ) → Type 0

abbrev pub tree_of :
    (Bool → Text → Kind → Type 0) → (Text → Option (List ℕ) → Type 0) → Tree
tree_of may_be may_list = record { MayBe = may_be; MayList = may_list }

-- the path of a name in a folder
abbrev pub path_in : Text → Text → Text
path_in folder name =
    if ends_with nat_eq folder (codes "/") then folder ++ name else folder ++ codes "/" ++ name
