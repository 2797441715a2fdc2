-- The files of a system, and which one a name opens.
use Rattle.std.specs.Prelude.{ℕ, List, Option, codes, if◌then◌else◌}
use Rattle.std.specs.Str.{bytes_eq}
use Rattle.clap.specs.Words.{Text}

-- A file of any kind, a pipe or a device too; or none but a regular file.
pub data FileKind : Type 0 where
  of_any_kind : FileKind
  regular : FileKind

-- The files of a system: what a path may be opened to, where files of any kind are opened or
-- regular ones alone, or none where it can't be opened; and the bytes of an open file, where they
-- are known.
pub record Disk : Type 1 where
  pub Handle : Type 0
  pub MayOpen : FileKind → Text → Option Handle → Type 0
  pub bytes_of : Handle → Option (List ℕ)

abbrev pub disk_of :
    {Handle : Type 0} → (FileKind → Text → Option Handle → Type 0) →
    (Handle → Option (List ℕ)) → Disk
disk_of {Handle} may_open bytes_of =
    record { Handle = Handle; MayOpen = may_open; bytes_of = bytes_of }

-- a hyphen stands for standard input
abbrev pub path_of : Text → Text
path_of name = if bytes_eq name (codes "-") then codes "/dev/stdin" else name

-- a file that the words name, of any kind
abbrev pub MayOpenNamed : (disk : Disk) → Text → Option disk.Handle → Type 0
MayOpenNamed disk name opened = disk.MayOpen of_any_kind (path_of name) opened
