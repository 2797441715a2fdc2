-- What an opener says of a profile and its files.
--     Notice      what is said
--     is_missing name build code      whether a file of a known build wasn't found
--     AreMissingSaid Said opened      it was said of each such file
use Rattle.std.specs.Prelude.{◌≡◌, ℕ, Bool, true, ◌&&◌, List, Option}
use Rattle.std.specs.List.{All}
use Rattle.std.specs.Option.{is_none, is_some}
use Rattle.cfi_mapped.specs.declared.code_parts.CodeParts.{CodeParts}
use Rattle.cfi_mapped.specs.declared.opened_file.OpenedFile.{OpenedFile}
use Rattle.cfi_mapped.specs.FileReads.{names_a_file}

-- that no file of the build that ran was found for a name, that the profile has no copies of
-- stacks, or how many of its records and samples were lost
pub data Notice : Type 0 where
  missing : (name : List ℕ) → Notice
  without_stacks : Notice
  lost : (records samples : ℕ) → Notice

abbrev pub is_missing : {A : Type 0} → List ℕ → Option A → Option CodeParts → Bool
is_missing name build code = names_a_file name && (is_some build && is_none code)

abbrev pub AreMissingSaid : (Notice → Type 0) → List OpenedFile → Type 0
AreMissingSaid Said opened =
    All
    (λ one. is_missing one.name.now one.build_id one.code ≡ true → Said (missing one.name.now))
    opened
