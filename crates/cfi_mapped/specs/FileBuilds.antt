-- Of which build a file is, and whether another is its debug file.
--     there r      what was read of a file, if it is there
--     id_in image, id_of bytes      the build that the file says which it is of
--     has_build build bytes      whether the file of these bytes is of the build
--     link_in image, link_of bytes      the link of the file to its debug file
--     is_linked link build bytes      whether it is the one to which the link of a file of this
--         build leads
use Rattle.std.specs.Prelude.{ℕ, Bool, true, false, ◌&&◌, List, drop, length, Option, Some, None}
use Rattle.std.specs.Prelude.{nat_eq, ◌==◌, Result, Ok, Err}
use Rattle.std.specs.List.{list_all, starts_with}
use Rattle.std.specs.Option.{option_and_then}
use Rattle.std.specs.Result.{result_ok}
use Rattle.std.specs.Str.{bytes_eq}
use Rattle.cfi_elf.specs.Checksums.{crc32}
use Rattle.cfi_elf.specs.declared.error.ElfError.{ElfError}
use Rattle.cfi_elf.specs.DebugLinks.{Link, debug_link}
use Rattle.cfi_elf.specs.ElfFiles.{elf_file_of}
use Rattle.cfi_elf.specs.Images.{Image, whole}
use Rattle.cfi_elf.specs.BuildIds.{build_id}

-- ---- what is read of a file

-- the value, if it is there and no error is in its place
abbrev pub there : {A : Type 0} → Result (Option A) ElfError → Option A
there (Ok found) = found
there (Err e) = None

-- ---- the build of a file

-- zeros may follow the file's own: perf once kept 20 bytes of each
abbrev pub is_build : List ℕ → List ℕ → Bool
is_build build id =
    starts_with nat_eq build id && list_all (λ byte. byte == 0) (drop (length id) build)

abbrev pub is_known_build : List ℕ → Option (List ℕ) → Bool
is_known_build build None = false
is_known_build build (Some id) = is_build build id

-- none where it is no ELF file, or has none that can be read
abbrev pub id_in : Image → Option (List ℕ)
id_in image = option_and_then (λ file. there (build_id file)) (result_ok (elf_file_of image))

abbrev pub id_of : List ℕ → Option (List ℕ)
id_of bytes = id_in (whole bytes)

abbrev pub has_build : List ℕ → List ℕ → Bool
has_build build bytes = is_known_build build (id_of bytes)

-- ---- the debug file to which a link leads

-- none where it is no ELF file, or has none that can be read
abbrev pub link_in : Image → Option Link
link_in image = option_and_then (λ file. there (debug_link file)) (result_ok (elf_file_of image))

abbrev pub link_of : List ℕ → Option Link
link_of bytes = link_in (whole bytes)

-- where both are known they are the same
abbrev pub may_be_of : Option (List ℕ) → Option (List ℕ) → Bool
may_be_of None other = true
may_be_of (Some a) None = true
may_be_of (Some a) (Some b) = bytes_eq a b

abbrev pub is_linked : Link → Option (List ℕ) → List ℕ → Bool
is_linked link build bytes = (crc32 bytes == link.checksum) && may_be_of build (id_of bytes)
