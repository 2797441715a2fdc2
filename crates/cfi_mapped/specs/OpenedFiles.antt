-- The files of a profile, as they were opened.
--     Opened      a file by its name, its build, its bytes and its debug file's, none where these
--         can't be had
--     IsOpenedAs opened file, AreOpenedAs opened files      what the code has of a file, or of
--         files: their parts
use Rattle.std.specs.Prelude.{◌≡◌, ℕ, Bool, List, [], ◌∷◌, Option, option_map, string_bytes}
use Rattle.std.specs.List.{list_all}
use Rattle.cfi_mapped.specs.declared.opened_file.OpenedFile.{OpenedFile}
use Rattle.cfi_mapped.specs.CodeMaps.{map_name}
use Rattle.cfi_mapped.specs.CodeParts.{ArePartsOfBytes, is_whole}
use Rattle.cfi_mapped.specs.Wanted.{Wanted}

pub record Opened : Type 0 where
  pub name : List ℕ
  pub build_id : Option (List ℕ)
  pub bytes : Option (List ℕ)
  pub debug : Option (List ℕ)  -- of its debug file
  pub process : Option ℕ
  pub map_name : Option (List ℕ)  -- where its process tells functions

-- a file of which the code has the parts that are needed, and those of its debug file
pub record IsOpenedAs (opened : OpenedFile) (file : Opened) : Type 0 where
  pub name_is : file.name ≡ opened.name.now
  pub build_id_is : file.build_id ≡ option_map (λ id. id.now) opened.build_id
  pub bytes_are : ArePartsOfBytes opened.code file.bytes
  pub debug_is : ArePartsOfBytes opened.debug file.debug
  pub process_is : file.process ≡ opened.process
  pub map_name_is : file.map_name ≡ option_map string_bytes opened.map_name

abbrev pub AreOpenedAs : List OpenedFile → List Opened → Type 0
AreOpenedAs [] files = files ≡ []
AreOpenedAs (one ∷ opened) files =
    (first : Opened) × (others : List Opened) × IsOpenedAs one first × AreOpenedAs opened others
    × (files ≡ first ∷ others)

-- whether all was read of each
abbrev pub are_whole : List OpenedFile → Bool
are_whole opened = list_all (λ one. is_whole one.code) opened

abbrev pub opened_as : Wanted → Option (List ℕ) → Option (List ℕ) → Opened
opened_as file bytes debug = record {
  name = file.name;
  build_id = file.build_id;
  bytes = bytes;
  debug = debug;
  process = file.process;
  map_name = option_map map_name file.process;
}
