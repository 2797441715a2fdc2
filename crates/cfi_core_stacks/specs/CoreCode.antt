-- What is mapped as code in the process of a core, and the files that are opened for it.
--     core_code_files segments mapped      the files that are mapped as code, with the builds that
--         the core has of them
--     core_mappings files segments mapped      what is mapped as code, with the files' numbers
--     with_vdso_file core opened      the files that were opened, and the vdso as the core has it
--     AreOpenedFor may_open remaining core all      these, as they may be opened
use Rattle.std.specs.Prelude.{◌≡◌, ℕ, ◌==◌, ◌||◌, ◌&&◌, Bool, List, [], ◌∷◌, ◌++◌, Option, Some}
use Rattle.std.specs.Prelude.{None, fold, not, position, if◌then◌else◌}
use Rattle.std.specs.List.{list_all}
use Rattle.std.specs.Option.{option_map}
use Rattle.std.specs.Str.{bytes_eq}
use Rattle.cfi_mapped.specs.declared.mappings.MappedCode.{MappedCode}
use Rattle.cfi_processes.specs.KnownFiles.{KnownFile}
use Rattle.cfi_mapped.specs.Mappings.{mapped_over}
use Rattle.cfi_mapped.specs.declared.opened_file.OpenedFile.{OpenedFile}
use Rattle.cfi_mapped.specs.OpenedFiles.{IsOpenedAs, Opened}
use Rattle.cfi_mapped.specs.FileReads.{AreOpened}
use Rattle.cfi_mapped.specs.WantedFiles.{with_file}
use Rattle.cfi_mapped.specs.Wanted.{FilePlace, Wanted}
use Rattle.cfi_cores.specs.Builds.{build_of, mapped_image}
use Rattle.cfi_cores.specs.CoreFiles.{Core}
use Rattle.cfi_cores.specs.CoreSegments.{CoreSegment}
use Rattle.cfi_cores.specs.MappedFiles.{CoreMapping}
use Rattle.cfi_cores.specs.Vdso.{vdso_name}

-- ---- what is mapped as code

-- not code where a segment of the core begins that isn't executable; gcore writes none of code
abbrev pub is_code : List CoreSegment → CoreMapping → Bool
is_code segments m =
    list_all (λ segment. segment.is_executable || not (segment.start == m.start)) segments

-- the vdso is no file to be opened
abbrev pub is_file_of_code : List CoreSegment → CoreMapping → Bool
is_file_of_code segments m = is_code segments m && not (bytes_eq m.name vdso_name)

abbrev pub core_code_file : List CoreSegment → List CoreMapping → CoreMapping → Option Wanted
core_code_file segments mapped m =
    if is_file_of_code segments m
    then Some (record {
      name = m.name;
      build_id = build_of segments mapped m.name;
      process = None;
    })
    else None

-- each once, in the order of the mappings
abbrev pub core_code_files : List CoreSegment → List CoreMapping → List Wanted
core_code_files segments mapped =
    fold (λ files m. with_file files (core_code_file segments mapped m)) [] mapped

-- with the number of its file among those that were opened
abbrev pub core_mapped_code : List KnownFile → CoreMapping → MappedCode
core_mapped_code files m = record {
  start = m.start;
  end = m.end;
  offset = m.offset;
  object = position (λ file. bytes_eq file.name m.name) files;
}

abbrev pub with_mapping :
    List KnownFile → List CoreSegment → List MappedCode → CoreMapping → List MappedCode
with_mapping files segments list m =
    if is_code segments m then mapped_over (core_mapped_code files m) list else list

abbrev pub core_mappings :
    List KnownFile → List CoreSegment → List CoreMapping → List MappedCode
core_mappings files segments mapped = fold (with_mapping files segments) [] mapped

-- ---- the vdso

-- as a file whose bytes are those that the core has of it
abbrev pub vdso_file : Core → Option Opened
vdso_file core =
    option_map (λ image. record {
      name = vdso_name;
      build_id = build_of core.segments core.mapped vdso_name;
      bytes = Some image;
      debug = None;
      process = None;
      map_name = None;
    }) (mapped_image core.segments core.mapped vdso_name)

-- what the code has of it
abbrev pub IsVdsoAs : Option OpenedFile → Option Opened → Type 0
IsVdsoAs None file = file ≡ None
IsVdsoAs (Some one) file = (known : Opened) × (file ≡ Some known) × IsOpenedAs one known

abbrev pub and_file : List Opened → Option Opened → List Opened
and_file opened None = opened
and_file opened (Some file) = opened ++ file ∷ []

abbrev pub with_vdso_file : Core → List Opened → List Opened
with_vdso_file core opened = and_file opened (vdso_file core)

-- the files of a core, and the vdso
abbrev pub AreOpenedFor :
    {Handle : Type 0} → (FilePlace → Option Handle → Type 0) → (Handle → Option (List ℕ)) →
    Core → List Opened → Type 0
AreOpenedFor may_open remaining core all =
    (opened : List Opened)
    × AreOpened may_open remaining (core_code_files core.segments core.mapped) opened
    × (all ≡ with_vdso_file core opened)
