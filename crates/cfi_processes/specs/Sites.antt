-- Where an address of a process is.
--     Site, site_view      where it is, as far as it is known, and that of the code
--     without_function site      the same, less its function
--     mapped_at list a      the mapping that has an address
--     site_of files list a      where an address is: the place in the file, the function and the
--         file's name
use Rattle.std.specs.Prelude.{ℕ, List, Option, None, option_map, Some, find, slice_get}
use Rattle.cfi_elf.specs.FunctionPlaces.{Place, place_view}
use Rattle.cfi_processes.specs.declared.sites.Site.{Site as SiteOfCode}
use Rattle.std.specs.Option.{option_and_then}
use Rattle.cfi_mapped.specs.declared.mappings.MappedCode.{MappedCode}
use Rattle.cfi_mapped.specs.CodeMaps.{CodeMapText, code_function_at}
use Rattle.cfi_processes.specs.FileFunctions.{mapped_function}
use Rattle.cfi_mapped.specs.Mappings.{has_byte_at, mapped_place}
use Rattle.cfi_processes.specs.KnownFiles.{KnownFile}

-- the place in the file that is mapped at an address, the function whose bytes have it, and the
-- file's name
pub record Site : Type 0 where
  pub place : ℕ
  pub function : Option Place
  pub file : Option (List ℕ)

abbrev pub site_view : SiteOfCode → Site
site_view site = record {
  place = site.place;
  function = option_map place_view site.function;
  file = option_map (λ name. name.bytes.now) site.file;
}

abbrev pub without_function : Site → Site
without_function site = record site { function = None }

-- ---- what is mapped at an address

abbrev pub mapped_at : List MappedCode → ℕ → Option MappedCode
mapped_at list a = find (λ mapped. has_byte_at mapped a) list

abbrev pub file_of : List KnownFile → MappedCode → Option KnownFile
file_of files mapped = option_and_then (slice_get files) mapped.object

-- where no file is mapped
abbrev pub nowhere : ℕ → Site
nowhere a = record { place = a; function = None; file = None }

-- in memory by its address, and by what its process tells of it
abbrev pub map_site : CodeMapText → ℕ → Site
map_site m a = record { place = a; function = code_function_at m.text a; file = Some m.name }

abbrev pub file_site : MappedCode → ℕ → KnownFile → Site
file_site mapped a file = record {
  place = (mapped_place mapped a).offset;
  function = option_and_then (mapped_function mapped a) file.functions;
  file = Some file.name;
}

abbrev pub site_by : Option CodeMapText → MappedCode → ℕ → KnownFile → Site
site_by None mapped a file = file_site mapped a file
site_by (Some m) mapped a file = map_site m a

abbrev pub site_in : MappedCode → ℕ → Option KnownFile → Site
site_in mapped a None = nowhere a
site_in mapped a (Some file) = site_by file.code_map mapped a file

abbrev pub site_at : List KnownFile → ℕ → Option MappedCode → Site
site_at files a None = nowhere a
site_at files a (Some mapped) = site_in mapped a (file_of files mapped)

abbrev pub site_of : List KnownFile → List MappedCode → ℕ → Site
site_of files list a = site_at files a (mapped_at list a)
