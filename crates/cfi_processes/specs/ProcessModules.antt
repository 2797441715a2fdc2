-- What is mapped in a process as modules.
--     modules_in files list      the modules of what is mapped, each with the number of its file
use Rattle.std.specs.Prelude.{ℕ, List, Option, slice_get}
use Rattle.std.specs.List.{filter_map}
use Rattle.std.specs.Option.{option_and_then}
use Rattle.cfi_mapped.specs.declared.mappings.MappedCode.{MappedCode}
use Rattle.cfi_processes.specs.Modules.{FileModule}
use Rattle.cfi_processes.specs.Objects.{object_module}
use Rattle.cfi_processes.specs.KnownFiles.{KnownFile}

abbrev pub file_module : MappedCode → ℕ → KnownFile → Option FileModule
file_module mapped number file =
    option_and_then (λ code. object_module number code.object code.tables mapped) file.code

-- the number of a file is its place among those of the profile
abbrev pub mapped_module : List KnownFile → MappedCode → Option FileModule
mapped_module files mapped =
    option_and_then (λ number. option_and_then (file_module mapped number) (slice_get files number))
    mapped.object

abbrev pub modules_in : List KnownFile → List MappedCode → List FileModule
modules_in files list = filter_map (mapped_module files) list
