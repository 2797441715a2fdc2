-- Where an address of the kernel is.
--     kernel_site files list a      where an address of the kernel is, of which this is mapped
use Rattle.std.specs.Prelude.{ℕ, ◌-◌, ◌&&◌, Bool, false, List, [], ◌∷◌, Option, Some, None}
use Rattle.std.specs.Prelude.{option_map, if◌then◌else◌}
use Rattle.std.specs.Option.{option_and_then, option_or}
use Rattle.std.specs.Str.{bytes_eq}
use Rattle.cfi_mapped.specs.declared.mappings.MappedCode.{MappedCode}
use Rattle.cfi_mapped.specs.KernelNames.{KernelText, is_kernel_of}
use Rattle.cfi_mapped.specs.KernelSymbols.{is_kernel_name, kernel_image, kernel_symbol_at}
use Rattle.cfi_mapped.specs.TextSymbols.{Symbol}
use Rattle.cfi_processes.specs.Sites.{Site, file_of, site_of}
use Rattle.cfi_elf.specs.FunctionPlaces.{Place}
use Rattle.cfi_processes.specs.KnownFiles.{KnownFile}

-- of the kernel itself without the symbol after which its mapping is named
abbrev pub kernel_name : List ℕ → List ℕ
kernel_name name = if is_kernel_name name then kernel_image else name

-- of the kernel that is mapped; not of another one, or of this one after another boot, which moves
-- it
abbrev pub kernel_names_if : MappedCode → KernelText → Option KernelText
kernel_names_if mapped names = if is_kernel_of mapped names then Some names else None

abbrev pub kernel_names_of : MappedCode → Option KnownFile → Option KernelText
kernel_names_of mapped None = None
kernel_names_of mapped (Some file) = option_and_then (kernel_names_if mapped) file.kernel

-- of the first mapping that is the kernel's
abbrev pub kernel_names : List KnownFile → List MappedCode → Option KernelText
kernel_names files [] = None
kernel_names files (mapped ∷ list) =
    option_or (kernel_names_of mapped (file_of files mapped)) (kernel_names files list)

abbrev pub kernel_symbol : List KnownFile → List MappedCode → ℕ → Option Symbol
kernel_symbol files list a =
    option_and_then (λ names. kernel_symbol_at names.text a) (kernel_names files list)

-- whether the file that is mapped at its address is the kernel, or the module, that has it
abbrev pub is_owner : Option (List ℕ) → List ℕ → Bool
is_owner None name = bytes_eq name kernel_image
is_owner (Some owner) name = bytes_eq name owner

abbrev pub is_function_in : Option (List ℕ) → Symbol → Bool
is_function_in None s = false
is_function_in (Some name) s = s.is_function && is_owner s.owner name

abbrev pub kernel_function : Option (List ℕ) → ℕ → Symbol → Option Place
kernel_function file a s =
    if is_function_in file s then Some (record { name = s.name; offset = a - s.address }) else None

abbrev pub kernel_site_in : Option (List ℕ) → ℕ → Option Symbol → Site
kernel_site_in file a symbol =
    record { place = a; function = option_and_then (kernel_function file a) symbol; file = file }

-- by its address, and by the symbols of the kernel that is mapped
abbrev pub kernel_site : List KnownFile → List MappedCode → ℕ → Site
kernel_site files list a =
    kernel_site_in (option_map kernel_name (site_of files list a).file) a
    (kernel_symbol files list a)
