-- Places in the kernel and in code that a process made, worked out from the definitions alone.
use Rattle.std.proofs.Common.{◌≡◌, ℕ, ◌++◌, List, [], ◌∷◌, Some, None, codes, refl}
use Rattle.cfi_mapped.specs.CodeMaps.{map_symbols_of as codes_of}
use Rattle.cfi_mapped.specs.KernelSymbols.{kernel_symbols_of}
use Rattle.cfi_processes.specs.KnownFiles.{KnownFile}
use Rattle.cfi_processes.specs.KernelSites.{kernel_site}
use Rattle.cfi_processes.specs.Sites.{site_of}
use Rattle.cfi_processes.specs.Sites.{Site}
use Rattle.cfi_mapped.proofs.WorkedSymbols.{made, mapped, text}

-- ---- where a kernel of four lines is mapped

abbrev kernel : List ℕ → KnownFile
kernel symbol = record { name = codes "[kernel.kallsyms]" ++ symbol; build_id = None; functions = None; code = None; kernel = Some (record { text = text; symbol = symbol }); process = None; code_map = None }

abbrev module_file : KnownFile
module_file = record { name = codes "[nf_tables]"; build_id = None; functions = None; code = None; kernel = None; process = None; code_map = None }

abbrev site_at : ℕ → ℕ → ℕ → Site
site_at offset end a = kernel_site (kernel (codes "_text") ∷ module_file ∷ []) (mapped 0x1000 end offset 0 ∷ mapped 0x2000 0x3000 0 1 ∷ []) a

abbrev known : ℕ → List ℕ → ℕ → List ℕ → Site
known a name offset file = record { place = a; function = Some (record { name = name; offset = offset }); file = Some file }

abbrev unknown : ℕ → List ℕ → Site
unknown a file = record { place = a; function = None; file = Some file }

in_the_kernel : site_at 0x1000 0x1080 0x1047 ≡ known 0x1047 (codes "schedule") 7 (codes "[kernel.kallsyms]")
unfolding kernel_symbols_of
in_the_kernel = refl

in_the_module : site_at 0x1000 0x1080 0x2015 ≡ known 0x2015 (codes "nft_do_chain") 5 (codes "[nf_tables]")
unfolding kernel_symbols_of
in_the_module = refl

-- the nearest symbol is data of the kernel
before_the_module : site_at 0x1000 0x1080 0x2004 ≡ unknown 0x2004 (codes "[nf_tables]")
unfolding kernel_symbols_of
before_the_module = refl

-- the profile has the kernel's first function elsewhere
after_another_boot : site_at 0x3000 0x1080 0x1047 ≡ unknown 0x1047 (codes "[kernel.kallsyms]")
unfolding kernel_symbols_of
after_another_boot = refl

-- or its code is longer
another_kernel : site_at 0x1000 0x1090 0x1047 ≡ unknown 0x1047 (codes "[kernel.kallsyms]")
unfolding kernel_symbols_of
another_kernel = refl

-- ---- code made at run time

abbrev memory : KnownFile
memory = record { name = codes "//anon"; build_id = None; functions = None; code = None; kernel = None; process = Some 7; code_map = Some (record { name = codes "/tmp/perf-7.map"; text = made }) }

in_memory : site_of (memory ∷ []) (mapped 0x100 0x200 0 0 ∷ []) 0x143 ≡ known 0x143 (codes "other") 3 (codes "/tmp/perf-7.map")
unfolding codes_of
in_memory = refl
