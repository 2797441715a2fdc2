-- Symbols of the kernel and of code that a process made, worked out from the definitions alone; lines of /proc/kallsyms and of proc(5), with other addresses.
use Rattle.std.proofs.Common.{◌≡◌, ℕ, ◌++◌, List, [], ◌∷◌, Option, Some, None, codes, true, false, refl, option_map}
use Rattle.cfi_mapped.specs.declared.mappings.MappedCode.{MappedCode}
use Rattle.std.specs.Fmt.{digits}
use Rattle.cfi_mapped.specs.CodeMaps.{code_function_at, map_name}
use Rattle.cfi_mapped.specs.CodeMaps.{map_symbol_of as of_code, map_symbols_of as codes_of}
use Rattle.cfi_mapped.specs.KernelNames.{is_kernel_of}
use Rattle.cfi_mapped.specs.KernelSymbols.{kernel_symbol_at, kernel_symbol_of, kernel_symbols_of}
use Rattle.cfi_mapped.specs.TextSymbols.{Symbol}

of_the_kernel : kernel_symbol_of (codes "ffffffff81000130 T entry_SYSCALL_64") ≡ Some (record { address = 0xffffffff81000130; size = 0; is_function = true; name = codes "entry_SYSCALL_64"; owner = None })
of_the_kernel = refl

of_a_module : kernel_symbol_of (codes "ffffffffc0a3D000 t nft_do_chain\t[nf_tables]") ≡ Some (record { address = 0xffffffffc0a3d000; size = 0; is_function = true; name = codes "nft_do_chain"; owner = Some (codes "[nf_tables]") })
of_a_module = refl

of_data : option_map (λ (s : Symbol). s.is_function) (kernel_symbol_of (codes "0 B _end")) ≡ Some false
of_data = refl

read_only : kernel_symbol_of (codes "ffffffff82200000 r __func__") ≡ None
read_only = refl

no_type : kernel_symbol_of (codes "ffffffff82200000") ≡ None
no_type = refl

more_than_64_bits : kernel_symbol_of (codes "1ffffffff82200000 T f") ≡ None
more_than_64_bits = refl

-- ---- a kernel of four lines, the last of which is a module's

abbrev pub text : List ℕ
text =
    codes "1000 T _stext" ++ 10 ∷ codes "1000 T _text" ++ 10 ∷ codes "1040 t schedule" ++ 10 ∷ codes "1080 T _etext" ++ 10
    ∷ codes "1090 D jiffies" ++ 10 ∷ codes "2010 t nft_do_chain\t[nf_tables]" ++ 10 ∷ []

name_at : ℕ → Option (List ℕ)
name_at a = option_map (λ (s : Symbol). s.name) (kernel_symbol_at text a)

-- the last of those that begin there
last_of_two : name_at 0x1004 ≡ Some (codes "_text")
unfolding name_at kernel_symbols_of
last_of_two = refl

at_its_first_byte : name_at 0x1040 ≡ Some (codes "schedule")
unfolding name_at kernel_symbols_of
at_its_first_byte = refl

before_all : name_at 3 ≡ None
unfolding name_at kernel_symbols_of
before_all = refl

abbrev pub mapped : ℕ → ℕ → ℕ → ℕ → MappedCode
mapped start end offset file = record { start = start; end = end; offset = offset; object = Some file }

-- each address is told as 0
not_told : is_kernel_of (mapped 0 0 0 0) (record { text = codes "0 T _text" ++ 10 ∷ codes "0 T _etext"; symbol = codes "_text" }) ≡ false
unfolding kernel_symbols_of
not_told = refl

-- ---- code made at run time: lines of a file that node wrote, with other addresses

of_node : of_code (codes "18c4000 300 Builtin:DeoptimizationEntry_Eager") ≡ Some (record { address = 0x18c4000; size = 0x300; is_function = true; name = codes "Builtin:DeoptimizationEntry_Eager"; owner = None })
of_node = refl

name_with_spaces : option_map (λ (s : Symbol). s.name) (of_code (codes "7f7274006180 1d4 JS:*fib /srv/fib.js:1:13")) ≡ Some (codes "JS:*fib /srv/fib.js:1:13")
name_with_spaces = refl

no_size : of_code (codes "18c4000 fib") ≡ None
no_size = refl

abbrev pub made : List ℕ
made = codes "100 20 first" ++ 10 ∷ codes "100 10 again" ++ 10 ∷ codes "140 8 other" ++ 10 ∷ []

in_the_later_one : code_function_at made 0x10f ≡ Some (record { name = codes "again"; offset = 0xf })
unfolding codes_of
in_the_later_one = refl

behind_the_later_one : code_function_at made 0x110 ≡ None
unfolding codes_of
behind_the_later_one = refl

path_of_a_process : map_name 5281 ≡ codes "/tmp/perf-5281.map"
unfolding digits
path_of_a_process = refl
