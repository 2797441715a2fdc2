-- The symbols of the kernel that runs, and the symbol after which its mapping is named.
--     KernelText, kernel_view      the text of the symbols, with the name of that symbol, and those
--         of the code
--     is_kernel_of mapped names      whether this is the kernel that was mapped
use Rattle.std.specs.Prelude.{ℕ, ◌==◌, ◌||◌, ◌&&◌, Bool, false, not, List, Option, Some, None}
use Rattle.std.specs.Prelude.{codes}
use Rattle.cfi_mapped.specs.KernelSymbols.{address_of_symbol}
use Rattle.cfi_mapped.specs.declared.mappings.MappedCode.{MappedCode}
use Rattle.cfi_mapped.specs.declared.kernel_names.KernelNames.{KernelNames}

pub record KernelText : Type 0 where
  pub text : List ℕ
  pub symbol : List ℕ

abbrev pub kernel_view : KernelNames → KernelText
kernel_view names = record { text = names.text.now; symbol = names.symbol.now }

-- ---- whether it is the kernel that ran

-- not at 0, which stands for an address that isn't told
abbrev pub is_where : ℕ → Option ℕ → Bool
is_where place None = false
is_where place (Some address) = address == place && not (address == 0)

-- it has the symbol after which the mapping is named where the mapping's offset says, and the end
-- of its code, or of its data, where the mapping ends
abbrev pub is_kernel_of : MappedCode → KernelText → Bool
is_kernel_of mapped names =
    is_where mapped.offset (address_of_symbol names.text names.symbol)
    && (is_where mapped.end (address_of_symbol names.text (codes "_etext"))
    || is_where mapped.end (address_of_symbol names.text (codes "_edata")))
