-- The symbols of the kernel, as it tells them in /proc/kallsyms (proc(5)): on each line the address
-- in hexadecimal digits, the type, the name, and after a tab the module that has it, in brackets.
--     is_kernel_name name      whether a mapping with the name is of the kernel itself
--     kernel_symbol_of line      the symbol of a line
--     kernel_symbol_at text a      the last symbol of those that begin at an address, or else
--         nearest before it
--     address_of_symbol text name      the address of the kernel's first symbol with this name
use Rattle.std.specs.Prelude.{ℕ, ◌==◌, ◌||◌, ◌&&◌, Bool, true, false, List, [], ◌∷◌, Option, Some}
use Rattle.std.specs.Prelude.{None, codes, nat_eq, option_and_then, option_map, if◌then◌else◌}
use Rattle.std.specs.List.{filter_map, starts_with}
use Rattle.std.specs.Option.{is_none, option_or}
use Rattle.std.specs.Str.{bytes_eq}
use Rattle.cfi_mapped.specs.TextSymbols.{Symbol, TextParts, nearest_among, text_lines}
use Rattle.cfi_mapped.specs.TextSymbols.{told_number}
use Rattle.cfi_mapped.specs.TextSymbols.{split_at_byte}

abbrev pub kernel_image : List ℕ
kernel_image = codes "[kernel.kallsyms]"

-- the mapping of the kernel itself is named after this and a symbol (`[kernel.kallsyms]_text`)
abbrev pub is_kernel_name : List ℕ → Bool
is_kernel_name name = starts_with nat_eq name kernel_image

-- ---- a line

-- whether it is a function, by its type: T, t, W and w are functions, D, d, B and b data; other
-- types aren't looked at
abbrev pub is_function_type : ℕ → Bool
is_function_type c = c == 84 || c == 116 || c == 87 || c == 119

abbrev pub is_data_type : ℕ → Bool
is_data_type c = c == 68 || c == 100 || c == 66 || c == 98

abbrev pub is_function_of_letter : ℕ → Option Bool
is_function_of_letter c =
    if is_function_type c then Some true else if is_data_type c then Some false else None

-- of one letter
abbrev pub is_function_of_type : List ℕ → Option Bool
is_function_of_type [] = None
is_function_of_type (c ∷ []) = is_function_of_letter c
is_function_of_type (c ∷ d ∷ more) = None

-- after the type, and what is before and after a tab there, if there is one
abbrev pub symbol_named : ℕ → Bool → List ℕ → Option TextParts → Symbol
symbol_named address is_function name None =
    record { address = address; size = 0; is_function = is_function; name = name; owner = None }
symbol_named address is_function name (Some parts) = record {
  address = address;
  size = 0;
  is_function = is_function;
  name = parts.front;
  owner = Some parts.rest;
}

abbrev pub symbol_typed : ℕ → TextParts → Option Symbol
symbol_typed address parts =
    option_map
    (λ is_function. symbol_named address is_function parts.rest (split_at_byte 9 parts.rest))
    (is_function_of_type parts.front)

abbrev pub kernel_symbol_from : TextParts → Option Symbol
kernel_symbol_from parts =
    option_and_then
    (λ address. option_and_then (symbol_typed address) (split_at_byte 32 parts.rest))
    (told_number parts.front)

abbrev pub kernel_symbol_of : List ℕ → Option Symbol
kernel_symbol_of line = option_and_then kernel_symbol_from (split_at_byte 32 line)

-- ---- a text

unfoldable pub kernel_symbols_of : List ℕ → List Symbol
kernel_symbols_of text = filter_map kernel_symbol_of (text_lines text)

abbrev pub kernel_symbol_at : List ℕ → ℕ → Option Symbol
kernel_symbol_at text a = nearest_among (kernel_symbols_of text) a

-- of a symbol of the kernel itself
abbrev pub address_if : List ℕ → Symbol → Option ℕ
address_if name s = if is_none s.owner && bytes_eq s.name name then Some s.address else None

abbrev pub kernel_address_among : List Symbol → List ℕ → Option ℕ
kernel_address_among [] name = None
kernel_address_among (s ∷ symbols) name =
    option_or (address_if name s) (kernel_address_among symbols name)

abbrev pub address_of_symbol : List ℕ → List ℕ → Option ℕ
address_of_symbol text name = kernel_address_among (kernel_symbols_of text) name
