-- The functions of code that a process made, as it tells them in /tmp/perf-PID.map (perf's
-- jit-interface.txt): on each line where one begins and its size, in hexadecimal digits, and the
-- name.
--     is_memory_name name      whether a mapping with the name is of memory that is no file's
--     map_name pid      the path of the file of a process
--     map_symbol_of line      the function of a line
--     code_function_at text a      the function by which an address is
--     CodeMapText      the text with its path
use Rattle.std.specs.Prelude.{ℕ, ◌-◌, ◌||◌, Bool, true, List, ◌++◌, Option, Some, None}
use Rattle.std.specs.Prelude.{codes, nat_eq, nat_lt, option_and_then, option_map, if◌then◌else◌}
use Rattle.std.specs.Fmt.{decimal}
use Rattle.std.specs.List.{filter_map, starts_with}
use Rattle.cfi_elf.specs.FunctionPlaces.{Place}
use Rattle.cfi_mapped.specs.TextSymbols.{Symbol, TextParts, nearest_among, text_lines}
use Rattle.cfi_mapped.specs.TextSymbols.{told_number}
use Rattle.cfi_mapped.specs.TextSymbols.{split_at_byte}

abbrev pub begins_with : List ℕ → List ℕ → Bool
begins_with front name = starts_with nat_eq name front

-- as the kernel and perf name it
abbrev pub is_memory_name : List ℕ → Bool
is_memory_name name =
    begins_with (codes "//anon") name || begins_with (codes "[anon") name
    || begins_with (codes "/memfd:") name || begins_with (codes "/dev/zero") name
    || begins_with (codes "/anon_hugepage") name || begins_with (codes "/SYSV") name
    || begins_with (codes "[heap]") name || begins_with (codes "[stack") name

abbrev pub map_name : ℕ → List ℕ
map_name pid = codes "/tmp/perf-" ++ decimal pid ++ codes ".map"

-- ---- a line

abbrev pub symbol_with : ℕ → ℕ → List ℕ → Symbol
symbol_with address size name =
    record { address = address; size = size; is_function = true; name = name; owner = None }

abbrev pub symbol_sized : ℕ → TextParts → Option Symbol
symbol_sized address parts =
    option_map (λ size. symbol_with address size parts.rest) (told_number parts.front)

abbrev pub map_symbol_from : TextParts → Option Symbol
map_symbol_from parts =
    option_and_then
    (λ address. option_and_then (symbol_sized address) (split_at_byte 32 parts.rest))
    (told_number parts.front)

abbrev pub map_symbol_of : List ℕ → Option Symbol
map_symbol_of line = option_and_then map_symbol_from (split_at_byte 32 line)

-- ---- a text

unfoldable pub map_symbols_of : List ℕ → List Symbol
map_symbols_of text = filter_map map_symbol_of (text_lines text)

-- if it is in one of its bytes
abbrev pub place_by : ℕ → Symbol → Option Place
place_by a s =
    if nat_lt (a - s.address) s.size
    then Some (record { name = s.name; offset = a - s.address })
    else None

-- the one that begins there last in the text, or else nearest before it
abbrev pub code_function_at : List ℕ → ℕ → Option Place
code_function_at text a = option_and_then (place_by a) (nearest_among (map_symbols_of text) a)

pub record CodeMapText : Type 0 where
  pub name : List ℕ
  pub text : List ℕ
