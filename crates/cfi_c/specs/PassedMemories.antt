-- Memory in several windows, as C passes it.
--     number_in_memory memory a size      the number at an address, of the first window that has
--         all its bytes
--     bytes_in a size windows      bytes at an address, of the first window that has them all
--     abi_in memory      what the ABI says
use Rattle.std.specs.Prelude.{ℕ, ◌-◌, Bool, List, [], ◌∷◌, nat_le, if◌then◌else◌, Option, None}
use Rattle.std.specs.Option.{option_or}
use Rattle.cfi_elf.specs.Fields.{part}
use Rattle.cfi_elf.specs.Options.{or_else}
use Rattle.cfi_read_core.specs.SliceReaders.{slice_over}
use Rattle.cfi_expression.specs.Windows.{number_in}
use Rattle.cfi_step.specs.declared.abi.Abi.{Abi}
use Rattle.cfi_c.specs.declared.memory.CfiMemory.{CfiMemory}
use Rattle.cfi_c.specs.declared.memory.CfiWindow.{CfiWindow}

abbrev pub number_in_window : Bool → CfiWindow → ℕ → ℕ → Option ℕ
number_in_window big_endian window =
    number_in (slice_over window.bytes.now big_endian) window.base

abbrev pub number_in_windows : Bool → List CfiWindow → ℕ → ℕ → Option ℕ
number_in_windows big_endian [] a size = None
number_in_windows big_endian (window ∷ windows) a size =
    option_or (number_in_window big_endian window a size)
    (number_in_windows big_endian windows a size)

abbrev pub number_in_memory : CfiMemory → ℕ → ℕ → Option ℕ
number_in_memory memory = number_in_windows memory.big_endian memory.windows.now

-- bytes at an address
abbrev pub bytes_in_window : ℕ → ℕ → CfiWindow → Option (List ℕ)
bytes_in_window a size window =
    if nat_le window.base a then part window.bytes.now (a - window.base) size else None

-- of the first window that has them all
abbrev pub bytes_in : ℕ → ℕ → List CfiWindow → Option (List ℕ)
bytes_in a size [] = None
bytes_in a size (window ∷ windows) =
    or_else (bytes_in_window a size window) (bytes_in a size windows)

-- ---- the ABI

abbrev pub abi_in : CfiMemory → Abi
abi_in memory = record {
  stack_pointer = record { 0 = memory.stack_pointer };
  signature_mask = memory.signature_mask;
  max_iterations = memory.max_iterations;
}
