-- The vdso, as the auxiliary vector tells of it (vdso(7)).
--     vdso_by segments vector      the vdso as it was mapped, as far as the core has its bytes
use Rattle.std.specs.Prelude.{ℕ, ◌+◌, ◌%◌, ◌^◌, List, length, codes, Option, option_map}
use Rattle.std.specs.Option.{option_and_then}
use Rattle.cfi_elf.specs.Fields.{entries}
use Rattle.cfi_cores.specs.AuxiliaryVectors.{value_in}
use Rattle.cfi_cores.specs.CoreSegments.{CoreSegment, bytes_at}
use Rattle.cfi_cores.specs.MappedFiles.{CoreMapping}

-- it is no file, and its name is that which /proc/PID/maps has for it
abbrev pub vdso_name : List ℕ
vdso_name = codes "[vdso]"

-- from its first byte on
abbrev pub vdso_over : List ℕ → ℕ → CoreMapping
vdso_over bytes a =
    record { start = a; end = (a + length bytes) % 2 ^ 64; offset = 0; name = vdso_name }

abbrev pub vdso_at : List CoreSegment → ℕ → Option CoreMapping
vdso_at segments a = option_map (λ bytes. vdso_over bytes a) (bytes_at segments a)

-- AT_SYSINFO_EHDR is 33
abbrev pub vdso_by : List CoreSegment → Option (List ℕ) → Option CoreMapping
vdso_by segments vector =
    option_and_then (vdso_at segments)
    (option_and_then (λ vector. value_in 33 (entries 16 vector)) vector)
