-- The machine on which a profile was recorded (perf.data-file-format.txt, HEADER_ARCH).
--     text_in big contents      the text that a section begins with
--     machine_by big mask      the machine on which samples have these registers
use Rattle.std.specs.Prelude.{ℕ, Bool, ◌&&◌, List, codes, Option, Some, None, Result, bit_and, ◌==◌}
use Rattle.std.specs.Prelude.{if◌then◌else◌, ok_or}
use Rattle.cfi_perf.specs.declared.error.PerfError.{PerfError}
use Rattle.cfi_perf.specs.declared.error.PerfError.TheVariants.{FeatureOutOfBounds}
use Rattle.cfi_perf.specs.Results.{and_then, or_error}
use Rattle.cfi_perf.specs.ByteReads.{before_zero, read_from, header_text}
use Rattle.cfi_perf.specs.Layouts.{has_any}

abbrev pub text_in : Bool → List ℕ → Result (List ℕ) PerfError
text_in big contents =
    and_then (or_error FeatureOutOfBounds (read_from big contents header_text)) (λ text.
    ok_or (before_zero text) FeatureOutOfBounds)

-- What stands after the records is lost where these are cut. Then the machine is known by the
-- registers of the first event: on x86-64 those that perf_regs.h lets a 64-bit program have, with
-- IP (8), and on AArch64 up to PC (32), with that.
abbrev pub machine_by : Bool → ℕ → Option (List ℕ)
machine_by big mask =
    if big then None
    else if has_any 0x100 mask && (bit_and mask 0xff0fff == mask) then Some (codes "x86_64")
    else if has_any 0x100000000 mask && (bit_and mask 0x1ffffffff == mask)
    then Some (codes "aarch64")
    else None
