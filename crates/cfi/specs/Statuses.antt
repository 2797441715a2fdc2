-- The status with which a run ends.
--     IsStatusWritten printed status      of what was printed, or that memory was refused, where
--         the output takes it
--     IsStatusOf printed status      of a run: 2 where the output can't be written
use Rattle.std.specs.Prelude.{◌≡◌, ◌⊎◌, ℕ, Result, MatchResult}
use Rattle.std.specs.IoError.{error_kind}
use Rattle.std.specs.declared.io.Error.{Error}
use Rattle.std.specs.declared.io.ErrorKind.TheVariants.{OutOfMemory}

abbrev pub IsStatusWritten : Result ℕ Error → ℕ → Type 0
IsStatusWritten printed status =
    MatchResult printed (λ answer. status ≡ answer)
    (λ error. (error_kind error ≡ OutOfMemory) × (status ≡ 1))

abbrev pub IsStatusOf : Result ℕ Error → ℕ → Type 0
IsStatusOf printed status = IsStatusWritten printed status ⊎ (status ≡ 2)
