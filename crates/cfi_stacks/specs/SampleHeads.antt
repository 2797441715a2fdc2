-- What stands for the name of a thread.
--     thread_name_text tid name      its name, or what stands in the place of one
use Rattle.std.specs.Prelude.{ℕ, ◌==◌, List, ◌++◌, Option, Some, None, codes, if◌then◌else◌}
use Rattle.std.specs.Fmt.{decimal}
use Rattle.cfi_text.specs.Names.{shown}

-- where none is known its number, but for the idle thread
abbrev pub thread_name_text : ℕ → Option (List ℕ) → List ℕ
thread_name_text tid (Some name) = shown name
thread_name_text tid None = if tid == 0 then codes "swapper" else codes ":" ++ decimal tid
