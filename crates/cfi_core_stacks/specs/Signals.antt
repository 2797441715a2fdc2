-- The signals of Linux on x86-64 and AArch64 (signal(7), asm-generic/signal.h).
--     signal_name n      the name of the signal with this number; none for those in real time
use Rattle.std.specs.Prelude.{ℕ, ◌+◌, ◌==◌, List, [], ◌∷◌, codes, Option, Some, None}
use Rattle.std.specs.Prelude.{if◌then◌else◌}

-- from 1 on
abbrev pub signal_names : List (List ℕ)
signal_names =
    codes "SIGHUP" ∷ codes "SIGINT" ∷ codes "SIGQUIT" ∷ codes "SIGILL" ∷ codes "SIGTRAP"
    ∷ codes "SIGABRT" ∷ codes "SIGBUS" ∷ codes "SIGFPE" ∷ codes "SIGKILL" ∷ codes "SIGUSR1"
    ∷ codes "SIGSEGV" ∷ codes "SIGUSR2" ∷ codes "SIGPIPE" ∷ codes "SIGALRM" ∷ codes "SIGTERM"
    ∷ codes "SIGSTKFLT" ∷ codes "SIGCHLD" ∷ codes "SIGCONT" ∷ codes "SIGSTOP" ∷ codes "SIGTSTP"
    ∷ codes "SIGTTIN" ∷ codes "SIGTTOU" ∷ codes "SIGURG" ∷ codes "SIGXCPU" ∷ codes "SIGXFSZ"
    ∷ codes "SIGVTALRM" ∷ codes "SIGPROF" ∷ codes "SIGWINCH" ∷ codes "SIGIO" ∷ codes "SIGPWR"
    ∷ codes "SIGSYS" ∷ []

-- the name of a number, where the first of them is that of `first`
abbrev pub named_from : ℕ → List (List ℕ) → ℕ → Option (List ℕ)
named_from first [] n = None
named_from first (name ∷ names) n =
    if n == first then Some name else named_from (first + 1) names n

abbrev pub signal_name : ℕ → Option (List ℕ)
signal_name n = named_from 1 signal_names n
