-- The names of signals and the head of a thread's object, worked out from the definitions alone.
use Rattle.std.proofs.Common.{◌≡◌, [], ◌∷◌, Some, None, codes, map, refl}
use Rattle.std.specs.Fmt.{digits}
use Rattle.cfi_core_stacks.specs.Signals.{signal_name}
use Rattle.cfi_core_stacks.specs.ThreadMembers.{thread_head}

some_signals : map signal_name (0 ∷ 1 ∷ 6 ∷ 11 ∷ 31 ∷ 32 ∷ []) ≡ None ∷ Some (codes "SIGHUP") ∷ Some (codes "SIGABRT") ∷ Some (codes "SIGSEGV") ∷ Some (codes "SIGSYS") ∷ None ∷ []
some_signals = refl

a_thread : thread_head (record { tid = 17121; signal = 6; fault = None; registers = [] }) (Some (codes "sorter")) ≡ codes "{\"tid\":17121,\"signal\":6,\"name\":\"SIGABRT\",\"process\":\"sorter\",\"frames\":["
unfolding digits
a_thread = refl

in_real_time : thread_head (record { tid = 7; signal = 34; fault = None; registers = [] }) None ≡ codes "{\"tid\":7,\"signal\":34,\"frames\":["
unfolding digits
in_real_time = refl

without_signal : thread_head (record { tid = 7; signal = 0; fault = None; registers = [] }) (Some (codes "sorter")) ≡ codes "{\"tid\":7,\"process\":\"sorter\",\"frames\":["
unfolding digits
without_signal = refl
