-- The fault for which a thread got a signal (siginfo_t of sigaction(2), asm-generic/siginfo.h).
--     fault_in desc      the fault of which a note of the type NT_SIGINFO tells
--     with_fault fault threads      the first thread has it: the note stands with its others
use Rattle.std.specs.Prelude.{ℕ, Bool, ◌&&◌, ◌||◌, ◌==◌, false, List, [], ◌∷◌, length, nat_le}
use Rattle.std.specs.Prelude.{nat_lt, Option, Some, None, if◌then◌else◌}
use Rattle.std.specs.Int.{w32, w64}
use Rattle.std.specs.Option.{option_and_then}
use Rattle.cfi_elf.specs.Fields.{number_at}
use Rattle.cfi_cores.specs.declared.fault.Fault.{Fault}
use Rattle.cfi_cores.specs.CoreThreads.{CoreThread}

-- SIGILL is 4, SIGTRAP is 5, SIGBUS is 7, SIGFPE is 8, SIGSEGV is 11
abbrev pub is_of_fault : ℕ → Bool
is_of_fault signal =
    (signal == 4) || ((signal == 5) || ((signal == 7) || ((signal == 8) || (signal == 11))))

-- Codes of the kernel's are above 0. SI_KERNEL, which is 0x80, says of no address.
abbrev pub tells_address : ℕ → ℕ → Bool
tells_address signal code = is_of_fault signal && (nat_le 1 code && nat_lt code 0x80)

-- si_signo, si_errno and si_code have four bytes each; four bytes pad them; si_addr has eight
abbrev pub fault_in : List ℕ → Option Fault
fault_in desc =
    let code = number_at false desc 8 w32 in
    if nat_lt (length desc) 24 then None
    else if tells_address (number_at false desc 0 w32) code
    then Some (record { code = code; address = number_at false desc 16 w64 })
    else None

abbrev pub fault_by : Option (List ℕ) → Option Fault
fault_by siginfo = option_and_then fault_in siginfo

-- the one that the kernel writes first, which got the signal
abbrev pub with_fault : Option Fault → List CoreThread → List CoreThread
with_fault fault [] = []
with_fault fault (thread ∷ threads) = record thread { fault = fault } ∷ threads
