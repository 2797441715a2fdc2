-- The threads of a core file (struct elf_prstatus of the kernel, linux/elfcore.h).
--     thread_in machine desc      the thread of which a note of the type NT_PRSTATUS tells
--     thread_register machine thread k      the value of the register with DWARF's number k
use Rattle.std.specs.Prelude.{ℕ, List, [], ◌∷◌, false, codes, Option, None, option_map}
use Rattle.std.specs.Prelude.{slice_get}
use Rattle.std.specs.Int.{w16, w32, w64}
use Rattle.std.specs.Option.{option_and_then}
use Rattle.cfi_elf.specs.Fields.{Field, entries, field, number_at, part}
use Rattle.cfi_processes.specs.declared.registers.SampleMachine.{SampleMachine}
use Rattle.cfi_cores.specs.declared.fault.Fault.{Fault}
use Rattle.cfi_cores.specs.declared.thread.CoreThread.{CoreThread as ThreadOfCode}
use Rattle.cfi_cores.specs.CoreRegisters.{core_place, registers_size}

-- A thread's number, the signal that it was given and for which fault, and its registers.
pub record CoreThread : Type 0 where
  pub tid : ℕ
  pub signal : ℕ
  pub fault : Option Fault
  pub registers : List ℕ

-- what a thread of the code is
abbrev pub thread_view : ThreadOfCode → CoreThread
thread_view t = record {
  tid = t.tid;
  signal = t.signal;
  fault = t.fault;
  registers = t.registers.now;
}

-- struct elf_prstatus, up to the thread's number
abbrev pub prstatus_fields : List Field
prstatus_fields =
    record { name = codes "si_signo"; offset = 0; width = w32 }
    ∷ record { name = codes "si_code"; offset = 4; width = w32 }
    ∷ record { name = codes "si_errno"; offset = 8; width = w32 }
    ∷ record { name = codes "pr_cursig"; offset = 12; width = w16 }
    ∷ record { name = codes "pr_sigpend"; offset = 16; width = w64 }
    ∷ record { name = codes "pr_sighold"; offset = 24; width = w64 }
    ∷ record { name = codes "pr_pid"; offset = 32; width = w32 }
    ∷ []

-- pr_ppid, pr_pgrp, pr_sid and four times of sixteen bytes follow; then, at 112, pr_reg
abbrev pub thread_in : SampleMachine → List ℕ → Option CoreThread
thread_in machine desc =
    let value = field false desc prstatus_fields in
    option_map (λ registers. record {
      tid = value (codes "pr_pid");
      signal = value (codes "pr_cursig");
      fault = None;
      registers = registers;
    }) (part desc 112 (registers_size machine))

-- the registers have eight bytes each
abbrev pub thread_register : SampleMachine → CoreThread → ℕ → Option ℕ
thread_register machine thread k =
    option_and_then (λ place.
    option_map (λ bytes. number_at false bytes 0 w64)
    (slice_get (entries 8 thread.registers) place)) (core_place machine k)
