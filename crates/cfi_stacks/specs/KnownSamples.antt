-- The samples of a profile that are chosen, each with what the records before it say.
--     known_after files event before      what is mapped and how threads are named after an event
--     chosen choice files records      the samples that are chosen, in the order of the records
use Rattle.std.specs.Prelude.{ℕ, Bool, List, [], ◌∷◌, ◌++◌, Option, None}
use Rattle.std.specs.List.{filter}
use Rattle.cfi_perf.specs.Events.{Event, Record, SampleEvent}
use Rattle.cfi_perf.specs.Samples.{Sample}
use Rattle.cfi_mapped.specs.declared.mappings.MappedCode.{MappedCode}
use Rattle.cfi_processes.specs.declared.replay.Replay.{Replay}
use Rattle.cfi_processes.specs.KnownFiles.{KnownFile}
use Rattle.cfi_processes.specs.KernelSites.{kernel_site}
use Rattle.cfi_processes.specs.Sites.{Site}
use Rattle.cfi_processes.specs.Replays.{mapped_after, replayed}
use Rattle.cfi_processes.specs.Replays.{named_thread}
use Rattle.cfi_mapped.specs.ThreadNames.{names_after}
use Rattle.cfi_stacks.specs.Choices.{Choice, chooses, limited}

-- ---- what is known before a record

-- What is mapped in each process, and the name of each thread.
pub record Known : Type 0 where
  pub mapped : ℕ → List MappedCode
  pub names : ℕ → Option (List ℕ)

abbrev pub known_after : List KnownFile → Event → Known → Known
known_after files event before = record {
  mapped = mapped_after files event before.mapped;
  names = names_after event before.names;
}

-- by what a replay of the code has followed
abbrev pub known_in : Replay → Known
known_in replay = record { mapped = replayed replay; names = named_thread replay }

-- where an address of the kernel is, which is mapped in the process -1
abbrev pub in_kernel_of : List KnownFile → Known → ℕ → Site
in_kernel_of files known = kernel_site files (known.mapped 0xffffffff)

-- before the first record
abbrev pub nothing_known : Known
nothing_known = record { mapped = λ pid. []; names = λ tid. None }

-- ---- the samples that are printed

-- A sample, its time, and what is known before it.
pub record KnownSample : Type 0 where
  pub known : Known
  pub time : ℕ
  pub sample : Sample

abbrev pub sample_at : Known → ℕ → Event → List KnownSample
sample_at known time (SampleEvent s) = record { known = known; time = time; sample = s } ∷ []
sample_at known time _ = []

-- those of the records, each with what all records before it say
abbrev pub known_samples : List KnownFile → Known → List Record → List KnownSample
known_samples files before [] = []
known_samples files before (r ∷ records) =
    sample_at before r.time r.event
    ++ known_samples files (known_after files r.event before) records

abbrev pub is_chosen : Choice → KnownSample → Bool
is_chosen choice of = chooses choice (of.known.names of.sample.tid) of.time of.sample

abbrev pub chosen_of : Choice → List KnownFile → Known → List Record → List KnownSample
chosen_of choice files before records =
    filter (is_chosen choice) (known_samples files before records)

-- the first of those that are chosen, where there is a limit
abbrev pub chosen : Choice → List KnownFile → List Record → List KnownSample
chosen choice files records = limited choice.limit (chosen_of choice files nothing_known records)
