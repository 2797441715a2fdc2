-- What a profile has: the machine that it was recorded on, the files of its code, its records in
-- the order of their times, and the error that ends them; or why it has none of these.
--     HoldsOfSorted .. machine sorted error      something holds of the records, in this order, and
--         of the files that they name, which were opened so
--     HoldsOfRecords .. machine found      of the records, in the order of their times
--     HoldsOfHead .. architecture found      of the records of a profile of this architecture
--     HoldsOfProfile .. bytes      of the profile that these bytes are
use Rattle.std.specs.Prelude.{ℕ, Bool, List, Option, Some, None, Result, Ok, Err}
use Rattle.cfi_perf.specs.declared.error.PerfError.{PerfError}
use Rattle.cfi_perf.specs.Events.{Record}
use Rattle.cfi_perf.specs.Indexes.{IsInTimeOrder}
use Rattle.cfi_perf.specs.Profiles.{Profile, architecture, profile, profile_records}
use Rattle.cfi_perf.specs.Records.{Records}
use Rattle.cfi_mapped.specs.FileReads.{AreOpened}
use Rattle.cfi_mapped.specs.OpenedFiles.{Opened}
use Rattle.cfi_mapped.specs.Wanted.{FilePlace}
use Rattle.cfi_mapped.specs.WantedFiles.{wanted_of}
use Rattle.cfi_processes.specs.declared.registers.SampleMachine.{SampleMachine}
use Rattle.cfi_processes.specs.KnownFiles.{KnownFile}
use Rattle.cfi_processes.specs.ProfileFiles.{AreProfileFilesOf}
use Rattle.cfi_processes.specs.Registers.{machine_named}

-- with the functions of the files, if these are to be named
module _ (with_functions : Bool) {Handle : Type 0}
    (may_open : FilePlace → Option Handle → Type 0) (remaining : Handle → Option (List ℕ))
    (Is : SampleMachine → List KnownFile → List Record → Option PerfError → Type 0) where
  abbrev pub HoldsOfSorted : SampleMachine → List Record → Option PerfError → Type 0
  HoldsOfSorted machine sorted error =
      (opened : List Opened) × AreOpened may_open remaining (wanted_of sorted) opened
      × (files : List KnownFile) × AreProfileFilesOf with_functions opened files
      × Is machine files sorted error

  abbrev pub HoldsOfRecords : SampleMachine → Records → Type 0
  HoldsOfRecords machine found =
      (sorted : List Record) × IsInTimeOrder found.records sorted
      × HoldsOfSorted machine sorted found.error

  -- what holds where the profile is refused, and where its machine isn't known
  module _ (IsRefused : PerfError → Type 0) (IsUnknown : Type 0) where
    abbrev pub HoldsOfMachine : Option SampleMachine → Records → Type 0
    HoldsOfMachine None found = IsUnknown
    HoldsOfMachine (Some machine) found = HoldsOfRecords machine found

    abbrev pub HoldsOfHead : Result (Option (List ℕ)) PerfError → Records → Type 0
    HoldsOfHead (Err e) found = IsRefused e
    HoldsOfHead (Ok None) found = IsUnknown
    HoldsOfHead (Ok (Some name)) found = HoldsOfMachine (machine_named name) found

    abbrev pub HoldsOfParsed : Result Profile PerfError → Type 0
    HoldsOfParsed (Err e) = IsRefused e
    HoldsOfParsed (Ok p) = HoldsOfHead (architecture p) (profile_records p)

    abbrev pub HoldsOfProfile : List ℕ → Type 0
    HoldsOfProfile bytes = HoldsOfParsed (profile bytes)
