-- What a profile says before its records.
--     head_of s size      that of the sections of a file, of whose records so many bytes are there
--     head_view h      what a `ProfileHead` of the code is
use Rattle.std.specs.Prelude.{ℕ, ◌-◌, Bool, List, Option, Result, option_map}
use Rattle.cfi_read_core.specs.declared.endianity.RunTimeEndian.{RunTimeEndian}
use Rattle.cfi_perf.specs.declared.error.PerfError.{PerfError}
use Rattle.cfi_perf.specs.EventTables.{EventTable, event_table_view}
use Rattle.cfi_read_core.specs.ReaderCalls.{map_ok}
use Rattle.cfi_perf.specs.declared.profile.ProfileHead.{ProfileHead as HeadOfCode}
use Rattle.cfi_perf.specs.Sections.{Sections, architecture_in, event_table}

pub record ProfileHead : Type 0 where
  pub endian : RunTimeEndian
  pub events : EventTable
  pub architecture : Result (Option (List ℕ)) PerfError
  pub place : ℕ  -- where the records are in the file
  pub size : ℕ  -- how many bytes they have
  pub is_cut : Bool  -- whether the file ends before they do

-- by the parts of the file, of whose records so many bytes are there
abbrev pub head_of : Sections → ℕ → ProfileHead
head_of s size = record {
  endian = s.endian;
  events = event_table s;
  architecture = architecture_in s;
  place = s.end - size;
  size = size;
  is_cut = s.is_cut;
}

-- what these are in the code
abbrev pub head_view : HeadOfCode → ProfileHead
head_view h = record {
  endian = h.endian;
  events = event_table_view h.events;
  architecture = map_ok (option_map (λ name. name.now)) h.architecture;
  place = h.end - h.size;
  size = h.size;
  is_cut = h.is_cut;
}
