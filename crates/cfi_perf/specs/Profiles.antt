-- A profile (perf.data-file-format.txt).
--     profile bytes      the profile of these bytes, or the first error
--     profile_view p      what a `Profile` of the code is
use Rattle.std.specs.Prelude.{ℕ, List, drop, length, Option, Result, Ok, if◌then◌else◌}
use Rattle.cfi_read_core.specs.declared.endianity.RunTimeEndian.{RunTimeEndian}
use Rattle.cfi_read_core.specs.ByteOrder.{is_big}
use Rattle.cfi_read_core.specs.ReaderCalls.{map_ok}
use Rattle.cfi_perf.specs.declared.error.PerfError.{PerfError}
use Rattle.cfi_perf.specs.declared.file_header.FileHeader.{FileHeader}
use Rattle.cfi_perf.specs.declared.profile.Profile.{Profile as ProfileOfCode}
use Rattle.cfi_perf.specs.Results.{and_then}
use Rattle.cfi_perf.specs.FileHeaders.{byte_order, file_header}
use Rattle.cfi_perf.specs.Records.{Records, records_of, until_cut}
use Rattle.cfi_perf.specs.Pipes.{is_pipe, pipe_head}
use Rattle.cfi_perf.specs.EventSections.{EventSection, events_by}
use Rattle.cfi_perf.specs.ProfileHeads.{ProfileHead, head_of, head_view}
use Rattle.cfi_perf.specs.Sections.{records_at, sections_by}

pub record Profile : Type 0 where
  pub head : ProfileHead
  pub records : List ℕ  -- the bytes of the records

abbrev pub profile_view : ProfileOfCode → Profile
profile_view p = record { head = head_view p.head; records = p.records.now }

-- ---- reading it

abbrev pub profile_by : RunTimeEndian → List ℕ → FileHeader → EventSection → Profile
profile_by endian bytes header events = record {
  head =
      head_of (sections_by endian bytes header events) (length (records_at header.records bytes));
  records = records_at header.records bytes;
}

unfoldable pub file_profile : RunTimeEndian → List ℕ → Result Profile PerfError
file_profile endian bytes =
    and_then (file_header endian bytes) (λ header.
    and_then (events_by endian bytes header) (λ events.
    Ok (profile_by endian bytes header events)))

-- of a pipe the records stand after the header
abbrev pub with_head : List ℕ → ProfileHead → Profile
with_head records head = record { head = head; records = records }

abbrev pub pipe_profile : RunTimeEndian → List ℕ → Result Profile PerfError
pipe_profile endian bytes =
    map_ok (with_head (drop 16 bytes)) (pipe_head endian (drop 16 bytes))

unfoldable pub profile : List ℕ → Result Profile PerfError
profile bytes =
    and_then (byte_order bytes) (λ endian.
    if is_pipe endian bytes then pipe_profile endian bytes else file_profile endian bytes)

-- ---- what it says

abbrev pub architecture : Profile → Result (Option (List ℕ)) PerfError
architecture p = p.head.architecture

-- the records of these bytes in order, and the error that ended them
abbrev pub records_by : ProfileHead → List ℕ → Records
records_by head bytes =
    until_cut head.is_cut (records_of head.events (is_big head.endian) bytes)

abbrev pub profile_records : Profile → Records
profile_records p = records_by p.head p.records

-- where they are in the file
abbrev pub records_place : Profile → ℕ
records_place p = p.head.place
