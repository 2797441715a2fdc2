-- A profile of which the bytes of the records are left out.
--     IsAround before after count bytes      the bytes, so many, begin and end so
--     profile_around before after count      what is read of these alone
--     IsProfileAround bytes result      that this is the profile of the bytes
use Rattle.std.specs.Prelude.{◌≡◌, ℕ, ◌+◌, ◌-◌, Bool, true, not, ◌&&◌, ◌||◌, List, drop, length}
use Rattle.std.specs.Prelude.{take, min, Option, Some, None, Result, Ok, Err, bit_and, count_ones}
use Rattle.std.specs.Prelude.{nat_lt, ◌==◌, if◌then◌else◌, ◌≤◌}
use Rattle.std.specs.List.{list_all}
use Rattle.std.specs.Option.{is_some}
use Rattle.cfi_read_core.specs.declared.endianity.RunTimeEndian.{RunTimeEndian}
use Rattle.cfi_read_core.specs.ByteOrder.{is_big}
use Rattle.cfi_read_core.specs.SliceReaders.{slice_over}
use Rattle.cfi_perf.specs.declared.error.PerfError.{PerfError}
use Rattle.cfi_perf.specs.declared.file_header.FileHeader.{FileHeader}
use Rattle.cfi_perf.specs.declared.file_header.FileSection.{FileSection}
use Rattle.cfi_perf.specs.Results.{and_then}
use Rattle.cfi_perf.specs.ByteReads.{entries}
use Rattle.cfi_perf.specs.EventEntries.{entry}
use Rattle.cfi_perf.specs.FileHeaders.{byte_order, file_header}
use Rattle.cfi_perf.specs.FileParts.{parts_around, file_parts}
use Rattle.cfi_perf.specs.Pipes.{is_pipe}
use Rattle.cfi_perf.specs.EventSections.{EventSection, events_by}
use Rattle.cfi_perf.specs.ProfileHeads.{ProfileHead}
use Rattle.cfi_perf.specs.Sections.{Sections, feature_place}
use Rattle.cfi_perf.specs.ProfileHeads.{head_of}
use Rattle.cfi_perf.specs.Profiles.{Profile, profile}

-- These bytes, so many, begin and end so.
pub record IsAround (before after : List ℕ) (count : ℕ) (bytes : List ℕ) : Type 0 where
  pub first : take (length before) bytes ≡ before
  pub last : drop (length bytes - length after) bytes ≡ after
  pub apart : length before + length after ≤ length bytes
  pub all : length bytes ≡ count

-- the profile of these bytes, by what it says before its records
abbrev pub profile_of : List ℕ → ProfileHead → Profile
profile_of bytes head = record { head = head; records = take head.size (drop head.place bytes) }

-- what was read is this; nothing where a part isn't at hand
abbrev pub IsReadAs :
    List ℕ → Result Profile PerfError → Result (Option ProfileHead) PerfError → Type 0
IsReadAs bytes p (Ok (Some head)) = p ≡ Ok (profile_of bytes head)
IsReadAs bytes p (Ok None) = Unit {0}
IsReadAs bytes p (Err e) = p ≡ Err e

abbrev pub IsProfileAround : List ℕ → Result (Option ProfileHead) PerfError → Type 0
IsProfileAround bytes result = IsReadAs bytes (profile bytes) result

-- ---- which parts are at hand

-- whether the records are all that lies between, and the attributes before them
abbrev pub lies_between : FileHeader → List ℕ → List ℕ → ℕ → Bool
lies_between header before after count =
    (header.records.offset == length before)
    && ((min (header.records.offset + header.records.size) count == count - length after)
    && is_some (file_parts before header.attrs))

-- whether the ids of all events are
abbrev pub has_ids : Sections → Bool
has_ids s =
    list_all (λ e. is_some (s.parts e.ids))
    (entries s.events.count (entry s.events.form)
    (slice_over s.events.attrs (is_big s.endian)).source 0)

abbrev pub has_section : Sections → Result FileSection PerfError → Bool
has_section s (Ok place) = is_some (s.parts place)
has_section s (Err e) = true

-- whether the section of a feature is, by its bit and those before it
abbrev pub has_feature : Sections → ℕ → ℕ → Bool
has_feature s bit lower =
    (bit_and s.features bit == 0)
    || has_section s (feature_place s (count_ones (bit_and s.features lower)))

-- HEADER_BUILD_ID, HEADER_ARCH and HEADER_EVENT_DESC
abbrev pub has_all : Sections → Bool
has_all s =
    has_ids s
    && (has_feature s 0x4 0x3 && (has_feature s 0x40 0x3f && has_feature s 0x1000 0xfff))

-- ---- reading it

abbrev pub sections_around :
    RunTimeEndian → List ℕ → List ℕ → ℕ → FileHeader → EventSection → Sections
sections_around endian before after count header events = record {
  parts = parts_around before (count - length after) after;
  endian = endian;
  events = events;
  features = header.features;
  is_cut = nat_lt ((count - length after) - length before) header.records.size;
  end = count - length after;
  after = after;
}

abbrev pub head_if : Sections → ℕ → Option ProfileHead
head_if s size = if has_all s then Some (head_of s size) else None

-- the header has 104 bytes
unfoldable pub profile_around :
    List ℕ → List ℕ → ℕ → Result (Option ProfileHead) PerfError
profile_around before after count =
    if nat_lt (length before) 104 then Ok None
    else and_then (byte_order before) (λ endian.
    if is_pipe endian before then Ok None
    else and_then (file_header endian before) (λ header.
    if not (lies_between header before after count) then Ok None
    else and_then (events_by endian before header) (λ events.
    Ok (head_if (sections_around endian before after count header events)
    ((count - length after) - length before)))))
