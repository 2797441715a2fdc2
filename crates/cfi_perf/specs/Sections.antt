-- The sections of the file of a profile, which its header names (perf.data-file-format.txt).
--     sections_by endian bytes header events      all parts of the file
--     sections_view s      what the `Sections` of the code are
--     architecture_in s, event_table s      what they say
use Rattle.std.specs.Prelude.{ℕ, ◌+◌, ◌-◌, ◌*◌, Bool, List, [], drop, length, take, Option, Some}
use Rattle.std.specs.Prelude.{None, Result, Ok, Err, count_ones, bit_and, nat_lt, ◌==◌, ok_or}
use Rattle.std.specs.Prelude.{if◌then◌else◌}
use Rattle.cfi_read_core.specs.declared.endianity.RunTimeEndian.{RunTimeEndian}
use Rattle.cfi_read_core.specs.ByteOrder.{is_big}
use Rattle.cfi_perf.specs.declared.error.PerfError.{PerfError}
use Rattle.cfi_perf.specs.declared.error.PerfError.TheVariants.{FeatureOutOfBounds}
use Rattle.cfi_perf.specs.declared.file_header.FileHeader.{FileHeader}
use Rattle.cfi_perf.specs.declared.file_header.FileSection.{FileSection}
use Rattle.cfi_perf.specs.declared.sections.Sections.{Sections as SectionsOfCode}
use Rattle.cfi_perf.specs.Results.{and_then, or_error}
use Rattle.cfi_perf.specs.ByteReads.{read_from}
use Rattle.cfi_perf.specs.FileParts.{SectionBytes, parts_at_hand, file_parts}
use Rattle.cfi_perf.specs.EventEntries.{events}
use Rattle.cfi_perf.specs.EventTables.{EventTable, event_table_of}
use Rattle.cfi_perf.specs.FileHeaders.{file_section}
use Rattle.cfi_perf.specs.EventSections.{EventSection, event_section_view}
use Rattle.cfi_perf.specs.Architectures.{text_in, machine_by}

-- The parts of the file but for the records.
pub record Sections : Type 0 where
  pub parts : SectionBytes  -- the bytes of each place
  pub endian : RunTimeEndian
  pub events : EventSection
  pub features : ℕ
  pub is_cut : Bool  -- whether the file ends before the records do
  pub end : ℕ  -- the place of the bytes that follow the records
  pub after : List ℕ  -- these

abbrev pub sections_view : SectionsOfCode → Sections
sections_view s = record {
  parts = parts_at_hand s.bytes;
  endian = s.endian;
  events = event_section_view s.events;
  features = s.features;
  is_cut = s.is_cut;
  end = s.bytes.end;
  after = s.bytes.after.now;
}

-- the bytes of the records
abbrev pub records_at : FileSection → List ℕ → List ℕ
records_at place bytes = take place.size (drop place.offset bytes)

-- the bytes that follow them
abbrev pub after_records : FileSection → List ℕ → List ℕ
after_records place bytes = drop (place.offset + place.size) bytes

abbrev pub sections_by : RunTimeEndian → List ℕ → FileHeader → EventSection → Sections
sections_by endian bytes header events = record {
  parts = file_parts bytes;
  endian = endian;
  events = events;
  features = header.features;
  is_cut = nat_lt (length (records_at header.records bytes)) header.records.size;
  end = length bytes - length (after_records header.records bytes);
  after = after_records header.records bytes;
}

-- ---- what they say

-- The place of a feature's section: those of the feature bits that are set stand one after the
-- other after the records.
abbrev pub feature_place : Sections → ℕ → Result FileSection PerfError
feature_place s index =
    or_error FeatureOutOfBounds
    (read_from (is_big s.endian) (drop (16 * index) s.after) file_section)

abbrev pub feature_section : Sections → ℕ → Result (List ℕ) PerfError
feature_section s index =
    and_then (feature_place s index) (λ place. ok_or (s.parts place) FeatureOutOfBounds)

-- HEADER_ARCH is bit 6
unfoldable pub architecture_in : Sections → Result (Option (List ℕ)) PerfError
architecture_in s =
    if s.is_cut
    then Ok (machine_by (is_big s.endian) s.events.first.attribute.layout.sample_regs_user)
    else if bit_and s.features 0x40 == 0 then Ok None
    else and_then (feature_section s (count_ones (bit_and s.features 0x3f))) (λ contents.
    and_then (text_in (is_big s.endian) contents) (λ name. Ok (Some name)))

-- nothing where this can't be read
abbrev pub or_nothing : Result (List ℕ) PerfError → List ℕ
or_nothing (Ok contents) = contents
or_nothing (Err e) = []

-- the section of a feature, by its bit and those before it
abbrev pub feature_or_nothing : Sections → ℕ → ℕ → List ℕ
feature_or_nothing s bit lower =
    if bit_and s.features bit == 0 then []
    else or_nothing (feature_section s (count_ones (bit_and s.features lower)))

-- HEADER_EVENT_DESC is bit 12
unfoldable pub descriptions : Sections → List ℕ
descriptions s = feature_or_nothing s 0x1000 0xfff

-- HEADER_BUILD_ID is bit 2
unfoldable pub build_ids : Sections → List ℕ
build_ids s = feature_or_nothing s 0x4 0x3

unfoldable pub event_table : Sections → EventTable
event_table s =
    event_table_of (is_big s.endian) s.parts s.events (descriptions s) (build_ids s)
