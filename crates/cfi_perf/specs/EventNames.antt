-- The names of events: those that `perf record` left in a profile, and those of the kernel's own
-- events (perf_event_open(2), "type" and "config"; tools/perf/Documentation/perf-list.txt).
use Rattle.std.specs.Prelude.{ℕ, zero, suc, Bool, List, Option, None, Result, Ok, Err}
use Rattle.std.specs.Prelude.{codes, unwrap_or, ◌==◌, if◌then◌else◌}
use Rattle.std.specs.Int.{w32}
use Rattle.cfi_read_core.specs.declared.error.Error.{Error}
use Rattle.cfi_read_core.specs.ReadFunctions.{Read, ◌>>=◌, give}
use Rattle.cfi_read_core.specs.Numbers.{unsigned}
use Rattle.cfi_perf.specs.declared.attribute.Attribute.{Attribute}
use Rattle.cfi_perf.specs.ByteReads.{before_zero, item_bytes, read_from, header_text}

-- ---- the kernel's own

abbrev pub unknown_event : List ℕ
unknown_event = codes "unknown"

-- PERF_TYPE_HARDWARE, by enum perf_hw_id
abbrev pub hardware_name : ℕ → List ℕ
hardware_name config =
    if config == 0 then codes "cycles"
    else if config == 1 then codes "instructions"
    else if config == 2 then codes "cache-references"
    else if config == 3 then codes "cache-misses"
    else if config == 4 then codes "branches"
    else if config == 5 then codes "branch-misses"
    else if config == 6 then codes "bus-cycles"
    else if config == 7 then codes "stalled-cycles-frontend"
    else if config == 8 then codes "stalled-cycles-backend"
    else if config == 9 then codes "ref-cycles"
    else unknown_event

-- PERF_TYPE_SOFTWARE, by enum perf_sw_ids
abbrev pub software_name : ℕ → List ℕ
software_name config =
    if config == 0 then codes "cpu-clock"
    else if config == 1 then codes "task-clock"
    else if config == 2 then codes "page-faults"
    else if config == 3 then codes "context-switches"
    else if config == 4 then codes "cpu-migrations"
    else if config == 5 then codes "minor-faults"
    else if config == 6 then codes "major-faults"
    else if config == 7 then codes "alignment-faults"
    else if config == 8 then codes "emulation-faults"
    else if config == 9 then codes "dummy"
    else if config == 10 then codes "bpf-output"
    else if config == 11 then codes "cgroup-switches"
    else unknown_event

abbrev pub generic_name : Attribute → List ℕ
generic_name attribute =
    if attribute.kind == 0 then hardware_name attribute.config
    else if attribute.kind == 1 then software_name attribute.config
    else unknown_event

-- ---- those of the profile (perf.data-file-format.txt, HEADER_EVENT_DESC)

-- of an event whose attributes have this size: these, the number of its ids, its name, its ids
unfoldable pub description : ℕ → Read (List ℕ)
description size = do
  attribute ← item_bytes size 1
  id_count ← unsigned w32
  text ← header_text
  ids ← item_bytes id_count 8
  give text

-- what comes after as many others
unfoldable pub after_others : {A : Type 0} → ℕ → Read A → Read A
after_others zero read = read
after_others (suc n) read = do
  other ← read
  after_others n read

-- after the number of events and the size of their attributes, those of each
unfoldable pub described_event : ℕ → Read (List ℕ)
described_event index = do
  count ← unsigned w32
  size ← unsigned w32
  after_others index (description size)

abbrev pub name_of_text : Result (List ℕ) Error → Option (List ℕ)
name_of_text (Ok text) = before_zero text
name_of_text (Err e) = None

-- the name of the event of an index, by the section that describes all of them
abbrev pub described_name : Bool → List ℕ → ℕ → Option (List ℕ)
described_name big section index = name_of_text (read_from big section (described_event index))

abbrev pub event_name : Bool → List ℕ → ℕ → Attribute → List ℕ
event_name big section index attribute =
    unwrap_or (described_name big section index) (generic_name attribute)
