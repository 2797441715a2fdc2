-- The names of threads, as the records of a profile say one after the other (perf_event_open(2),
-- PERF_RECORD_COMM and PERF_RECORD_FORK).
--     name_of_thread threads tid      the name of a thread, if one is known
--     names_after event before tid      the same after a record: a thread has the name that it was
--         given last, and a new thread that of the one that made it
use Rattle.std.specs.Prelude.{ℕ, List, Option, Some, option_map, ◌==◌, if◌then◌else◌}
use Rattle.std.specs.Ordering.{nat_cmp}
use Rattle.std.specs.BTreeMap.{get}
use Rattle.cfi_perf.specs.Events.{Event, ForkEvent, LostEvent, MappingEvent, OtherEvent}
use Rattle.cfi_perf.specs.Events.{ProgramEvent, SampleEvent}
use Rattle.cfi_mapped.specs.declared.names.Name.{Name}
use Rattle.cfi_mapped.specs.declared.threads.Threads.{Threads}

abbrev pub name_bytes : Option Name → Option (List ℕ)
name_bytes name = option_map (λ name. name.bytes.now) name

abbrev pub name_of_thread : Threads → ℕ → Option (List ℕ)
name_of_thread threads tid = name_bytes (get nat_cmp threads.by_tid tid)

-- one thread has this name, and the others have theirs
abbrev pub thread_given : ℕ → Option (List ℕ) → (ℕ → Option (List ℕ)) → ℕ → Option (List ℕ)
thread_given tid name before t = if t == tid then name else before t

abbrev pub names_after : Event → (ℕ → Option (List ℕ)) → ℕ → Option (List ℕ)
names_after (ProgramEvent p) before t = thread_given p.tid (Some p.name) before t
names_after (ForkEvent f) before t = thread_given f.tid (before f.parent_tid) before t
names_after (MappingEvent m) before t = before t
names_after (SampleEvent s) before t = before t
names_after (LostEvent l) before t = before t
names_after OtherEvent before t = before t
