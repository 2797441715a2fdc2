-- What the records of a profile say of processes, one after the other.
--     mapped_after files event before      what is mapped in each process after a record
--     replayed replay      what is mapped in each process, for a replay of the code
--     named_thread replay      the name of each thread, for a replay of the code
--     replay_files replay, replay_modules replay      its files, and its modules
--     HasOwnModules replay      its modules are of its files
use Rattle.std.specs.Prelude.{◌≡◌, ℕ, ◌+◌, ◌-◌, ◌^◌, Bool, ◌&&◌, List, Option, Some, None, map, min}
use Rattle.std.specs.Prelude.{position, ⊤, if◌then◌else◌}
use Rattle.std.specs.Str.{bytes_eq}
use Rattle.cfi_read_core.specs.SliceReaders.{EndianSlice}
use Rattle.cfi_read_core.specs.declared.endianity.RunTimeEndian.{RunTimeEndian}
use Rattle.cfi_step.specs.declared.module.LoadedModule.{LoadedModule}
use Rattle.cfi_perf.specs.Events.{Event, Mapping, ForkEvent, LostEvent, MappingEvent, OtherEvent}
use Rattle.cfi_perf.specs.Events.{ProgramEvent, SampleEvent}
use Rattle.cfi_mapped.specs.declared.mappings.MappedCode.{MappedCode}
use Rattle.cfi_processes.specs.declared.profile_files.ProfileFile.{ProfileFile}
use Rattle.cfi_processes.specs.declared.replay.Replay.{Replay}
use Rattle.cfi_mapped.specs.Histories.{Change, executed, forked, mapped, mappings_after}
use Rattle.cfi_processes.specs.FileModules.{AreModulesOfFiles}
use Rattle.cfi_processes.specs.KnownFiles.{KnownFile, known_view}
use Rattle.cfi_processes.specs.ProcessModules.{modules_in}
use Rattle.cfi_processes.specs.Modules.{loaded_module_view}
use Rattle.cfi_mapped.specs.Processes.{process_mappings}
use Rattle.cfi_mapped.specs.ThreadNames.{name_of_thread}
use Rattle.cfi_mapped.specs.Wanted.{same_id, same_process}
use Rattle.cfi_mapped.specs.WantedFiles.{process_of}

abbrev pub is_mapping_of : Mapping → KnownFile → Bool
is_mapping_of m file =
    bytes_eq file.name m.name && same_id file.build_id m.build_id
    && same_process file.process (process_of m)

-- which of the files is mapped; none where it isn't mapped as code
abbrev pub object_of : List KnownFile → Mapping → Option ℕ
object_of files m = if m.is_executable then position (is_mapping_of m) files else None

-- up to the last address at most
abbrev pub code_of_mapping : List KnownFile → Mapping → MappedCode
code_of_mapping files m = record {
  start = m.address;
  end = min (m.address + m.length) (2 ^ 64 - 1);
  offset = m.offset;
  object = object_of files m;
}

-- ---- the processes

abbrev pub change_of : List KnownFile → Event → Option Change
change_of files (MappingEvent m) = Some (mapped m.pid (code_of_mapping files m))
change_of files (ProgramEvent p) = if p.is_exec then Some (executed p.pid) else None
change_of files (ForkEvent f) = Some (forked f.pid f.parent)
change_of files (SampleEvent s) = None
change_of files (LostEvent l) = None
change_of files OtherEvent = None

abbrev pub changed : Option Change → (ℕ → List MappedCode) → ℕ → List MappedCode
changed None before pid = before pid
changed (Some change) before pid = mappings_after change before pid

abbrev pub mapped_after : List KnownFile → Event → (ℕ → List MappedCode) → ℕ → List MappedCode
mapped_after files event before pid = changed (change_of files event) before pid

-- ---- a replay of the code

abbrev pub replayed : Replay → ℕ → List MappedCode
replayed replay pid = process_mappings replay.processes pid

abbrev pub named_thread : Replay → ℕ → Option (List ℕ)
named_thread replay tid = name_of_thread replay.threads tid

abbrev pub replay_files : Replay → List ProfileFile
replay_files replay = replay.files.now

abbrev pub replay_known : Replay → List KnownFile
replay_known replay = map known_view (replay_files replay)

abbrev pub replay_modules : Replay → List (LoadedModule (EndianSlice RunTimeEndian))
replay_modules replay = replay.modules.items

-- before a sample is unwound the modules are those of its process
abbrev pub AreModulesFor : Event → Replay → Type 0
AreModulesFor (SampleEvent s) replay =
    map loaded_module_view (replay_modules replay)
    ≡ modules_in (replay_known replay) (replayed replay s.pid)
AreModulesFor _ replay = ⊤

abbrev pub HasOwnModules : Replay → Type 0
HasOwnModules replay = AreModulesOfFiles (replay_files replay) (replay_modules replay)
