-- The files that the records of a profile are of.
--     wanted_of records      the files that executable mappings are of, each once, in the order of
--         the records, and the kernel where samples have frames of it; memory that is no file's for
--         each process
use Rattle.std.specs.Prelude.{ℕ, ◌+◌, Bool, true, false, not, ◌&&◌, ◌||◌, List, [], ◌∷◌, ◌++◌}
use Rattle.std.specs.Prelude.{Option, Some, None, fold, if◌then◌else◌}
use Rattle.std.specs.List.{list_any}
use Rattle.cfi_perf.specs.Events.{Event, Mapping, Record, ForkEvent, LostEvent, MappingEvent}
use Rattle.cfi_perf.specs.Events.{OtherEvent, ProgramEvent, SampleEvent}
use Rattle.cfi_perf.specs.Samples.{kernel_frames}
use Rattle.cfi_mapped.specs.CodeMaps.{is_memory_name}
use Rattle.cfi_mapped.specs.KernelSymbols.{is_kernel_name}
use Rattle.cfi_mapped.specs.Wanted.{Wanted, is_same}

-- the process that may make code there
abbrev pub process_of : Mapping → Option ℕ
process_of m = if is_memory_name m.name then Some m.pid else None

-- the file that is mapped as code
abbrev pub mapped_file : Mapping → Wanted
mapped_file m =
    record { name = m.name; build_id = m.build_id; process = process_of m }

abbrev pub has_some : List ℕ → Bool
has_some [] = false
has_some (a ∷ addresses) = true

abbrev pub has_kernel_frames : Event → Bool
has_kernel_frames (SampleEvent s) = has_some (kernel_frames s)
has_kernel_frames _ = false

abbrev pub has_kernel : List Record → Bool
has_kernel records = list_any (λ r. has_kernel_frames r.event) records

-- the kernel itself only where samples have frames of it
abbrev pub is_code_file : Bool → Mapping → Bool
is_code_file in_kernel m = m.is_executable && (in_kernel || not (is_kernel_name m.name))

abbrev pub mapped_code_file : Bool → Event → Option Wanted
mapped_code_file in_kernel (MappingEvent m) =
    if is_code_file in_kernel m then Some (mapped_file m) else None
mapped_code_file in_kernel (ProgramEvent p) = None
mapped_code_file in_kernel (ForkEvent f) = None
mapped_code_file in_kernel (SampleEvent s) = None
mapped_code_file in_kernel (LostEvent l) = None
mapped_code_file in_kernel OtherEvent = None

abbrev pub is_among : List Wanted → Wanted → Bool
is_among files file = list_any (λ known. is_same known file) files

abbrev pub with_file : List Wanted → Option Wanted → List Wanted
with_file files None = files
with_file files (Some file) = if is_among files file then files else files ++ file ∷ []

abbrev pub wanted_in : Bool → List Record → List Wanted
wanted_in in_kernel records =
    fold (λ files r. with_file files (mapped_code_file in_kernel r.event)) [] records

abbrev pub wanted_of : List Record → List Wanted
wanted_of records = wanted_in (has_kernel records) records
