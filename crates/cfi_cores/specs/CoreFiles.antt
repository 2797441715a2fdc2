-- A core file of Linux (core(5)).
--     core_of bytes      what the file has, with its segments in the order of their headers
--     IsCore bytes result      it is returned with its segments by rising addresses; it can't be
--         read; or memory is refused
use Rattle.std.specs.Prelude.{◌≡◌, ◌⊎◌, ℕ, true, false, ◌||◌, List, [], ◌∷◌, ◌++◌, map, Result}
use Rattle.std.specs.Prelude.{Ok, Err, Option, Some, None, option_map, ◌==◌, if◌then◌else◌}
use Rattle.std.specs.List.{filter_map}
use Rattle.cfi_elf.specs.declared.error.ElfError.{ElfError}
use Rattle.cfi_elf.specs.declared.program_header.ProgramHeader.{ProgramHeader}
use Rattle.cfi_elf.specs.ElfFiles.{File, class_of_file, core_file, is_big_file}
use Rattle.cfi_elf.specs.Layouts.{by_class}
use Rattle.cfi_elf.specs.Options.{or_this}
use Rattle.cfi_elf.specs.Results.{and_then}
use Rattle.cfi_elf.specs.SegmentLists.{segments}
use Rattle.cfi_processes.specs.declared.registers.SampleMachine.{SampleMachine}
use Rattle.cfi_processes.specs.declared.registers.SampleMachine.TheVariants.{X86_64, AArch64}
use Rattle.cfi_cores.specs.declared.core_file.Core.{Core as CoreOfCode}
use Rattle.cfi_cores.specs.declared.error.CoreError.{CoreError}
use Rattle.cfi_cores.specs.declared.error.CoreError.TheVariants.{Elf, UnknownMachine, OutOfMemory}
use Rattle.cfi_cores.specs.Contents.{contents_of_headers}
use Rattle.cfi_cores.specs.CoreSegments.{AreSortedByAddress, CoreSegment, loaded_in, segment_view}
use Rattle.cfi_cores.specs.CoreThreads.{CoreThread, thread_view}
use Rattle.cfi_cores.specs.Faults.{fault_by, with_fault}
use Rattle.cfi_cores.specs.MappedFiles.{CoreMapping, mappings_view}
use Rattle.cfi_cores.specs.Vdso.{vdso_by}

pub record Core : Type 0 where
  pub machine : SampleMachine
  pub name : Option (List ℕ)
  pub threads : List CoreThread
  pub mapped : List CoreMapping
  pub segments : List CoreSegment
  pub error : Option CoreError

-- what a core of the code is
abbrev pub core_view : CoreOfCode → Core
core_view core = record {
  machine = core.machine;
  name = option_map (λ name. name.now) core.name;
  threads = map thread_view core.threads.items;
  mapped = mappings_view core.mapped;
  segments = map segment_view core.segments.items;
  error = core.error;
}

-- ---- what the file has

-- an error of the ELF file as one of the core
abbrev pub or_elf_error : {A : Type 0} → Result A ElfError → Result A CoreError
or_elf_error (Ok x) = Ok x
or_elf_error (Err e) = Err (Elf e)

abbrev pub core_elf : List ℕ → Result File CoreError
core_elf bytes = or_elf_error (core_file bytes)

abbrev pub core_headers : File → Result (List ProgramHeader) CoreError
core_headers file = or_elf_error (segments file)

-- EM_X86_64 is 62, EM_AARCH64 is 183
abbrev pub machine_of : File → Result SampleMachine CoreError
machine_of file =
    let e_machine = file.header.kind.e_machine in
    if by_class (class_of_file file) true false || is_big_file file
    then Err (UnknownMachine e_machine)
    else if e_machine == 62 then Ok X86_64
    else if e_machine == 183 then Ok AArch64
    else Err (UnknownMachine e_machine)

-- the vdso comes behind the files
abbrev pub with_vdso : List CoreMapping → Option CoreMapping → List CoreMapping
with_vdso files None = files
with_vdso files (Some vdso) = files ++ vdso ∷ []

abbrev pub core_with : SampleMachine → List ℕ → List ProgramHeader → Core
core_with machine bytes headers =
    let contents = contents_of_headers machine bytes headers in
    let segments = filter_map (loaded_in bytes) headers in
    record {
      machine = machine;
      name = contents.name;
      threads = with_fault (fault_by contents.siginfo) contents.threads;
      mapped = with_vdso (or_this [] contents.mapped) (vdso_by segments contents.vector);
      segments = segments;
      error = contents.error;
    }

unfoldable pub core_of : List ℕ → Result Core CoreError
core_of bytes =
    and_then (core_elf bytes) (λ file.
    and_then (machine_of file) (λ machine.
    and_then (core_headers file) (λ headers. Ok (core_with machine bytes headers))))

-- ---- what is returned

pub record IsSortedCore (found sorted : Core) : Type 0 where
  pub machine : sorted.machine ≡ found.machine
  pub name : sorted.name ≡ found.name
  pub threads : sorted.threads ≡ found.threads
  pub mapped : sorted.mapped ≡ found.mapped
  pub segments : AreSortedByAddress found.segments sorted.segments
  pub error : sorted.error ≡ found.error

abbrev pub IsCoreOf : Result Core CoreError → Result CoreOfCode CoreError → Type 0
IsCoreOf (Ok found) result =
    (core : CoreOfCode) × (result ≡ Ok core) × IsSortedCore found (core_view core)
IsCoreOf (Err e) result = result ≡ Err e

abbrev pub IsCore : List ℕ → Result CoreOfCode CoreError → Type 0
IsCore bytes result = IsCoreOf (core_of bytes) result ⊎ (result ≡ Err OutOfMemory)
