-- What the headers and the notes of a core file say.
--     ArePlaces headers places      the headers of the segments that are loaded, by rising
--         addresses
--     HasHeadsOf bytes heads      what those of a file of these bytes say
use Rattle.std.specs.Prelude.{◌≡◌, ℕ, List, [], map, Ok, ◌==◌, option_map}
use Rattle.std.specs.List.{filter, filter_map}
use Rattle.std.specs.List.Sorted.{IsSortedByKey, IsStableByKey}
use Rattle.std.specs.Ordering.{nat_cmp}
use Rattle.cfi_elf.specs.declared.program_header.ProgramHeader.{ProgramHeader}
use Rattle.cfi_elf.specs.Options.{or_this}
use Rattle.cfi_processes.specs.declared.registers.SampleMachine.{SampleMachine}
use Rattle.cfi_cores.specs.declared.core_heads.CoreHeads.{CoreHeads}
use Rattle.cfi_cores.specs.Contents.{contents_of_headers}
use Rattle.cfi_cores.specs.CoreFiles.{core_of, core_with, with_vdso}
use Rattle.cfi_cores.specs.CoreSegments.{loaded_in}
use Rattle.cfi_cores.specs.CoreThreads.{thread_view}
use Rattle.cfi_cores.specs.Faults.{fault_by, with_fault}
use Rattle.cfi_cores.specs.MappedFiles.{mappings_view}
use Rattle.cfi_cores.specs.Vdso.{vdso_by}

-- those that are loaded (PT_LOAD is 1)
abbrev pub loaded_headers : List ProgramHeader → List ProgramHeader
loaded_headers headers = filter (λ header. header.p_type == 1) headers

-- by rising addresses
pub record ArePlaces (headers places : List ProgramHeader) : Type 0 where
  pub by_start : IsSortedByKey (λ (h : ProgramHeader). h.p_vaddr) nat_cmp places
  pub stable :
      IsStableByKey (λ (h : ProgramHeader). h.p_vaddr) nat_cmp (loaded_headers headers) places

-- what the headers and the notes say of a file of these bytes
pub record HasHeads (machine : SampleMachine) (bytes : List ℕ) (headers : List ProgramHeader)
    (heads : CoreHeads) : Type 0 where
  pub machine_is : heads.machine ≡ machine
  pub threads_are :
      map thread_view heads.threads.items
      ≡ with_fault (fault_by (contents_of_headers machine bytes headers).siginfo)
      (contents_of_headers machine bytes headers).threads
  pub name_is :
      option_map (λ name. name.now) heads.name ≡ (contents_of_headers machine bytes headers).name
  pub error_is : heads.error ≡ (contents_of_headers machine bytes headers).error
  pub mapped_are :
      mappings_view heads.mapped
      ≡ with_vdso (or_this [] (contents_of_headers machine bytes headers).mapped)
      (vdso_by (filter_map (loaded_in bytes) headers)
      (contents_of_headers machine bytes headers).vector)
  pub places_are : ArePlaces headers heads.places.items

pub record HasHeadsOf (bytes : List ℕ) (heads : CoreHeads) : Type 0 where
  pub headers : List ProgramHeader
  pub reads : core_of bytes ≡ Ok (core_with heads.machine bytes headers)
  pub has : HasHeads heads.machine bytes headers heads
