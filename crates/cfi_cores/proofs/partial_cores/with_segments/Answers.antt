use Rattle.std.proofs.Common.{◌∙◌, List, ap₂, map, refl}
use Rattle.std.proofs.lemmas.List.Sorted.{IsNonDecreasingBy-from_sort}
use Rattle.cfi_elf.specs.declared.program_header.ProgramHeader.{ProgramHeader}
use Rattle.cfi_cores.specs.CoreFiles.{core_with}
use Rattle.cfi_cores.specs.PartialCores.{head_in}
use Rattle.cfi_cores.specs.MappedFiles.{mapping_view}
use Rattle.cfi_cores.specs.declared.mapped_files.CoreMapping.{CoreMapping}
use Rattle.cfi_cores.proofs.PartBytes.{some_there}
use Rattle.cfi_cores.proofs.PartialCores.{sorted_places}
use Rattle.cfi_cores.proofs.partial_cores.with_segments.Goals as goal

pub returns-in-Some : goal.returns-in-Some
returns-in-Some c = λ bytes of has.
    let heads = c.args.heads in
    let h = has.has in
    let found = some_there c.in_ok-segments.field-0 c.in-Some.segments _ c.in-Some.is (c.in_ok-segments.ensures bytes of) in
    record {
      found = core_with heads.machine bytes has.headers;
      reads = has.reads;
      sorted = record {
        machine = refl;
        name = h.name_is;
        threads = h.threads_are;
        mapped = h.mapped_are;
        segments = sorted_places bytes has.headers heads.places.items h.places_are;
        error = h.error_is;
      };
      heads =
          found
          ∙ ap₂ (λ (mapped : List CoreMapping) (places : List ProgramHeader). map (head_in bytes (map mapping_view mapped)) places) c.as_slice.ensures.value c.as_slice-2.ensures.value;
      in_order = IsNonDecreasingBy-from_sort (λ (p : ProgramHeader). p.p_vaddr) heads.places.items h.places_are.by_start;
    }
