use Rattle.std.proofs.Common.{◌∙◌, List, [], ap, ap₂, refl, subst, rules}
use Rattle.std.specs.List.{filter_map}
use Rattle.std.specs.List.Sorted.{IsStableByKey}
use Rattle.std.specs.Ordering.{nat_cmp}
use Rattle.std.proofs.lemmas.List.Sorted.{answers_always}
use Rattle.cfi_elf.specs.declared.program_header.ProgramHeader.{ProgramHeader}
use Rattle.cfi_elf.specs.Options.{or_this}
use Rattle.cfi_elf.specs.SegmentLists.{segments_left}
use Rattle.cfi_cores.specs.Contents.{Contents}
use Rattle.cfi_cores.specs.CoreFiles.{with_vdso}
use Rattle.cfi_cores.specs.CoreSegments.{loaded_in}
use Rattle.cfi_cores.specs.Faults.{fault_by, with_fault}
use Rattle.cfi_cores.specs.Vdso.{vdso_by}
use Rattle.cfi_cores.proofs.core_heads.heads_by.Goals as goal

pub returns : goal.returns
returns c = λ bytes size said.
    let keys = answers_always _ _ _ (λ f a r next called. search rules) in
    let contents = said in
    record {
      machine_is = refl;
      threads_are = c.with_fault.ensures ∙ ap₂ with_fault (c.fault_by.ensures ∙ ap (λ (contents : Contents). fault_by contents.siginfo) contents) (ap (λ (contents : Contents). contents.threads) contents);
      name_is = ap (λ (contents : Contents). contents.name) contents;
      error_is = ap (λ (contents : Contents). contents.error) contents;
      mapped_are =
          c.in_ok-with_vdso.ensures
          ∙ ap₂ with_vdso (c.or_none-files.ensures ∙ ap (λ (contents : Contents). or_this [] contents.mapped) contents)
          (c.vdso_of-vdso.ensures bytes size ∙ ap (vdso_by (filter_map (loaded_in bytes) (segments_left c.args.headers))) (ap (λ (contents : Contents). contents.vector) contents));
      places_are = record {
        by_start = c.in_ok-sort_by_key.ensures.sorted (λ (p : ProgramHeader). p.p_vaddr) keys;
        stable =
            subst (λ (ps : List ProgramHeader). IsStableByKey (λ (p : ProgramHeader). p.p_vaddr) nat_cmp ps c.sort_by_key.new.self.items) c.in_ok-places.ensures
            (c.in_ok-sort_by_key.ensures.stable (λ (p : ProgramHeader). p.p_vaddr) keys);
      };
    }
