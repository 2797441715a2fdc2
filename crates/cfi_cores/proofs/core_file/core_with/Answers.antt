use Rattle.std.proofs.Common.{[], refl, ap, ap₂, map, ◌∙◌, rules}
use Rattle.std.proofs.lemmas.List.Sorted.{IsNonDecreasingBy-from_sort_by_key, answers_always}
use Rattle.cfi_elf.specs.Options.{or_this}
use Rattle.cfi_cores.specs.Contents.{Contents}
use Rattle.cfi_cores.specs.CoreFiles.{with_vdso}
use Rattle.cfi_cores.specs.CoreSegments.{segment_view}
use Rattle.cfi_cores.specs.Faults.{fault_by, with_fault}
use Rattle.cfi_cores.specs.Vdso.{vdso_by}
use Rattle.cfi_cores.proofs.core_file.core_with.Goals as goal

pub returns-clause-core : goal.returns-clause-core
returns-clause-core c =
    let keys = answers_always _ _ _ (λ f a r next called. search rules) in record {
      machine = refl;
      name = ap (λ (contents : Contents). contents.name) c.in_ok-contents.ensures;
      threads = c.with_fault.ensures ∙ ap₂ with_fault (c.fault_by.ensures ∙ ap (λ (contents : Contents). fault_by contents.siginfo) c.in_ok-contents.ensures) (ap (λ (contents : Contents). contents.threads) c.in_ok-contents.ensures);
      mapped = c.in_ok-with_vdso.ensures ∙ ap₂ with_vdso (c.or_none.ensures ∙ ap (λ (contents : Contents). or_this [] contents.mapped) c.in_ok-contents.ensures)
          (c.vdso_by-vdso.ensures ∙ ap₂ vdso_by (ap (map segment_view) c.as_slice.ensures.value ∙ c.in_ok-segments.ensures) (ap (λ (contents : Contents). contents.vector) c.in_ok-contents.ensures));
      segments = record {
        read = c.in_ok-segments.segments.items;
        ordered = c.sort_by_key.new.self.items;
        are = c.in_ok-segments.ensures;
        by_start = c.in_ok-sort_by_key.ensures.sorted (λ s. s.start) keys;
        stable = c.in_ok-sort_by_key.ensures.stable (λ s. s.start) keys;
        view = refl;
      };
      error = ap (λ (contents : Contents). contents.error) c.in_ok-contents.ensures;
    }

pub returns-clause-in_order : goal.returns-clause-in_order
returns-clause-in_order c = IsNonDecreasingBy-from_sort_by_key (λ s. s.start) c.sort_by_key.new.self.items c.in_ok-sort_by_key.ensures.sorted (λ a r f' k. search rules)
