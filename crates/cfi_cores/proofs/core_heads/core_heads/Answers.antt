use Rattle.std.proofs.Common.{◌≡◌, ◌≤◌, ◌∙◌, ◌==◌, Ok, ap, arith, length, rules, sym, subst, false}
use Rattle.cfi_elf.specs.declared.file_header.FileHeader.{FileHeader}
use Rattle.cfi_elf.specs.ElfFiles.{file_view}
use Rattle.cfi_elf.specs.SegmentLists.{segments_left}
use Rattle.cfi_processes.specs.declared.registers.SampleMachine.{SampleMachine}
use Rattle.cfi_cores.specs.CoreFiles.{core_with}
use Rattle.cfi_cores.specs.CoreHeads.{HasHeads}
use Rattle.cfi_cores.proofs.CutCores.{core_found}
use Rattle.cfi_cores.proofs.PartBytes.{some_there}
use Rattle.cfi_cores.proofs.core_heads.core_heads.Goals as goal

pub returns-in-Ok-heads_by : goal.returns-in-Ok-heads_by
returns-in-Ok-heads_by c = λ bytes of.
    let first = c.args.image.first.now in
    let file = file_view c.in-Ok.file in
    let machine = c.in-Ok-machine_of.machine in
    let headers = segments_left c.in-Ok-segments_of_elf.headers in
    let heads = c.in-Ok-heads_by.heads in
    let long : 64 ≤ length first = omega arith in
    let shown : (c.header.result.sizes.e_phnum == 65535) ≡ false = search rules in
    let few : (file.header.sizes.e_phnum == 65535) ≡ false = ap (λ (h : FileHeader). h.sizes.e_phnum == 65535) (sym c.header.ensures) ∙ shown in
    let has : HasHeads machine bytes headers heads = c.in-Ok-heads_by.ensures bytes (sym of.length_is) (some_there c.in_ok-contents.field-0 c.in-Some.contents _ c.in-Some.is (c.in_ok-contents.ensures bytes of)) in
    let found = core_found first bytes of.first_is long file machine headers (sym c.in-Ok.ensures) few (sym c.in-Ok-machine_of.ensures) (sym c.in-Ok-segments_of_elf.ensures) in
    record {
      headers = headers;
      reads = found ∙ ap (λ (m : SampleMachine). Ok (core_with m bytes headers)) (sym has.machine_is);
      has = subst (λ (m : SampleMachine). HasHeads m bytes headers heads) (sym has.machine_is) has;
    }
