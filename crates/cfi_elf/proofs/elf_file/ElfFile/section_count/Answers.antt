use Rattle.std.proofs.Common.{Ok, ◌∙◌, eq-eqb}
use Rattle.cfi_elf.specs.SectionTables.{section_count}
use Rattle.cfi_elf.proofs.Chains.{chosen, ok_then}
use Rattle.cfi_elf.proofs.elf_file.ElfFile.section_count.Goals as goal

pub returns-then-self-eq0 : goal.returns-then-self-eq0
unfolding section_count
returns-then-self-eq0 c =
    ok_then _ _ (λ first. Ok first.sh_size) c.in_ok-first_section_header.ensures
    ∙ chosen _ _ (Ok c.args.self.now.header.sizes.e_shnum) (eq-eqb c.args.self.now.header.sizes.e_shnum 0 c.if-self-eq0.true)
