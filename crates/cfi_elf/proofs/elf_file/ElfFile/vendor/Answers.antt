use Rattle.std.proofs.Common.{Bool, ap, sym, ne_eqb}
use Rattle.std.specs.Prelude.{if◌then◌else◌}
use Rattle.cfi_read_core.specs.declared.common.Vendor.TheVariants.{Default, AArch64}
use Rattle.cfi_elf.specs.ElfFiles.{vendor_of}
use Rattle.cfi_elf.proofs.elf_file.ElfFile.vendor.Goals as goal

pub returns-then-self-eq-EM_AARCH64 : goal.returns-then-self-eq-EM_AARCH64
returns-then-self-eq-EM_AARCH64 c = sym (ap vendor_of c.if-self-eq-EM_AARCH64.true)

pub returns-else-self-eq-EM_AARCH64 : goal.returns-else-self-eq-EM_AARCH64
returns-else-self-eq-EM_AARCH64 c =
    sym (ap (λ (b : Bool). if b then AArch64 else Default) (ne_eqb c.args.self.now.header.kind.e_machine 183 c.if-self-eq-EM_AARCH64.false))
