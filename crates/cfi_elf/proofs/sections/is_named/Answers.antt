use Rattle.cfi_elf.proofs.Cases.{named}
use Rattle.cfi_elf.proofs.sections.is_named.Goals as goal

pub returns : goal.returns
returns c = named c.args.names.now c.args.name.now c.args.header.now c.in_ok-found.found.now _ c.if-header-eq-SHT_NULL.false c.in_ok-found.ensures (cc)
