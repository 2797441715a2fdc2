use Rattle.cfi_c.proofs.packed_registers.write_registers.Goals as goal

pub returns : goal.returns
returns c = c.write_ruled.ensures.copied c.args.registers.now c.copy_values.ensures
