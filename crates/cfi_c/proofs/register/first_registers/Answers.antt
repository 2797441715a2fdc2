use Rattle.std.proofs.Common.{sym, arith}
use Rattle.std.proofs.lemmas.List.{length-take-le, take_all}
use Rattle.cfi_c.proofs.register.first_registers.Goals as goal

pub slice_bounds-result-end : goal.slice_bounds-result-end
slice_bounds-result-end c = sym (length-take-le 256 c.args.registers.now (omega (arith, c.if-registers-gt256.true)))

pub returns-then-registers-gt256-clause-room : goal.returns-then-registers-gt256-clause-room
returns-then-registers-gt256-clause-room c = omega (arith, length-take-le 256 c.args.registers.now (omega (arith, c.if-registers-gt256.true)))

pub returns-else-registers-gt256-clause-first : goal.returns-else-registers-gt256-clause-first
returns-else-registers-gt256-clause-first c = sym (take_all 256 c.args.registers.now (omega (arith, c.if-registers-gt256.false)))
