use Rattle.cfi_row_text.proofs.Computing.{computing}
use Rattle.cfi_row_text.proofs.row_text.put_rule_register.Goals as goal

pub returns-in-X86_64-eq12 : goal.returns-in-X86_64-eq12
unfolding computing
returns-in-X86_64-eq12 c = rw (c.in-X86_64-eq12.is-0, c.in-X86_64-eq12.is-1) c.put-in-X86_64-eq12.ensures

pub returns-in-X86_64-eq13 : goal.returns-in-X86_64-eq13
unfolding computing
returns-in-X86_64-eq13 c = rw (c.in-X86_64-eq13.is-0, c.in-X86_64-eq13.is-1) c.put-in-X86_64-eq13.ensures

pub returns-in-X86_64-eq14 : goal.returns-in-X86_64-eq14
unfolding computing
returns-in-X86_64-eq14 c = rw (c.in-X86_64-eq14.is-0, c.in-X86_64-eq14.is-1) c.put-in-X86_64-eq14.ensures

pub returns-in-X86_64-eq15 : goal.returns-in-X86_64-eq15
unfolding computing
returns-in-X86_64-eq15 c = rw (c.in-X86_64-eq15.is-0, c.in-X86_64-eq15.is-1) c.put-in-X86_64-eq15.ensures
