use Rattle.cfi_unwind.proofs.unwind_table.UnwindTable.into_current_row.Goals as goal

pub returns-then-holds_row : goal.returns-then-holds_row
returns-then-holds_row g c = record { some = (c.current_row.ensures, c.if-holds_row.true); none = tt }

pub returns-else-holds_row : goal.returns-else-holds_row
returns-else-holds_row g c = record { some = tt; none = c.if-holds_row.false }
