use Rattle.cfi_state.proofs.table.context.UnwindContext+T.new.Goals as goal

pub returns-clause-ok : goal.returns-clause-ok
returns-clause-ok g c = c.new_in.ensures.ok

pub returns-clause-err : goal.returns-clause-err
returns-clause-err g c = c.new_in.ensures.err
