use Rattle.cfi_rows.proofs.run.Goals as goal

pub returns : goal.returns
returns g c = c.run_process.ensures
