use Rattle.cfi_programs.proofs.run.run_process.Goals as goal

pub returns : goal.returns
returns g c = (_, c.run_for.ensures)
