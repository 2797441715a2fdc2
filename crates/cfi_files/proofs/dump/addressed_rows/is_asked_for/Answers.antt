use Rattle.cfi_files.proofs.dump.addressed_rows.is_asked_for.Goals as goal

pub returns-in-Some : goal.returns-in-Some
returns-in-Some g c = rw c.in-Some.is c.contains_any.ensures
