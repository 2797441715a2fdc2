use Rattle.cfi_entry.proofs.cie.CommonInformationEntry+R.encoding.Goals as goal

pub returns-clause-version : goal.returns-clause-version
returns-clause-version g c = c.from.ensures
