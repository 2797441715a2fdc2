use Rattle.gimli_cfi.proofs.hdr.starts.SignedStartsStartSource.start.Goals as goal

pub returns-clause-answered : goal.returns-clause-answered
returns-clause-answered g c = c.start_of_row.ensures

pub returns-clause-counted : goal.returns-clause-counted
returns-clause-counted g c = c.next-self.ensures
