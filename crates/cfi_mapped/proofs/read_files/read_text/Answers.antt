use Rattle.cfi_mapped.proofs.ReadFiles.{none_read, read_some}
use Rattle.cfi_mapped.proofs.read_files.read_text.Goals as goal

pub returns-in-Some-clause-contents : goal.returns-in-Some-clause-contents
returns-in-Some-clause-contents g c = read_some g.R.Read.remaining c.args.opened c.in-Some.text c.read_to_end.result c.in-Some.is c.read_to_end.ensures.contents

pub returns-in-None-clause-contents : goal.returns-in-None-clause-contents
returns-in-None-clause-contents g c = none_read g.R.Read.remaining c.args.opened c.in-None.is
