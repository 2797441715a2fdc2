use Rattle.std.proofs.Common.{Some}
use Rattle.cfi_mapped.proofs.ReadFiles.{none_of, was_read, whole_all, whole_of}
use Rattle.cfi_mapped.specs.FileReads.{IsAllLeft}
use Rattle.cfi_mapped.proofs.read_files.read_to_end.Goals as goal

pub returns-in-Some-clause-contents : goal.returns-in-Some-clause-contents
returns-in-Some-clause-contents g c =
    let left = g.R.Read.remaining c.args.text.now in
    whole_of left c.whole.result c.in-Some.bytes.items c.whole.ensures
    (was_read (λ bytes. IsAllLeft left (Some bytes.items)) c.read_all.result _ c.in_ok-bytes.ensures c.in-Some.bytes c.in-Some.is c.read_all.ensures.all)

pub returns-in-Some-clause-whole : goal.returns-in-Some-clause-whole
returns-in-Some-clause-whole g c = whole_all c.whole.result c.in-Some.bytes.items c.whole.ensures

pub returns-in-None-clause-contents : goal.returns-in-None-clause-contents
returns-in-None-clause-contents g c = none_of (g.R.Read.remaining c.args.text.now)
