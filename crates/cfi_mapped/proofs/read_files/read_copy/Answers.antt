use Rattle.cfi_mapped.specs.Wanted.{copy_of}
use Rattle.cfi_mapped.specs.FileReads.{IsBuild}
use Rattle.cfi_mapped.proofs.ReadFiles.{build_at, no_code, some_code}
use Rattle.cfi_mapped.proofs.read_files.read_copy.Goals as goal

pub returns-in-Some-clause-contents : goal.returns-in-Some-clause-contents
returns-in-Some-clause-contents g c =
    let may_open = g.O.Opener.may_open c.args.opener.now in
    let remaining = g.O.File.Read.remaining in
    let build = c.args.build.now in
    some_code (IsBuild may_open remaining build (copy_of build)) _ c.in-Some.code c.in-Some.is
    (build_at may_open remaining build (copy_of build) c.open_copy.result c.open_copy.ensures _ c.in_ok-code.ensures.contents)

pub returns-in-None-clause-contents : goal.returns-in-None-clause-contents
returns-in-None-clause-contents g c =
    let may_open = g.O.Opener.may_open c.args.opener.now in
    let remaining = g.O.File.Read.remaining in
    let build = c.args.build.now in
    no_code (IsBuild may_open remaining build (copy_of build)) _ c.in-None.is
    (build_at may_open remaining build (copy_of build) c.open_copy.result c.open_copy.ensures _ c.in_ok-code.ensures.contents)
