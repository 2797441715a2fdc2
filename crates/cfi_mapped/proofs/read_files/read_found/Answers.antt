use Rattle.std.proofs.Common.{◌≡◌, Option, subst, true}
use Rattle.cfi_mapped.specs.declared.code_parts.CodeParts.{CodeParts}
use Rattle.cfi_mapped.specs.CodeParts.{is_whole}
use Rattle.cfi_mapped.proofs.ReadFiles.{found_copy, found_there}
use Rattle.cfi_mapped.proofs.read_files.read_found.Goals as goal

pub returns-in-Some-clause-contents : goal.returns-in-Some-clause-contents
returns-in-Some-clause-contents g c =
    found_there (g.O.Opener.may_open c.args.opener.now) g.O.File.Read.remaining c.args.name.now c.args.build.now c.find.result c.find.ensures c.in_ok-found.found c.in_ok-found.ensures.contents c.in-Some.code c.in-Some.is

pub returns-in-Some-clause-whole : goal.returns-in-Some-clause-whole
returns-in-Some-clause-whole g c = λ whole.
    subst (λ (o : Option CodeParts). is_whole o ≡ true) c.in-Some.is (c.in_ok-found.ensures.whole whole)

pub returns-in-None-clause-contents : goal.returns-in-None-clause-contents
returns-in-None-clause-contents g c =
    found_copy (g.O.Opener.may_open c.args.opener.now) g.O.File.Read.remaining c.args.name.now c.args.build.now c.find.result c.find.ensures c.in_ok-found.found c.in_ok-found.ensures.contents c.in-None.is c.read_copy.result c.read_copy.ensures.contents
