use Rattle.cfi_mapped.proofs.ReadFiles.{build_of}
use Rattle.cfi_mapped.proofs.read_files.read_build.Goals as goal

pub returns-clause-contents : goal.returns-clause-contents
returns-clause-contents g c =
    build_of g.O.File.Read.remaining c.args.build.now c.args.opened c.in_ok-code.code c.if_built.result c.in_ok-code.ensures.contents c.if_built.ensures.built

pub returns-clause-whole : goal.returns-clause-whole
returns-clause-whole g c = λ whole. c.if_built.ensures.whole (c.in_ok-code.ensures.whole whole)
