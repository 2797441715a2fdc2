use Rattle.std.proofs.Common.{◌∙◌, Option, ap, subst, sym}
use Rattle.cfi_elf.specs.Images.{Image}
use Rattle.cfi_mapped.specs.declared.code_parts.CodeParts.{CodeParts}
use Rattle.cfi_mapped.specs.CodeParts.{ArePartsOfBytes}
use Rattle.cfi_mapped.specs.FileBuilds.{id_in, is_known_build}
use Rattle.cfi_mapped.proofs.ReadFiles.{built, none_built, not_built}
use Rattle.cfi_mapped.proofs.read_files.if_built.Goals as goal

pub returns-then-has_build-clause-built : goal.returns-then-has_build-clause-built
returns-then-has_build-clause-built c = λ bytes of.
    let build = c.args.build.now in
    built build c.in-Some.code bytes (subst (λ (o : Option CodeParts). ArePartsOfBytes o bytes) c.in-Some.is of)
    (sym (c.has_build.ensures ∙ ap (λ (image : Image). is_known_build build (id_in image)) c.image.ensures) ∙ c.if-has_build.true)

pub returns-else-has_build-clause-built : goal.returns-else-has_build-clause-built
returns-else-has_build-clause-built c = λ bytes of.
    let build = c.args.build.now in
    not_built build c.in-Some.code bytes (subst (λ (o : Option CodeParts). ArePartsOfBytes o bytes) c.in-Some.is of)
    (sym (c.has_build.ensures ∙ ap (λ (image : Image). is_known_build build (id_in image)) c.image.ensures) ∙ c.if-has_build.false)

pub returns-in-None-clause-built : goal.returns-in-None-clause-built
returns-in-None-clause-built c = λ bytes of.
    none_built c.args.build.now bytes (subst (λ (o : Option CodeParts). ArePartsOfBytes o bytes) c.in-None.is of)
