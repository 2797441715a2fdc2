use Rattle.std.proofs.Common.{◌≡◌, ◌∙◌, true, List, ap, subst, sym}
use Rattle.cfi_mapped.specs.declared.opened_file.OpenedFile.{OpenedFile}
use Rattle.cfi_mapped.specs.CodeParts.{is_whole}
use Rattle.cfi_mapped.specs.OpenedFiles.{AreOpenedAs, are_whole}
use Rattle.cfi_mapped.proofs.FileLemmas.{whole_pushed}
use Rattle.cfi_cores.specs.CoreFiles.{core_view}
use Rattle.cfi_core_stacks.specs.CoreCode.{vdso_file, with_vdso_file}
use Rattle.cfi_core_stacks.proofs.KnownLemmas.{some_is}
use Rattle.cfi_core_stacks.proofs.VdsoFiles.{no_vdso, vdso_pushed}
use Rattle.cfi_core_stacks.proofs.core_files.push_vdso.Goals as goal

pub returns-in_ok-push-in-Some-clause-opened : goal.returns-in_ok-push-in-Some-clause-opened
returns-in_ok-push-in-Some-clause-opened c = λ all are.
    let core = core_view c.args.core.now in
    subst (λ (opened : List OpenedFile). AreOpenedAs opened (with_vdso_file core all)) (sym c.in_ok-push-in-Some.ensures.items)
    (vdso_pushed c.args.opened.now.items c.in_ok-file.field-0 c.in-Some.file (vdso_file core) c.in-Some.is c.in_ok-file.ensures.vdso all are)

pub returns-in_ok-push-in-Some-clause-whole : goal.returns-in_ok-push-in-Some-clause-whole
returns-in_ok-push-in-Some-clause-whole c = λ are.
    ap are_whole c.in_ok-push-in-Some.ensures.items
    ∙ whole_pushed c.args.opened.now.items c.in-Some.file are (some_is c.in_ok-file.field-0 c.in-Some.file (λ one. is_whole one.code ≡ true) c.in-Some.is c.in_ok-file.ensures.whole)

pub returns-in-None-clause-opened : goal.returns-in-None-clause-opened
returns-in-None-clause-opened c = λ all are.
    no_vdso c.args.opened.now.items c.in_ok-file.field-0 (vdso_file (core_view c.args.core.now)) c.in-None.is c.in_ok-file.ensures.vdso all are
