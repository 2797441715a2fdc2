use Rattle.std.proofs.Common.{◌∙◌, List, ap, inl, inr, map, refl, subst, sym}
use Rattle.cfi_mapped.specs.declared.opened_file.OpenedFile.{OpenedFile}
use Rattle.cfi_mapped.specs.OpenedFiles.{AreOpenedAs}
use Rattle.cfi_mapped.specs.Wanted.{wanted_view}
use Rattle.cfi_text.specs.declared.reading.InputError.TheVariants.{OutOfMemory}
use Rattle.cfi_processes.specs.KnownFiles.{KnownFile, known_view}
use Rattle.cfi_processes.specs.ProfileFiles.{AreProfileFilesOf}
use Rattle.cfi_stacks.specs.Choices.{choice_view}
use Rattle.cfi_stacks.proofs.ContentLemmas.{by_files}
use Rattle.cfi_stacks.proofs.VisitedSo.{AllOf}
use Rattle.cfi_stacks.proofs.visits.visit_mapped.Goals as goal

pub returns-in-Ok-profile_files : goal.returns-in-Ok-profile_files
returns-in-Ok-profile_files g c =
    let visit = c.args.visit.now in
    let known = g.I.FileInput.bytes c.args.input.now in
    let (all, are, hold) = c.in-Ok-read_files.ensures.opened in
    let same = subst (λ (opened : List OpenedFile). AreOpenedAs opened all) (sym c.as_slice-in-Ok-read_files.ensures.value) hold in
    let named = subst (λ (files : List KnownFile). AreProfileFilesOf visit.with_functions all files) (sym (ap (map known_view) c.as_slice-in-Ok-profile_files.ensures.value)) (c.in-Ok-profile_files.ensures all same) in
    inl (by_files visit.with_functions (g.O.Opener.may_open visit.opener.now) g.O.File.Read.remaining
    (AllOf g.V.Visitor.visits g.V.Visitor.refuses visit.with_functions (choice_view visit.choice.now) (g.O.Opener.may_open visit.opener.now) g.O.File.Read.remaining (c.args.visitor.now, c.args.target.now) (c.visit_samples.new.visitor, c.visit_samples.new.target) c.visit_samples.result)
    known c.args.index.now c.args.machine (map wanted_view c.as_slice.result.now) all (map known_view c.as_slice-in-Ok-profile_files.result.now)
    (λ pieces is. ap (map wanted_view) c.as_slice.ensures.value ∙ c.in-Ok.ensures known pieces is) are named c.visit_samples.ensures)

pub returns-in-Ok-read_files : goal.returns-in-Ok-read_files
returns-in-Ok-read_files g c = inr (OutOfMemory, refl, refl)

pub returns-in-Ok : goal.returns-in-Ok
returns-in-Ok g c = inr (OutOfMemory, refl, refl)

pub returns : goal.returns
returns g c = inr (c.in-Err.error, refl, refl)
