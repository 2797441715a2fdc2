use Rattle.std.proofs.Common.{◌≡◌, ◌∙◌, ap, get_or, map, rules, subst, sym}
use Rattle.std.proofs.lemmas.List.{map_push}
use Rattle.cfi_mapped.specs.declared.opened_file.OpenedFile.{OpenedFile}
use Rattle.cfi_processes.specs.KnownFiles.{known_view}
use Rattle.cfi_processes.proofs.ProfileLemmas.{IsFileFor, all_files, one_file}
use Rattle.cfi_processes.proofs.profile_files.profile_files.Goals as goal

pub loop-file-preserved : goal.loop-file-preserved
loop-file-preserved c =
    let opened = c.args.opened.now in
    let i = c.loop-file.file-index in
    let before = c.loop-file.files.items in
    let file = c.in_ok-profile_file.field-0 in
    let same : get_or opened i c.file-item.result ≡ c.file-item.result = search rules in
    one_file c.args.named opened opened i c.file-item.result (map known_view before) (map known_view c.push.new.self.items) (known_view file) c.loop-file-test.true
    (ap (map known_view) c.in_ok-push.ensures.items ∙ map_push known_view before file)
    c.loop-file.invariant
    (subst (λ (o : OpenedFile). IsFileFor c.args.named o (known_view file)) (sym same) c.in_ok-profile_file.ensures)

pub returns : goal.returns
returns c = all_files c.args.named c.args.opened.now c.loop-file.file-index (map known_view c.loop-file.files.items) c.loop-file-test.false c.loop-file.invariant
