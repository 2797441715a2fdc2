use Rattle.std.proofs.Common.{◌≡◌, ◌∙◌, ◌++◌, [], ◌∷◌, Some, false, map, true, ap, subst, sym, rules}
use Rattle.cfi_mapped.specs.FileLists.{AreKnown}
use Rattle.cfi_mapped.specs.Wanted.{wanted_view}
use Rattle.cfi_mapped.specs.WantedFiles.{is_among, with_file}
use Rattle.cfi_mapped.proofs.FileListLemmas.{known_more, put_known, put_new, was_new, was_there}
use Rattle.cfi_mapped.proofs.file_list.FileList.put.Goals as goal

pub returns-then-not-branch : goal.returns-then-not-branch
returns-then-not-branch c =
    let files = c.self.inside.list.items in
    let file = c.args.file in
    let viewed : files ≡ c.args.self.now = search rules in
    let added : c.in_ok-insert.field-0 ≡ false = search rules in
    let among : is_among (map wanted_view files) (wanted_view file) ≡ true =
    sym (c.self.invariant (file.name, file.build_id, file.process)) ∙ was_there c.in_ok-insert.field-0 _ c.in_ok-insert.ensures.added added in
    ap (map wanted_view) c.reserve.ensures.items ∙ put_known files file among ∙ ap (λ l. with_file (map wanted_view l) (Some (wanted_view file))) viewed

pub invariant_of-self-2 : goal.invariant_of-self-2
invariant_of-self-2 c =
    let files = c.self.inside.list.items in
    let file = c.args.file in
    let pushed : c.push.new.self.items ≡ files ++ file ∷ [] = c.in_ok-push.ensures.items ∙ ap (λ l. l ++ file ∷ []) c.reserve.ensures.items in
    subst (AreKnown c.insert.new.self) (sym pushed) (known_more c.self.inside.known c.insert.new.self files file c.self.invariant c.in_ok-insert.ensures.updates)

pub returns : goal.returns
returns c =
    let files = c.self.inside.list.items in
    let file = c.args.file in
    let viewed : files ≡ c.args.self.now = search rules in
    let added : c.in_ok-insert.field-0 ≡ true = search rules in
    let among : is_among (map wanted_view files) (wanted_view file) ≡ false =
    sym (c.self.invariant (file.name, file.build_id, file.process)) ∙ was_new c.in_ok-insert.field-0 _ c.in_ok-insert.ensures.added added in
    let pushed : c.push.new.self.items ≡ files ++ file ∷ [] = c.in_ok-push.ensures.items ∙ ap (λ l. l ++ file ∷ []) c.reserve.ensures.items in
    put_new files c.push.new.self.items file among pushed ∙ ap (λ l. with_file (map wanted_view l) (Some (wanted_view file))) viewed
