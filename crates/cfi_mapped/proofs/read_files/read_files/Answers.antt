use Rattle.std.proofs.Common.{◌∙◌, List, [], ◌∷◌, ◌++◌, None, ap, get_or, map, refl, subst, sym}
use Rattle.cfi_mapped.specs.declared.opened_file.OpenedFile.{OpenedFile}
use Rattle.cfi_mapped.specs.declared.wanted.WantedFile.{WantedFile}
use Rattle.std.proofs.lemmas.List.Elements.{All-nil}
use Rattle.cfi_mapped.specs.Notices.{AreMissingSaid}
use Rattle.cfi_mapped.specs.OpenedFiles.{AreOpenedAs, Opened, are_whole, opened_as}
use Rattle.cfi_mapped.specs.Wanted.{wanted_view}
use Rattle.cfi_mapped.proofs.Missing.{missing_pushed}
use Rattle.cfi_mapped.proofs.FileLemmas.{all_opened, none_opened, one_opened, opened_pushed, whole_pushed}
use Rattle.cfi_mapped.proofs.read_files.read_files.Goals as goal

no_file : WantedFile
no_file = record { name = record { ref_ptr = (0, 0); now = [] }; build_id = None; process = None }

pub loop-file-init : goal.loop-file-init
loop-file-init g c = (
  ([], subst (λ (list : List OpenedFile). AreOpenedAs list []) (sym c.new-opened.ensures.items) refl, none_opened _ _ (map wanted_view c.args.files.now)),
  λ whole. ap are_whole c.new-opened.ensures.items,
  subst (AreMissingSaid (g.O.Opener.has_said c.args.opener.now)) (sym c.new-opened.ensures.items) (All-nil _),
)

pub loop-file-preserved : goal.loop-file-preserved
unfolding no_file
loop-file-preserved g c =
    let files = c.args.files.now in
    let i = c.loop-file.file-index in
    let before = c.loop-file.opened.items in
    let one = c.in_ok-read_file.field-0 in
    let wanted = get_or files i no_file in
    let ((first, are, so), all_whole, all_said) = c.loop-file.invariant in
    let said = g.O.Opener.has_said c.args.opener.now in
    let (bytes, debug, contents, debug_of, hold) = c.in_ok-read_file.ensures.opened in
    let file : Opened = opened_as (wanted_view wanted) bytes debug in
    let pushed = c.in_ok-push.ensures.items in (
      (
        first ++ file ∷ [],
        subst (λ (list : List OpenedFile). AreOpenedAs list (first ++ file ∷ [])) (sym pushed) (opened_pushed before first one file are hold),
        one_opened _ _ (map wanted_view files) files i no_file first (first ++ file ∷ []) bytes debug c.loop-file-test.true refl so contents debug_of,
      ),
      λ whole. ap are_whole pushed ∙ whole_pushed before one (all_whole whole) (c.in_ok-read_file.ensures.whole whole),
      subst (AreMissingSaid said) (sym pushed) (missing_pushed said before one all_said c.in_ok-read_file.ensures.said),
    )

pub returns-clause-opened : goal.returns-clause-opened
returns-clause-opened g c =
    let ((first, are, so), all_whole, all_said) = c.loop-file.invariant in
    (first, all_opened _ _ c.args.files.now c.loop-file.file-index first c.loop-file-test.false so, are)

pub returns-clause-whole : goal.returns-clause-whole
returns-clause-whole g c =
    let (opened, all_whole, all_said) = c.loop-file.invariant in
    all_whole

pub returns-clause-said : goal.returns-clause-said
returns-clause-said g c =
    let (opened, all_whole, all_said) = c.loop-file.invariant in
    all_said
