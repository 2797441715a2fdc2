use Rattle.std.proofs.Common.{◌≡◌, ◌∙◌, ◌++◌, ap₂, codes, drop, rules, string_bytes, take}
use Rattle.std.proofs.lemmas.Result.{IfOk-weaker}
use Rattle.hex.specs.Hex.{encode_lower}
use Rattle.cfi_commands.proofs.FolderLemmas.{in_one, made_is}
use Rattle.cfi_commands.proofs.folders.build_path.Goals as goal

pub returns : goal.returns
returns c =
    let first : string_bytes c.in_ok-first.first ≡ encode_lower (take 1 c.args.build.now) = search rules in
    let others : string_bytes c.in_ok-others.others ≡ encode_lower (drop 1 c.args.build.now) = search rules in
    made_is string_bytes c.format.result c.ok-3.result _ c.ok-3.ensures.value
    (IfOk-weaker c.format.result _ _ (λ s h. h ∙ in_one c.args.folder.now (codes "/.build-id/") (string_bytes c.in_ok-first.first) (codes "/") (string_bytes c.in_ok-others.others) c.args.end.now
    ∙ ap₂ (λ a b. c.args.folder.now ++ codes "/.build-id/" ++ a ++ codes "/" ++ b ++ c.args.end.now) first others) c.format.ensures.ok)
