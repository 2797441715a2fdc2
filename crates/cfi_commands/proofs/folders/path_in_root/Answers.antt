use Rattle.std.proofs.Common.{◌≡◌, ◌++◌, IfSome, rules, string_bytes, subst}
use Rattle.clap.specs.Words.{Text}
use Rattle.cfi_commands.specs.Folders.{folders_view, path_below}
use Rattle.cfi_commands.proofs.folders.path_in_root.Goals as goal

pub returns : goal.returns
returns c =
    let path : c.as_str.result.now ≡ c.args.folder.now ++ c.args.below.now ++ c.args.link.now = search rules in
    subst (λ (name : Text). IfSome c.path_below.result (λ path. string_bytes path ≡ path_below (folders_view c.args.folders).symfs name)) path c.path_below.ensures
