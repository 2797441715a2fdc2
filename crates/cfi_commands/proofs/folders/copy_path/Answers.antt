use Rattle.std.proofs.Common.{◌≡◌, ◌++◌, IfSome, codes, rules, string_bytes, subst}
use Rattle.clap.specs.Words.{Text}
use Rattle.cfi_commands.specs.Folders.{build_path}
use Rattle.cfi_commands.proofs.folders.copy_path.Goals as goal

pub returns : goal.returns
returns c =
    let copies : c.as_str.result.now ≡ c.args.folder.now ++ codes "/.debug" = search rules in
    subst (λ (folder : Text). IfSome c.build_path.result (λ path. string_bytes path ≡ build_path folder c.args.build.now (codes "/elf"))) copies c.build_path.ensures
