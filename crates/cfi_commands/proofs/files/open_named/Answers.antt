use Rattle.std.proofs.Common.{ℕ, List, subst}
use Rattle.cfi_commands.specs.Disks.{of_any_kind}
use Rattle.cfi_commands.proofs.files.open_named.Goals as goal

pub returns : goal.returns
returns g c =
    subst (λ (path : List ℕ). g.S.System.may_open c.args.system.now of_any_kind path c.open.result) c.path_of.ensures c.open.ensures
