use Rattle.std.proofs.Common.{ℕ, List, Option, subst}
use Rattle.cfi_text.specs.Readings.{AreLeft}
use Rattle.cfi_commands.specs.Disks.{of_any_kind, path_of}
use Rattle.cfi_commands.proofs.targets.read_list.Goals as goal

pub returns-in-Ok : goal.returns-in-Ok
returns-in-Ok g c = (
  c.in-Some.input,
  subst (λ (opened : Option _). g.S.System.may_open c.args.system.now of_any_kind (path_of c.args.list.now) opened) c.in-Some.is c.open_named.ensures,
  subst (λ (left : Option (List ℕ)). AreLeft left c.in-Ok.text.items) (g.met.S.System.same_bytes c.in-Some.input) c.in-Ok.ensures.all,
)
