use Rattle.std.proofs.Common.{◌≡◌, subst}
use Rattle.std.specs.List.{insert}
use Rattle.std.specs.Result.{OnOk}
use Rattle.cfi_read_core.proofs.Edits.{as_accepted}
use Rattle.cfi_read_core.proofs.array_like.BoxArrayVecArrayLike.try_insert.Goals as goal

pub returns-clause-ok : goal.returns-clause-ok
returns-clause-ok g c =
    as_accepted c.try_insert.result c.map_err.result _ c.map_err.ensures.variant
    (subst (λ list. OnOk c.try_insert.result (c.try_insert.new.self.items ≡ insert list.items c.args.index c.args.item)) c.as_mut.ensures.value c.try_insert.ensures.ok)
